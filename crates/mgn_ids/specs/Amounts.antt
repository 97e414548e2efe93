-- Quantities, premiums and units as commands give them (own format and limits).
use Rattle.std.specs.Prelude.{ℕ, ℤ, ◌^◌, ◌≤◌, ◌==◌, if◌then◌else◌, unsigned_abs, List, Result, Ok, Err}
use Rattle.mgn_num.specs.Reading.{signed_in, unsigned_in}
use Rattle.mgn_ids.specs.declared.fault.IdFault.{IdFault}
use Rattle.mgn_ids.specs.declared.fault.IdFault.TheVariants.{Range}
use Rattle.mgn_ids.specs.Number.{id_of}

-- 1 to 1,000,000 contracts in size
pub record IsLotQuantity (z : ℤ) : Type 0 where
  pub some : 1 ≤ unsigned_abs z
  pub most : unsigned_abs z ≤ 10 ^ 6

-- 1 to 10^15 units or cents
pub record IsUnits (n : ℕ) : Type 0 where
  pub some : 1 ≤ n
  pub most : n ≤ 10 ^ 15

-- the quantity that a word spells, which is not 0
unfoldable pub quantity_in : List ℕ → Result ℤ IdFault
quantity_in word =
    elim (id_of (signed_in (10 ^ 6) word)) [ Ok z ↦ (if unsigned_abs z == 0 then Err Range else Ok z) | Err fault ↦ Err fault ]

-- the premium or limit that a word spells
unfoldable pub premium_in : List ℕ → Result ℕ IdFault
premium_in word = id_of (unsigned_in 0 (10 ^ 8) word)

-- the units or cents that a word spells
unfoldable pub units_in : List ℕ → Result ℕ IdFault
units_in word = id_of (unsigned_in 1 (10 ^ 15) word)
