-- The numbers of lots, orders and sessions (own format and limits).
use Rattle.std.specs.Prelude.{ℕ, ◌^◌, ◌≤◌, List, Result, Ok, Err}
use Rattle.mgn_num.specs.Reading.{unsigned_in}
use Rattle.mgn_num.specs.declared.reading.NumFault.{NumFault}
use Rattle.mgn_num.specs.declared.reading.NumFault.TheVariants.{Syntax as NoNumber, Range as OutOfRange}
use Rattle.mgn_ids.specs.declared.fault.IdFault.{IdFault}
use Rattle.mgn_ids.specs.declared.fault.IdFault.TheVariants.{Syntax, Range}

-- lots and orders: 1 to 10^12
pub record IsIdNumber (n : ℕ) : Type 0 where
  pub low : 1 ≤ n
  pub high : n ≤ 10 ^ 12

-- sessions: 1 to 16
pub record IsSessionNumber (n : ℕ) : Type 0 where
  pub low : 1 ≤ n
  pub high : n ≤ 16

-- a number that was read, or the same fault
abbrev pub id_of : {A : Type 0} → Result A NumFault → Result A IdFault
id_of (Ok n) = Ok n
id_of (Err NoNumber) = Err Syntax
id_of (Err OutOfRange) = Err Range

-- the number of a lot or an order that a word spells
unfoldable pub number_in : List ℕ → Result ℕ IdFault
number_in word = id_of (unsigned_in 1 (10 ^ 12) word)
