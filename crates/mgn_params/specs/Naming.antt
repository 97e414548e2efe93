-- Which intercommodity spreads name a commodity.
use Rattle.std.specs.Prelude.{ℕ, ◌≡◌, ◌<◌, ◌==◌, if◌then◌else◌, Bool, List, length, slice_index}
use Rattle.std.specs.Int.{bit_at}
use Rattle.std.specs.List.{list_any}
use Rattle.mgn_params.specs.declared.tables.CreditSpread.{CreditSpread}
use Rattle.mgn_params.specs.declared.tables.Leg.{Leg}
use Rattle.mgn_params.specs.Tables.{credit_spread_at, legs_of}

-- whether a leg is of a commodity
abbrev pub names : ℕ → List Leg → Bool
names g legs = list_any (λ leg. leg.commodity == g) legs

-- the spreads that name a commodity, as the bits of a number: bit i is that of the spread at place i
abbrev pub IsNaming : List CreditSpread → ℕ → ℕ → Type 0
IsNaming spreads g places = (i : ℕ) → bit_at places i ≡ (if names g (legs_of (credit_spread_at spreads i)) then 1 else 0)

-- those of each of so many commodities
pub record AreNamings (commodities : ℕ) (spreads : List CreditSpread) (naming : List ℕ) : Type 0 where
  pub one_each : length naming ≡ commodities
  pub each : (g : ℕ) → g < commodities → IsNaming spreads g (slice_index naming g)
