-- A change of a commodity's net delta that no spread notices: none of those that name the commodity forms before it, or after.
use Rattle.std.specs.Prelude.{ℕ, ◌≡◌, ◌<◌, ◌==◌, if◌then◌else◌, Bool, false, ℤ, List, length}
use Rattle.std.specs.Int.{bit_at}
use Rattle.mgn_params.specs.declared.tables.CreditSpread.{CreditSpread}
use Rattle.mgn_params.specs.declared.tables.Leg.{Leg}
use Rattle.mgn_params.specs.declared.tables.LegSide.{LegSide}
use Rattle.mgn_params.specs.Tables.{credit_spread_at, legs_of}
use Rattle.mgn_span.specs.Credits.{forms, rest_fits}
use Rattle.mgn_span.specs.Scan.{value_at}
use Rattle.mgn_span.specs.Words.{leg_at}
use Rattle.mgn_inter.specs.declared.spread_state.SpreadState.{SpreadState}
use Rattle.mgn_inter.specs.Rows.{rests_at}

-- no spread at some places, by their bits, forms
abbrev pub NoneForms : List CreditSpread → List ℤ → List ℕ → ℕ → Type 0
NoneForms spreads deltas risks places =
    (i : ℕ) → i < length spreads → bit_at places i ≡ 1 → forms (rests_at deltas risks spreads i) (legs_of (credit_spread_at spreads i)) ≡ false

-- two rests have the same directions
abbrev pub AreAlike : ℤ → ℤ → Type 0
AreAlike a b = (a_long : Bool) (side : LegSide) → rest_fits a_long a side ≡ rest_fits a_long b side

-- a row of what is kept beside legs, with another rest for those of a commodity
abbrev pub IsRowMoved : ℕ → ℤ → List Leg → List ℤ → List ℤ → Type 0
IsRowMoved g rest legs old new =
    (j : ℕ) → j < length legs → value_at new j ≡ (if (leg_at legs j).commodity == g then rest else value_at old j)

-- what is kept of a spread that forms neither before nor after the commodity has another rest
pub record IsMoved (g : ℕ) (rest : ℤ) (legs : List Leg) (old new : SpreadState) : Type 0 where
  pub rests_long : length new.rests ≡ 4
  pub after_long : length new.after ≡ 4
  pub rests : IsRowMoved g rest legs old.rests new.rests
  pub after : IsRowMoved g rest legs old.after new.after
  pub credits : new.credits ≡ old.credits
