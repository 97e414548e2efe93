-- Intercommodity spreads, formed in file order from the rests of the net deltas (own profile, after SPAN).
use Rattle.std.specs.Prelude.{ℕ, ◌+◌, ◌*◌, ◌/◌, Bool, true, false, not, ◌||◌, if◌then◌else◌, min, ℤ, pos, int_lt, unsigned_abs, List, [], ◌∷◌, length, slice_index, slice_set, replicate}
use Rattle.std.specs.List.{fold, list_all}
use Rattle.mgn_params.specs.declared.tables.CreditSpread.{CreditSpread}
use Rattle.mgn_params.specs.declared.tables.Leg.{Leg}
use Rattle.mgn_params.specs.declared.tables.LegSide.{LegSide}
use Rattle.mgn_params.specs.declared.tables.LegSide.TheVariants.{A, B}
use Rattle.mgn_span.specs.Scan.{value_at}
use Rattle.mgn_span.specs.Stages.{used}
use Rattle.mgn_params.specs.Tables.{legs_of}
use Rattle.mgn_num.specs.Amount.{nearer_zero}

-- whether a leg is to be long, where side A is long or not
abbrev pub is_long : Bool → LegSide → Bool
is_long a_long A = a_long
is_long a_long B = not a_long

-- whether a rest has the direction of a leg of a side
abbrev pub rest_fits : Bool → ℤ → LegSide → Bool
rest_fits a_long rest side = if is_long a_long side then int_lt (pos 0) rest else int_lt rest (pos 0)

-- whether that of a leg's commodity has the leg's direction
abbrev pub fits : Bool → List ℤ → Leg → Bool
fits a_long rests leg = rest_fits a_long (value_at rests leg.commodity) leg.side

-- a spread forms where side A is long and side B short, or the other way round
abbrev pub forms : List ℤ → List Leg → Bool
forms rests legs = list_all (fits true rests) legs || list_all (fits false rests) legs

-- how many spreads a leg alone would form, in ten-thousandths
abbrev pub leg_amount : List ℤ → Leg → ℕ
leg_amount rests leg = 10000 * unsigned_abs (value_at rests leg.commodity) / leg.ratio

-- the least over the legs
abbrev pub spread_amount : List ℤ → List Leg → ℕ
spread_amount rests [] = 0
spread_amount rests (leg ∷ legs) = fold (λ n other. min n (leg_amount rests other)) (leg_amount rests leg) legs

-- what the commodities have left after the legs' uses
abbrev pub rests_after : List ℤ → ℕ → List Leg → List ℤ
rests_after rests amount legs =
    fold (λ now leg. slice_set now leg.commodity (nearer_zero (value_at now leg.commodity) (used amount leg.ratio))) rests legs

-- a leg's credit, by the commodity's price risk and net delta
abbrev pub leg_credit : List ℤ → List ℕ → ℕ → ℕ → Leg → ℕ
leg_credit deltas risks rate amount leg =
    used amount leg.ratio * rate * slice_index risks leg.commodity / (20000 * unsigned_abs (value_at deltas leg.commodity))

-- what is credited to each commodity after the legs' credits
abbrev pub credits_after : List ℤ → List ℕ → ℕ → ℕ → List ℕ → List Leg → List ℕ
credits_after deltas risks rate amount credits legs =
    fold (λ now leg. slice_set now leg.commodity (slice_index now leg.commodity + leg_credit deltas risks rate amount leg)) credits legs

-- the rests and the credits after one more spread, formed if it can be
abbrev pub formed : List ℤ → List ℕ → List ℤ × List ℕ → CreditSpread → List ℤ × List ℕ
formed deltas risks now spread =
    let legs = legs_of spread in
    let amount = spread_amount now.0 legs in
    if forms now.0 legs
    then (rests_after now.0 amount legs, credits_after deltas risks spread.rate amount now.1 legs)
    else now

-- what the spreads credit to each commodity, in file order, by the commodities' net deltas and doubled price risks
abbrev pub credits_of : List ℤ → List ℕ → List CreditSpread → List ℕ
credits_of deltas risks spreads = (fold (formed deltas risks) (deltas, replicate (length deltas) 0) spreads).1
