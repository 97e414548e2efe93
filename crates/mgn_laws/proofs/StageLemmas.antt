-- Stages in their turns, what is left of a leg and what earlier ones used of it: for the laws of stages.
use Rattle.std.proofs.Common.{◌≡◌, ℕ, zero, suc, ◌+◌, ◌-◌, ◌<◌, ◌≤◌, ◌==◌, true, false, List, [], ◌∷◌, length, take, All, ⊎_elim, ap, ◌∙◌, refl, arith, add-one, length-set, take_all}
use Rattle.std.specs.Prelude.{ℤ, slice_index, if◌then◌else◌}
use Rattle.std.specs.List.{AllByRecursion, filter, flat_map}
use Rattle.std.proofs.lemmas.Bool.{cases_lt, le-ltb, lt-ltb}
use Rattle.std.proofs.lemmas.Grind.{common_steps}
use Rattle.std.proofs.lemmas.List.{get_or_past}
use Rattle.std.proofs.lemmas.List.Elements.{All-append, All-filter, All-from_recursion, recursion_from_All}
use Rattle.std.proofs.lemmas.List.FromFn.{get_or-map-range_with_len, length-map-range_with_len}
use Rattle.std.proofs.lemmas.List.Sums.{fold_more}
use Rattle.mgn_laws.specs.Turns.{charge_at, left_at, stages_in, starts_in, use_at}
use Rattle.mgn_span.specs.Words.{long_delta, no_stage, short_delta, stage_at, start_of, used_by, used_of}
use Rattle.mgn_num.specs.Signed.{sum_below}
use Rattle.mgn_span.proofs.StageLemmas.{first_used_le, second_used_le}
use Rattle.mgn_span.specs.Deltas.{starts_from}
use Rattle.mgn_span.specs.declared.stage.Stage.{Stage}
use Rattle.mgn_params.specs.declared.tables.Spread.{Spread}
use Rattle.mgn_params.specs.Limits.{IsSpread, IsWithinLimits}
use Rattle.mgn_span.specs.Positions.{positions}
use Rattle.mgn_span.specs.Stages.{IsStage, charges_of, left_after, left_by, long_leg, short_leg, stages_of_spread}
use Rattle.mgn_params.specs.Tables.{Tables}

-- sums from their first number on

sum_below_front : (f : ℕ → ℕ) (n : ℕ) → sum_below f (suc n) ≡ f 0 + sum_below (λ i. f (suc i)) n
sum_below_front f zero = omega arith
sum_below_front f (suc n) = omega (arith, sum_below_front f n)

-- what the stages charge and use together is the sum over their turns

pub charges_by_turns : (left : List ℕ) (stages : List Stage) → charges_of left stages ≡ sum_below (charge_at left stages) (length stages)
charges_by_turns left [] = refl
charges_by_turns left (s ∷ stages) =
    omega (arith, charges_by_turns (left_after left s) stages, sum_below_front (charge_at left (s ∷ stages)) (length stages))

pub used_by_turns : (left : List ℕ) (stages : List Stage) (leg : ℕ) → used_by left stages leg ≡ sum_below (use_at left stages leg) (length stages)
used_by_turns left [] leg = refl
used_by_turns left (s ∷ stages) leg =
    omega (arith, used_by_turns (left_after left s) stages leg, sum_below_front (use_at left (s ∷ stages) leg) (length stages))

-- one turn

kept_length : (left : List ℕ) (s : Stage) → length (left_after left s) ≡ length left
kept_length left s = simp length-set refl

left_length : (starts : List ℕ) (stages : List Stage) → length (left_by starts stages) ≡ length starts
left_length starts [] = refl
left_length starts (s ∷ stages) = left_length (left_after starts s) stages ∙ kept_length starts s

turn : (left : List ℕ) (s : Stage) (leg : ℕ) → length left ≡ 16 → IsStage s → slice_index (left_after left s) leg + used_of left s leg ≡ slice_index left leg
turn left s leg long is =
    let first = first_used_le left s is in
    let second = second_used_le left s is in
    let apart = is.apart in
    let there = is.first_leg in
    let back = is.second_leg in
    grind (arith, common_steps)

none_used : (left : List ℕ) (leg : ℕ) → used_of left no_stage leg ≡ 0
none_used left leg = grind arith

-- the equation over all earlier stages
pub left_and_used : (starts : List ℕ) (stages : List Stage) (leg j : ℕ) → length starts ≡ 16 → All IsStage stages → slice_index (left_at starts stages j) leg + sum_below (use_at starts stages leg) j ≡ slice_index starts leg
left_and_used starts stages leg zero long are = omega arith
left_and_used starts stages leg (suc j) long are =
    let before = left_and_used starts stages leg j long are in
    ⊎_elim
    (λ (there : j < length stages).
    let moved : left_at starts stages (suc j) ≡ left_after (left_at starts stages j) (stage_at stages j) = rw add-one at (fold_more left_after starts stages j no_stage there) in
    let here = turn (left_at starts stages j) (stage_at stages j) leg (left_length starts (take j stages) ∙ long) (are j no_stage there) in
    omega (arith, before, here, ap (λ (l : List ℕ). slice_index l leg) moved))
    (λ (past : length stages ≤ j).
    let now : left_at starts stages (suc j) ≡ left_by starts stages = ap (left_by starts) (take_all (suc j) stages (omega arith)) in
    let was : left_at starts stages j ≡ left_by starts stages = ap (left_by starts) (take_all j stages past) in
    let none = none_used (left_at starts stages j) leg in
    let missing : stage_at stages j ≡ no_stage = get_or_past stages j no_stage past in
    let here : use_at starts stages leg j ≡ 0 = ap (λ (s : Stage). used_of (left_at starts stages j) s leg) missing ∙ none in
    omega (arith, before, here, ap (λ (l : List ℕ). slice_index l leg) now, ap (λ (l : List ℕ). slice_index l leg) was))
    (cases_lt j (length stages))

-- so all uses of a leg together stay within its start
pub used_by_le : (starts : List ℕ) (stages : List Stage) (leg : ℕ) → length starts ≡ 16 → All IsStage stages → used_by starts stages leg ≤ slice_index starts leg
used_by_le starts stages leg long are =
    omega (arith, used_by_turns starts stages leg, left_and_used starts stages leg (length stages) long are)

-- the stages of spreads within their limits are within theirs

spread_stages : (commodities : ℕ) (s : Spread) → IsSpread commodities s → All IsStage (stages_of_spread s)
spread_stages commodities s is =
    let there : Stage = record { first_leg = long_leg s.first_tier; first_ratio = s.first_ratio; second_leg = short_leg s.second_tier; second_ratio = s.second_ratio; charge = s.charge } in
    let back : Stage = record { first_leg = long_leg s.second_tier; first_ratio = s.second_ratio; second_leg = short_leg s.first_tier; second_ratio = s.first_ratio; charge = s.charge } in
    let first = is.first_tier in
    let second = is.second_tier in
    let one : IsStage there = record { first_leg = omega arith; second_leg = omega arith; apart = omega arith; first_ratio = is.first_ratio; second_ratio = is.second_ratio; small_first_ratio = is.small_first_ratio; small_second_ratio = is.small_second_ratio; charge = is.charge } in
    let other : IsStage back = record { first_leg = omega arith; second_leg = omega arith; apart = omega arith; first_ratio = is.second_ratio; second_ratio = is.first_ratio; small_first_ratio = is.small_second_ratio; small_second_ratio = is.small_first_ratio; charge = is.charge } in
    elim (s.first_tier == s.second_tier) as (λ same. All IsStage (if same then there ∷ [] else there ∷ back ∷ [])) [ true ↦ All-from_recursion IsStage (there ∷ []) (one, tt) | false ↦ All-from_recursion IsStage (there ∷ back ∷ []) (one, (other, tt)) ]

all_stages : (commodities : ℕ) (spreads : List Spread) → AllByRecursion (IsSpread commodities) spreads → All IsStage (flat_map stages_of_spread spreads)
all_stages commodities [] limits = All-from_recursion IsStage [] tt
all_stages commodities (s ∷ spreads) limits =
    All-append IsStage (stages_of_spread s) (flat_map stages_of_spread spreads) (spread_stages commodities s limits.0) (all_stages commodities spreads limits.1)

pub stages_in_limits : (set : Tables) (commodity : ℕ) → IsWithinLimits set → All IsStage (stages_in set commodity)
stages_in_limits set commodity limits =
    let own : List Spread = filter (λ s. s.commodity == commodity) set.spreads in
    let are = All-filter (λ s. s.commodity == commodity) (IsSpread (length set.commodities)) set.spreads limits.spreads in
    all_stages (length set.commodities) own (recursion_from_All (IsSpread (length set.commodities)) own are)

-- what the legs of a commodity start with

pub start_length : (set : Tables) (nets : List ℤ) (commodity : ℕ) → length (starts_in set nets commodity) ≡ 16
unfolding starts_from
start_length set nets commodity = length-map-range_with_len (start_of set.months (positions set.contracts nets) commodity) 0 16

pub start_long : (set : Tables) (nets : List ℤ) (commodity tier : ℕ) → tier < 8 → slice_index (starts_in set nets commodity) (long_leg tier) ≡ long_delta set.months (positions set.contracts nets) commodity tier
unfolding starts_from
start_long set nets commodity tier small =
    let read = get_or-map-range_with_len (start_of set.months (positions set.contracts nets) commodity) 0 16 tier tier 0 (omega arith) (omega arith) in
    read ∙ rw (lt-ltb tier 8 small) refl

pub start_short : (set : Tables) (nets : List ℤ) (commodity tier : ℕ) → tier < 8 → slice_index (starts_in set nets commodity) (short_leg tier) ≡ short_delta set.months (positions set.contracts nets) commodity tier
unfolding starts_from
start_short set nets commodity tier small =
    let read = get_or-map-range_with_len (start_of set.months (positions set.contracts nets) commodity) 0 16 (8 + tier) (8 + tier) 0 (omega arith) (omega arith) in
    let tier_again : 8 + tier - 8 ≡ tier = omega arith in
    read ∙ rw (le-ltb (8 + tier) 8 (omega arith), tier_again) refl
