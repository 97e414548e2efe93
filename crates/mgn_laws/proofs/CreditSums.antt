-- The credit of a commodity as a sum over the spreads, as the law of credits says it.
use Rattle.std.proofs.Common.{◌≡◌, ◌≢◌, ℕ, zero, suc, ◌+◌, ◌<◌, ◌≤◌, ◌==◌, true, false, List, [], ◌∷◌, length, take, ⊎_elim, ap, ◌∙◌, refl, arith, add-one, length-set, replicate, take_all}
use Rattle.std.specs.Prelude.{ℤ, if◌then◌else◌, slice_index, slice_set}
use Rattle.std.specs.List.{fold, sum_by}
use Rattle.std.proofs.lemmas.Bool.{cases_eq}
use Rattle.std.proofs.lemmas.Grind.{common_steps}
use Rattle.std.proofs.lemmas.List.{length-replicate}
use Rattle.std.proofs.lemmas.List.FromFn.{length-map-range_with_len}
use Rattle.std.proofs.lemmas.List.Sums.{fold_more, sum_by-cons}
use Rattle.mgn_laws.proofs.AbsentCredits.{no_credits}
use Rattle.mgn_laws.specs.Uses.{credit_at, deltas_in, leg_credit_to, risks_in, spread_credit}
use Rattle.mgn_num.specs.Signed.{sum_below}
use Rattle.mgn_params.specs.declared.tables.CreditSpread.{CreditSpread}
use Rattle.mgn_params.specs.declared.tables.Leg.{Leg}
use Rattle.mgn_span.specs.Credits.{credits_after, formed, forms, leg_credit, rests_after, spread_amount}
use Rattle.mgn_span.specs.Words.{net_delta}
use Rattle.mgn_span.specs.Positions.{Position}
use Rattle.mgn_span.specs.Requirement.{credit, credits}
use Rattle.mgn_params.specs.Tables.{Tables, credit_spread_at, legs_of, no_credit_spread}

-- a row of credits keeps its length

legs_length : (deltas : List ℤ) (risks : List ℕ) (rate amount : ℕ) (legs : List Leg) (row : List ℕ) → length (credits_after deltas risks rate amount row legs) ≡ length row
legs_length deltas risks rate amount [] row = refl
legs_length deltas risks rate amount (leg ∷ legs) row =
    legs_length deltas risks rate amount legs (slice_set row leg.commodity (slice_index row leg.commodity + leg_credit deltas risks rate amount leg)) ∙ length-set row leg.commodity (slice_index row leg.commodity + leg_credit deltas risks rate amount leg)

formed_length : (deltas : List ℤ) (risks : List ℕ) (now : List ℤ × List ℕ) (s : CreditSpread) → length (formed deltas risks now s).1 ≡ length now.1
formed_length deltas risks now s =
    let legs = legs_of s in
    let amount = spread_amount now.0 legs in
    let after : List ℤ × List ℕ = (rests_after now.0 amount legs, credits_after deltas risks s.rate amount now.1 legs) in
    elim (forms now.0 legs) as (λ b. length (if b then after else now).1 ≡ length now.1) [ true ↦ legs_length deltas risks s.rate amount legs now.1 | false ↦ refl ]

all_length : (deltas : List ℤ) (risks : List ℕ) (now : List ℤ × List ℕ) (spreads : List CreditSpread) → length (fold (formed deltas risks) now spreads).1 ≡ length now.1
all_length deltas risks now [] = refl
all_length deltas risks now (s ∷ spreads) =
    all_length deltas risks (formed deltas risks now s) spreads ∙ formed_length deltas risks now s

-- one leg, one spread, all spreads

leg_added : (row : List ℕ) (at x g : ℕ) → g < length row → slice_index (slice_set row at (slice_index row at + x)) g ≡ slice_index row g + (if at == g then x else 0)
leg_added row at x g there =
    ⊎_elim (λ (same : at ≡ g). grind (arith, common_steps)) (λ (other : at ≢ g). grind (arith, common_steps)) (cases_eq at g)

legs_added : (deltas : List ℤ) (risks : List ℕ) (rate amount g : ℕ) (legs : List Leg) (row : List ℕ) → g < length row → slice_index (credits_after deltas risks rate amount row legs) g ≡ slice_index row g + sum_by (leg_credit_to deltas risks rate amount g) legs
legs_added deltas risks rate amount g [] row there = omega arith
legs_added deltas risks rate amount g (leg ∷ legs) row there =
    let x = leg_credit deltas risks rate amount leg in
    let now : List ℕ = slice_set row leg.commodity (slice_index row leg.commodity + x) in
    let rest = legs_added deltas risks rate amount g legs now (omega (arith, length-set row leg.commodity (slice_index row leg.commodity + x))) in
    omega (arith, rest, leg_added row leg.commodity x g there, sum_by-cons (leg_credit_to deltas risks rate amount g) leg legs)

spread_added : (deltas : List ℤ) (risks : List ℕ) (now : List ℤ × List ℕ) (g : ℕ) (s : CreditSpread) → g < length now.1 → slice_index (formed deltas risks now s).1 g ≡ slice_index now.1 g + spread_credit deltas risks now.0 g s
spread_added deltas risks now g s there =
    let legs = legs_of s in
    let amount = spread_amount now.0 legs in
    let after : List ℤ × List ℕ = (rests_after now.0 amount legs, credits_after deltas risks s.rate amount now.1 legs) in
    elim (forms now.0 legs) as (λ b. slice_index (if b then after else now).1 g ≡ slice_index now.1 g + (if b then sum_by (leg_credit_to deltas risks s.rate amount g) legs else 0)) [ true ↦ legs_added deltas risks s.rate amount g legs now.1 there | false ↦ omega arith ]

credited : (set : Tables) (portfolio : List Position) (g k : ℕ) → g < length set.commodities → k ≤ length set.credits → slice_index (fold (formed (deltas_in set portfolio) (risks_in set portfolio)) (deltas_in set portfolio, replicate (length (deltas_in set portfolio)) 0) (take k set.credits)).1 g ≡ sum_below (credit_at set portfolio g) k
credited set portfolio g zero there few = no_credits (length (deltas_in set portfolio)) g
credited set portfolio g (suc k) there few =
    let deltas = deltas_in set portfolio in
    let risks = risks_in set portfolio in
    let start : List ℤ × List ℕ = (deltas, replicate (length deltas) 0) in
    let so_far : ℕ → List ℤ × List ℕ = λ i. fold (formed deltas risks) start (take i set.credits) in
    let moved : so_far (suc k) ≡ formed deltas risks (so_far k) (credit_spread_at set.credits k) = rw add-one at (fold_more (formed deltas risks) start set.credits k no_credit_spread (omega arith)) in
    let kept = all_length deltas risks start (take k set.credits) in
    let size = length-map-range_with_len (net_delta set.months portfolio) 0 (length set.commodities) in
    let zeros = length-replicate {A = ℕ} (length deltas) 0 in
    let here = spread_added deltas risks (so_far k) g (credit_spread_at set.credits k) (omega (arith, kept, size, zeros)) in
    omega (arith, credited set portfolio g k there (omega arith), here, ap (λ (now : List ℤ × List ℕ). slice_index now.1 g) moved)

pub credit_is_sum : (set : Tables) (portfolio : List Position) (g : ℕ) → g < length set.commodities → credit set portfolio g ≡ sum_below (credit_at set portfolio g) (length set.credits)
unfolding credits
credit_is_sum set portfolio g there =
    let all = ap (λ (ss : List CreditSpread). slice_index (fold (formed (deltas_in set portfolio) (risks_in set portfolio)) (deltas_in set portfolio, replicate (length (deltas_in set portfolio)) 0) ss).1 g) (take_all (length set.credits) set.credits (omega arith)) in
    omega (arith, all, credited set portfolio g (length set.credits) there (omega arith))
