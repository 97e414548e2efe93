-- What intercommodity spreads use of a commodity, and what they leave of its net delta.
use Rattle.std.proofs.Common.{◌≡◌, ℕ, zero, suc, ◌+◌, ◌-◌, ◌<◌, ◌≤◌, ◌==◌, min, true, false, List, [], ◌∷◌, length, map, set, take, ⊎_elim, ap, arith, add-one, take_all, replicate}
use Rattle.std.specs.Prelude.{ℤ, pos, negsuc, unsigned_abs, if◌then◌else◌, slice_set}
use Rattle.std.specs.List.{AllByRecursion, IsDistinct, fold, sum_by}
use Rattle.std.proofs.lemmas.Bool.{cases_lt}
use Rattle.std.proofs.lemmas.Grind.{common_steps}
use Rattle.std.proofs.lemmas.Int.{ints}
use Rattle.std.proofs.lemmas.List.{get_or_past, set_past}
use Rattle.std.proofs.lemmas.List.Elements.{recursion_from_All}
use Rattle.std.proofs.lemmas.List.FromFn.{get_or-map-range_with_len}
use Rattle.std.proofs.lemmas.List.Sums.{fold_more, sum_by-cons}
use Rattle.mgn_laws.specs.Uses.{credit_use_at, deltas_in, leg_use, rests_at, risks_in, spread_use}
use Rattle.mgn_num.specs.Amount.{nearer_zero}
use Rattle.mgn_num.specs.Signed.{sum_below}
use Rattle.mgn_span.proofs.StageLemmas.{used_le_left}
use Rattle.mgn_params.specs.declared.tables.CreditSpread.{CreditSpread}
use Rattle.mgn_params.specs.declared.tables.Leg.{Leg}
use Rattle.mgn_span.specs.Credits.{credits_after, formed, forms, leg_amount, rests_after, spread_amount}
use Rattle.mgn_span.specs.Words.{net_delta}
use Rattle.mgn_params.specs.Limits.{IsCreditSpread, IsLeg, IsWithinLimits}
use Rattle.mgn_span.specs.Positions.{Position}
use Rattle.mgn_span.specs.Scan.{value_at}
use Rattle.mgn_span.specs.Stages.{used}
use Rattle.mgn_params.specs.Tables.{Tables, credit_spread_at, legs_of, no_credit_spread}

-- the amount of a spread is at most what each leg alone would form

least_start : (f : Leg → ℕ) (a : ℕ) (legs : List Leg) → fold (λ n leg. min n (f leg)) a legs ≤ a
least_start f a [] = omega arith
least_start f a (leg ∷ legs) = omega (arith, least_start f (min a (f leg)) legs)

least_each : (f : Leg → ℕ) (a b : ℕ) (legs : List Leg) → b ≤ fold (λ n leg. min n (f leg)) a legs → AllByRecursion (λ leg. b ≤ f leg) legs
least_each f a b [] h = tt
least_each f a b (leg ∷ legs) h =
    (omega (arith, least_start f (min a (f leg)) legs), least_each f (min a (f leg)) b legs h)

amount_le : (rests : List ℤ) (legs : List Leg) → AllByRecursion (λ leg. spread_amount rests legs ≤ leg_amount rests leg) legs
amount_le rests [] = tt
amount_le rests (leg ∷ legs) =
    (least_start (leg_amount rests) (leg_amount rests leg) legs, least_each (leg_amount rests) (leg_amount rests leg) (spread_amount rests (leg ∷ legs)) legs (omega arith))

-- so each leg has what it uses
abbrev HasUse : List ℤ → ℕ → Leg → Type 0
HasUse rests amount leg = used amount leg.ratio ≤ unsigned_abs (value_at rests leg.commodity)

all_have : (commodities : ℕ) (rests : List ℤ) (amount : ℕ) (legs : List Leg) → AllByRecursion (IsLeg commodities) legs → AllByRecursion (λ leg. amount ≤ leg_amount rests leg) legs → AllByRecursion (HasUse rests amount) legs
all_have commodities rests amount [] are least = tt
all_have commodities rests amount (leg ∷ legs) are least =
    let is : IsLeg commodities leg = are.0 in
    (used_le_left amount (unsigned_abs (value_at rests leg.commodity)) leg.ratio is.ratio least.0, all_have commodities rests amount legs are.1 least.1)

-- a use of one commodity leaves the legs of others what they have
others_have : (rests : List ℤ) (amount g : ℕ) (x : ℤ) (legs : List Leg) → AllByRecursion (λ h. (g == h) ≡ false) (map (λ leg. leg.commodity) legs) → AllByRecursion (HasUse rests amount) legs → AllByRecursion (HasUse (slice_set rests g x) amount) legs
others_have rests amount g x [] apart have = tt
others_have rests amount g x (leg ∷ legs) apart have =
    let other = apart.0 in
    let here : HasUse rests amount leg = have.0 in
    let same : value_at (slice_set rests g x) leg.commodity ≡ value_at rests leg.commodity = grind (arith, common_steps) in
    let still : HasUse (slice_set rests g x) amount leg = omega (arith, here, ap unsigned_abs same) in
    (still, others_have rests amount g x legs apart.1 have.1)

nearer_size : (z : ℤ) (n : ℕ) → unsigned_abs (nearer_zero z n) ≡ unsigned_abs z - n
nearer_size (pos m) n = omega (arith, ints)
nearer_size (negsuc m) n = omega (arith, ints)

-- one leg's use
leg_step : (rests : List ℤ) (amount g : ℕ) (leg : Leg) → HasUse rests amount leg → unsigned_abs (value_at (slice_set rests leg.commodity (nearer_zero (value_at rests leg.commodity) (used amount leg.ratio))) g) + leg_use amount g leg ≡ unsigned_abs (value_at rests g)
leg_step rests amount g leg has =
    let size = nearer_size (value_at rests leg.commodity) (used amount leg.ratio) in
    ⊎_elim
    (λ (there : leg.commodity < length rests). grind (arith, common_steps, size))
    (λ (past : length rests ≤ leg.commodity).
    let none : value_at rests leg.commodity ≡ pos 0 = get_or_past rests leg.commodity (pos 0) past in
    let same = set_past rests leg.commodity (nearer_zero (value_at rests leg.commodity) (used amount leg.ratio)) past in
    let nothing : used amount leg.ratio ≡ 0 = omega (arith, ap unsigned_abs none) in
    let no_use : leg_use amount g leg ≡ 0 = grind (arith, nothing) in
    omega (arith, no_use, ap (λ (row : List ℤ). unsigned_abs (value_at row g)) same))
    (cases_lt leg.commodity (length rests))

-- the uses of a spread's legs
legs_step : (rests : List ℤ) (amount g : ℕ) (legs : List Leg) → IsDistinct (λ h k. h == k) (map (λ leg. leg.commodity) legs) → AllByRecursion (HasUse rests amount) legs → unsigned_abs (value_at (rests_after rests amount legs) g) + sum_by (leg_use amount g) legs ≡ unsigned_abs (value_at rests g)
unfolding IsDistinct
legs_step rests amount g [] apart have = omega arith
legs_step rests amount g (leg ∷ legs) apart have =
    let now : List ℤ = slice_set rests leg.commodity (nearer_zero (value_at rests leg.commodity) (used amount leg.ratio)) in
    let still = others_have rests amount leg.commodity (nearer_zero (value_at rests leg.commodity) (used amount leg.ratio)) legs apart.0 have.1 in
    omega (arith, leg_step rests amount g leg have.0, legs_step now amount g legs apart.1 still, sum_by-cons (leg_use amount g) leg legs)

-- one spread
spread_step : (commodities : ℕ) (deltas : List ℤ) (risks : List ℕ) (now : List ℤ × List ℕ) (g : ℕ) (spread : CreditSpread) → IsCreditSpread commodities spread → unsigned_abs (value_at (formed deltas risks now spread).0 g) + spread_use now.0 g spread ≡ unsigned_abs (value_at now.0 g)
spread_step commodities deltas risks now g spread is =
    let legs = legs_of spread in
    let amount = spread_amount now.0 legs in
    let have = all_have commodities now.0 amount legs (recursion_from_All (IsLeg commodities) legs is.legs) (amount_le now.0 legs) in
    let uses = legs_step now.0 amount g legs is.apart have in
    let after : List ℤ × List ℕ = (rests_after now.0 amount legs, credits_after deltas risks spread.rate amount now.1 legs) in
    elim (forms now.0 legs) as (λ b. unsigned_abs (value_at (if b then after else now).0 g) + (if b then sum_by (leg_use amount g) legs else 0) ≡ unsigned_abs (value_at now.0 g)) [ true ↦ uses | false ↦ omega arith ]

-- the equation over all earlier spreads
pub rest_and_used : (set : Tables) (portfolio : List Position) (g k : ℕ) → IsWithinLimits set → unsigned_abs (value_at (rests_at set portfolio k) g) + sum_below (credit_use_at set portfolio g) k ≡ unsigned_abs (value_at (deltas_in set portfolio) g)
rest_and_used set portfolio g zero limits = omega arith
rest_and_used set portfolio g (suc k) limits =
    let before = rest_and_used set portfolio g k limits in
    let deltas = deltas_in set portfolio in
    let risks = risks_in set portfolio in
    let start : List ℤ × List ℕ = (deltas, replicate (length deltas) 0) in
    let so_far : ℕ → List ℤ × List ℕ = λ i. fold (formed deltas risks) start (take i set.credits) in
    ⊎_elim
    (λ (there : k < length set.credits).
    let moved : so_far (suc k) ≡ formed deltas risks (so_far k) (credit_spread_at set.credits k) = rw add-one at (fold_more (formed deltas risks) start set.credits k no_credit_spread there) in
    let here = spread_step (length set.commodities) deltas risks (so_far k) g (credit_spread_at set.credits k) (limits.credits k no_credit_spread there) in
    omega (arith, before, here, ap (λ (now : List ℤ × List ℕ). unsigned_abs (value_at now.0 g)) moved))
    (λ (past : length set.credits ≤ k).
    let all : List ℤ × List ℕ = fold (formed deltas risks) start set.credits in
    let now : so_far (suc k) ≡ all = ap (λ (ss : List CreditSpread). fold (formed deltas risks) start ss) (take_all (suc k) set.credits (omega arith)) in
    let was : so_far k ≡ all = ap (λ (ss : List CreditSpread). fold (formed deltas risks) start ss) (take_all k set.credits past) in
    let missing : credit_spread_at set.credits k ≡ no_credit_spread = get_or_past set.credits k no_credit_spread past in
    let here : credit_use_at set portfolio g k ≡ 0 = ap (λ (s : CreditSpread). spread_use (so_far k).0 g s) missing in
    omega (arith, before, here, ap (λ (t : List ℤ × List ℕ). unsigned_abs (value_at t.0 g)) now, ap (λ (t : List ℤ × List ℕ). unsigned_abs (value_at t.0 g)) was))
    (cases_lt k (length set.credits))

pub delta_of : (set : Tables) (portfolio : List Position) (g : ℕ) → g < length set.commodities → value_at (deltas_in set portfolio) g ≡ net_delta set.months portfolio g
delta_of set portfolio g there = get_or-map-range_with_len (net_delta set.months portfolio) 0 (length set.commodities) g g (pos 0) there (omega arith)
