-- What a commodity adds in which nothing is held: nothing, as its law says.
use Rattle.std.proofs.Common.{◌≡◌, ◌≢◌, ℕ, ◌-◌, ◌*◌, ◌<◌, ◌≤◌, ◌==◌, Bool, true, false, Option, Some, None, List, [], ◌∷◌, length, get_or, ⊎_elim, ap, ◌∙◌, refl, arith, eq-eqb, ne_eqb, sym, take_all}
use Rattle.std.specs.Prelude.{ℤ, pos, ◌*ℤ◌, ◌&&◌, nat_lt, if◌then◌else◌, slice_index}
use Rattle.std.specs.Int.{int_max}
use Rattle.std.specs.List.{AllByRecursion, sum_by}
use Rattle.std.proofs.Math.IntN.{zero-*ℤ}
use Rattle.std.proofs.Math.Nat.{zero-div, zero-mul}
use Rattle.std.proofs.lemmas.Bool.{cases_eq, cases_lt}
use Rattle.std.proofs.lemmas.Int.{clamps, ints}
use Rattle.std.proofs.lemmas.List.{get_or_past}
use Rattle.std.proofs.lemmas.List.Elements.{All-from_recursion, recursion_from_All}
use Rattle.std.proofs.lemmas.List.FromFn.{get_or-map-range_with_len, length-map-range_with_len}
use Rattle.std.proofs.lemmas.List.Sums.{sum_by-cons}
use Rattle.mgn_laws.proofs.AbsentCredits.{nothing_credited}
use Rattle.mgn_laws.proofs.CreditLemmas.{delta_of}
use Rattle.mgn_laws.proofs.StageLemmas.{charges_by_turns, left_and_used, stages_in_limits, start_length}
use Rattle.mgn_laws.specs.Absent.{HoldsNone}
use Rattle.mgn_laws.specs.Turns.{charge_at, left_at, stages_in, starts_in}
use Rattle.mgn_span.proofs.SumLemmas.{signed_sum_below_none, sum_below_none}
use Rattle.mgn_span.specs.Words.{long_delta, long_share, month_share, net_delta, net_share, scenario_share, short_delta, short_share, short_share_of, stage_at, start_of}
use Rattle.mgn_laws.specs.Uses.{deltas_in, risks_in}
use Rattle.mgn_num.proofs.SignedLemmas.{signed_sum_by-cons}
use Rattle.mgn_num.specs.Signed.{signed_sum_by}
use Rattle.mgn_params.specs.declared.tables.Contract.{Contract}
use Rattle.mgn_params.specs.declared.tables.Month.{Month}
use Rattle.mgn_params.specs.declared.tables.SpotCharge.{SpotCharge}
use Rattle.mgn_span.specs.declared.stage.Stage.{Stage}
use Rattle.mgn_span.specs.Deltas.{is_in_tier, month_delta, negative_part, positive_part, starts_from}
use Rattle.mgn_params.specs.Limits.{IsContract, IsWithinLimits}
use Rattle.mgn_span.specs.Positions.{Position, positions}
use Rattle.mgn_span.specs.Requirement.{credit, credits, intra_charge, minimum, risk, scan_of, spot_charge}
use Rattle.mgn_span.specs.Scan.{active, scenario_total, value_at}
use Rattle.mgn_span.specs.Spot.{spot_of, spot_charge_from}
use Rattle.mgn_span.specs.Stages.{long_leg, short_leg, left_by}
use Rattle.mgn_params.specs.Tables.{Tables, commodity_at, is_option, month_at}

-- sums of nothing

no_sum : (f : Position → ℤ) (portfolio : List Position) → AllByRecursion (λ p. f p ≡ pos 0) portfolio → signed_sum_by f portfolio ≡ pos 0
no_sum f [] none = refl
no_sum f (p ∷ portfolio) none = omega (arith, ints, signed_sum_by-cons f p portfolio, none.0, no_sum f portfolio none.1)

no_count : (f : Position → ℕ) (portfolio : List Position) → AllByRecursion (λ p. f p ≡ 0) portfolio → sum_by f portfolio ≡ 0
no_count f [] none = refl
no_count f (p ∷ portfolio) none = omega (arith, sum_by-cons f p portfolio, none.0, no_count f portfolio none.1)

nothing_if : (b : Bool) (n : ℕ) → n ≡ 0 → (if b then n else 0) ≡ 0
nothing_if true n e = e
nothing_if false n e = refl

-- what counts for the one commodity alone
chosen : (own g : ℕ) (z : ℤ) → (own ≡ g → z ≡ pos 0) → (if own == g then z else pos 0) ≡ pos 0
chosen own g z none =
    ⊎_elim (λ (same : own ≡ g). rw (eq-eqb own g same) (none same)) (λ (other : own ≢ g). rw (ne_eqb own g other) refl) (cases_eq own g)

-- scenarios
total_none : (portfolio : List Position) (g s : ℕ) → HoldsNone portfolio g → scenario_total g portfolio s ≡ pos 0
total_none portfolio g s none =
    no_sum (scenario_share g s) portfolio (recursion_from_All (λ p. scenario_share g s p ≡ pos 0) portfolio (λ k d h.
    let p : Position = get_or portfolio k d in
    chosen p.0.commodity g (p.1 *ℤ value_at p.0.array s) (λ own. rw (none k d h own) (zero-*ℤ (value_at p.0.array s)))))

pub scan_none : (portfolio : List Position) (g : ℕ) → HoldsNone portfolio g → scan_of portfolio g ≡ pos 0
scan_none portfolio g none = ap (int_max (pos 0)) (total_none portfolio g (active (scenario_total g portfolio)) none)

-- the minimum
pub minimum_none : (set : Tables) (portfolio : List Position) (g : ℕ) → HoldsNone portfolio g → minimum set portfolio g ≡ 0
minimum_none set portfolio g none =
    let charge = (commodity_at set.commodities g).short_option_charge in
    no_count (short_share_of g charge) portfolio (recursion_from_All (λ p. short_share_of g charge p ≡ 0) portfolio (λ k d h.
    let p : Position = get_or portfolio k d in
    ⊎_elim
    (λ (own : p.0.commodity ≡ g). nothing_if ((p.0.commodity == g) && is_option p.0.kind) (negative_part p.1 * charge) (rw (none k d h own) (zero-mul charge)))
    (λ (other : p.0.commodity ≢ g). rw (ne_eqb p.0.commodity g other) refl)
    (cases_eq p.0.commodity g)))

-- deltas: the contracts of a month are of the month's commodity

in_limits : (n : ℕ) (months : List Month) (cs : List Contract) (ns : List ℤ) → AllByRecursion (IsContract n months) cs → AllByRecursion (λ p. IsContract n months p.0) (positions cs ns)
in_limits n months [] ns are = tt
in_limits n months (c ∷ cs) [] are = tt
in_limits n months (c ∷ cs) (q ∷ ns) are = (are.0, in_limits n months cs ns are.1)

month_none : (set : Tables) (nets : List ℤ) (g m : ℕ) → IsWithinLimits set → HoldsNone (positions set.contracts nets) g → (month_at set.months m).commodity ≡ g → month_delta (positions set.contracts nets) m ≡ pos 0
month_none set nets g m limits none of =
    let portfolio : List Position = positions set.contracts nets in
    let n = length set.commodities in
    let are = All-from_recursion (λ p. IsContract n set.months p.0) portfolio (in_limits n set.months set.contracts nets (recursion_from_All (IsContract n set.months) set.contracts limits.contracts)) in
    no_sum (month_share m) portfolio (recursion_from_All (λ p. month_share m p ≡ pos 0) portfolio (λ k d h.
    let p : Position = get_or portfolio k d in
    let is : IsContract n set.months p.0 = are k d h in
    chosen p.0.month m (p.1 *ℤ p.0.delta) (λ here.
    let own : p.0.commodity ≡ g = sym is.own_month ∙ ap (λ (i : ℕ). (month_at set.months i).commodity) here ∙ of in
    rw (none k d h own) (zero-*ℤ p.0.delta))))

pub net_none : (set : Tables) (nets : List ℤ) (g : ℕ) → IsWithinLimits set → HoldsNone (positions set.contracts nets) g → net_delta set.months (positions set.contracts nets) g ≡ pos 0
net_none set nets g limits none =
    signed_sum_below_none (net_share set.months (positions set.contracts nets) g) (length set.months)
    (λ m h. chosen (month_at set.months m).commodity g (month_delta (positions set.contracts nets) m) (month_none set nets g m limits none))

tier_none : (set : Tables) (nets : List ℤ) (g tier m : ℕ) (part : ℤ → ℕ) → part (pos 0) ≡ 0 → IsWithinLimits set → HoldsNone (positions set.contracts nets) g → (if is_in_tier set.months g tier m then part (month_delta (positions set.contracts nets) m) else 0) ≡ 0
tier_none set nets g tier m part empty limits none =
    ⊎_elim
    (λ (own : (month_at set.months m).commodity ≡ g). nothing_if (is_in_tier set.months g tier m) (part (month_delta (positions set.contracts nets) m)) (rw (month_none set nets g m limits none own) empty))
    (λ (other : (month_at set.months m).commodity ≢ g). rw (ne_eqb (month_at set.months m).commodity g other) refl)
    (cases_eq (month_at set.months m).commodity g)

start_none : (set : Tables) (nets : List ℤ) (g leg : ℕ) → IsWithinLimits set → HoldsNone (positions set.contracts nets) g → slice_index (starts_in set nets g) leg ≡ 0
unfolding starts_from
start_none set nets g leg limits none =
    let portfolio : List Position = positions set.contracts nets in
    let long = sum_below_none (long_share set.months portfolio g leg) (length set.months) (λ m h. tier_none set nets g leg m positive_part refl limits none) in
    let short = sum_below_none (short_share set.months portfolio g (leg - 8)) (length set.months) (λ m h. tier_none set nets g (leg - 8) m negative_part refl limits none) in
    ⊎_elim
    (λ (there : leg < 16). get_or-map-range_with_len (start_of set.months portfolio g) 0 16 leg leg 0 there (omega arith) ∙ elim (nat_lt leg 8) as (λ b. (if b then long_delta set.months portfolio g leg else short_delta set.months portfolio g (leg - 8)) ≡ 0) [ true ↦ long | false ↦ short ])
    (λ (past : 16 ≤ leg). get_or_past (starts_in set nets g) leg 0 (omega (arith, start_length set nets g)))
    (cases_lt leg 16)

-- stages of nothing

pub intra_none : (set : Tables) (nets : List ℤ) (g : ℕ) → IsWithinLimits set → HoldsNone (positions set.contracts nets) g → intra_charge set (positions set.contracts nets) g ≡ 0
unfolding intra_charge
intra_none set nets g limits none =
    let starts = starts_in set nets g in
    let stages = stages_in set g in
    let are = stages_in_limits set g limits in
    let left : (leg j : ℕ) → slice_index (left_at starts stages j) leg ≡ 0 = λ leg j. omega (arith, left_and_used starts stages leg j (start_length set nets g) are, start_none set nets g leg limits none) in
    let charge : (j : ℕ) → charge_at starts stages j ≡ 0 = λ j.
    let s : Stage = stage_at stages j in
    rw (left s.first_leg j, left s.second_leg j, zero-div s.first_ratio, zero-div s.second_ratio) (omega arith) in
    charges_by_turns starts stages ∙ sum_below_none (charge_at starts stages) (length stages) (λ j h. charge j)

spot_nothing : (starts left : List ℕ) (spot : Option SpotCharge) → ((leg : ℕ) → slice_index starts leg ≡ 0) → ((leg : ℕ) → slice_index left leg ≡ 0) → spot_charge_from starts left spot ≡ 0
spot_nothing starts left None start rest = refl
spot_nothing starts left (Some spot) start rest =
    rw (start (long_leg spot.tier), start (short_leg spot.tier), rest (long_leg spot.tier), rest (short_leg spot.tier)) (omega arith)

pub spot_none : (set : Tables) (nets : List ℤ) (g : ℕ) → IsWithinLimits set → HoldsNone (positions set.contracts nets) g → spot_charge set (positions set.contracts nets) g ≡ 0
unfolding spot_charge
spot_none set nets g limits none =
    let starts = starts_in set nets g in
    let stages = stages_in set g in
    let are = stages_in_limits set g limits in
    let start : (leg : ℕ) → slice_index starts leg ≡ 0 = λ leg. start_none set nets g leg limits none in
    let whole : left_at starts stages (length stages) ≡ left_by starts stages = ap (left_by starts) (take_all (length stages) stages (omega arith)) in
    let rest : (leg : ℕ) → slice_index (left_by starts stages) leg ≡ 0 = λ leg. omega (arith, left_and_used starts stages leg (length stages) (start_length set nets g) are, start leg, ap (λ (row : List ℕ). slice_index row leg) whole) in
    spot_nothing starts (left_by starts stages) (spot_of set.spots g) start rest

-- the whole risk

pub delta_none : (set : Tables) (nets : List ℤ) (g : ℕ) → IsWithinLimits set → HoldsNone (positions set.contracts nets) g → value_at (deltas_in set (positions set.contracts nets)) g ≡ pos 0
delta_none set nets g limits none =
    let portfolio : List Position = positions set.contracts nets in
    ⊎_elim
    (λ (there : g < length set.commodities). delta_of set portfolio g there ∙ net_none set nets g limits none)
    (λ (past : length set.commodities ≤ g). get_or_past (deltas_in set portfolio) g (pos 0) (omega (arith, length-map-range_with_len (net_delta set.months portfolio) 0 (length set.commodities))))
    (cases_lt g (length set.commodities))

pub credit_none : (set : Tables) (nets : List ℤ) (g : ℕ) → IsWithinLimits set → HoldsNone (positions set.contracts nets) g → credit set (positions set.contracts nets) g ≡ 0
unfolding credits
credit_none set nets g limits none =
    let portfolio : List Position = positions set.contracts nets in
    nothing_credited (deltas_in set portfolio) (risks_in set portfolio) set.credits g (delta_none set nets g limits none)

pub risk_none : (set : Tables) (nets : List ℤ) (g : ℕ) → IsWithinLimits set → HoldsNone (positions set.contracts nets) g → risk set (positions set.contracts nets) g ≡ pos 0
unfolding risk
risk_none set nets g limits none =
    let portfolio : List Position = positions set.contracts nets in
    rw (scan_none portfolio g none, intra_none set nets g limits none, spot_none set nets g limits none, credit_none set nets g limits none, minimum_none set portfolio g none) (omega (arith, ints, clamps))
