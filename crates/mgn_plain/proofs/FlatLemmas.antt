-- A commodity in which each net is 0 risks nothing: why it may be passed over.
use Rattle.std.proofs.Common.{◌≡◌, ◌≢◌, ℕ, Bool, false, refl, ◌-◌, ◌<◌, ◌≤◌, List, length, replicate, pos, ℤ, ap, ◌∙◌, sym, arith, unsigned_abs, ⊎_elim}
use Rattle.std.specs.Prelude.{nat_lt}
use Rattle.std.specs.Int.{int_max}
use Rattle.std.proofs.lemmas.Bool.{cases_eq}
use Rattle.std.proofs.lemmas.Int.{clamps, ints}
use Rattle.std.proofs.lemmas.List.{get_or-replicate, length-replicate}
use Rattle.std.proofs.lemmas.List.FromFn.{fill_by_all}
use Rattle.mgn_params.specs.Limits.{IsWithinLimits}
use Rattle.mgn_params.specs.Tables.{Tables, commodity_at, contract_at, month_at, no_contract}
use Rattle.mgn_span.specs.Deltas.{month_delta, starts_from}
use Rattle.mgn_span.specs.MonthDeltas.{start_share}
use Rattle.mgn_span.specs.Options.{short_option_minimum}
use Rattle.mgn_span.specs.Positions.{Position, positions}
use Rattle.mgn_span.specs.Requirement.{intra_charge, risk, scan_of, spot_charge}
use Rattle.mgn_span.specs.Scan.{active, price_risk2, scenario_total, value_at}
use Rattle.mgn_span.specs.Spot.{spot_of}
use Rattle.mgn_span.specs.Stages.{stages_of}
use Rattle.mgn_span.specs.Words.{long_share, month_share, scenario_share, short_share, short_share_of, start_of, starts_of, total_of}
use Rattle.mgn_span.proofs.FlatLemmas.{month_share_flat, share_flat, short_share_flat}
use Rattle.mgn_span.proofs.PositionLemmas.{position_count_all, position_sum_all}
use Rattle.mgn_span.proofs.ScanLemmas.{price_risk2_same}
use Rattle.mgn_span.proofs.ShareLemmas.{scenario_share_out, share_sum_small, short_share_out}
use Rattle.mgn_plain.specs.Kept.{mark_at}
use Rattle.mgn_plain.specs.Parts.{AreMarks, AreNets, AreTotals}
use Rattle.mgn_plain.proofs.DeltaLemmas.{start_share_none}
use Rattle.mgn_plain.proofs.PassLemmas.{count_small}
use Rattle.mgn_span.proofs.StageSteps.{charges_of_nothing, left_by_nothing, spot_charge_of_nothing}
use Rattle.mgn_span.proofs.SumLemmas.{sum_below_if, sum_below_none}

-- each net of a commodity is 0
pub IsFlatIn : Tables → List ℤ → ℕ → Type 0
IsFlatIn t nets g = (k : ℕ) → k < length t.contracts → (contract_at t.contracts k).commodity ≡ g → value_at nets k ≡ pos 0

total_none : (t : Tables) (nets : List ℤ) (g s : ℕ) → AreNets t nets → IsFlatIn t nets g → scenario_total g (positions t.contracts nets) s ≡ pos 0
unfolding IsFlatIn
total_none t nets g s are flat =
    let n = length t.contracts in
    let each = λ (k : ℕ) (h : k < n).
    let none : scenario_share g s (contract_at t.contracts k, value_at nets k) ≡ pos 0 =
    ⊎_elim
    (λ (same : (contract_at t.contracts k).commodity ≡ g). share_flat g s (contract_at t.contracts k, value_at nets k) (flat k h same))
    (λ (other : (contract_at t.contracts k).commodity ≢ g). scenario_share_out g s (contract_at t.contracts k) (value_at nets k) other)
    (cases_eq (contract_at t.contracts k).commodity g) in
    let low : unsigned_abs (scenario_share g s (contract_at t.contracts k, value_at nets k)) ≤ 0 = omega (arith, ints, none) in
    low in
    let sum = share_sum_small (scenario_share g s) 0 t.contracts nets n are.one_each each (omega arith) in
    let all = position_sum_all (scenario_share g s) t.contracts nets n (omega arith) are.one_each in
    omega (arith, ints, sum, all)

-- nor do the totals that are kept of it
pub totals_none : (t : Tables) (nets : List ℤ) (rows : List (List ℤ)) (marks : List Bool) → AreTotals t nets rows → AreMarks t nets marks → (g s : ℕ) → mark_at marks g ≡ false → g < length rows → s < 16 → total_of rows g s ≡ pos 0
unfolding IsFlatIn
totals_none t nets rows marks are marked g s mark h k =
    are.each g s (omega (arith, h, are.one_row_each)) k ∙ total_none t nets g s are.of_nets (λ j low same. marked.flat g j mark low same)

-- totals of 0 have no price risk
no_price_risk : price_risk2 (λ (s : ℕ). pos 0) ≡ pos 0
no_price_risk = refl

pub price_risk_none : (f : ℕ → ℤ) → ((s : ℕ) → s < 16 → f s ≡ pos 0) → unsigned_abs (price_risk2 f) ≡ 0
price_risk_none f none = ap unsigned_abs (price_risk2_same f (λ (s : ℕ). pos 0) none ∙ no_price_risk)

month_none : (t : Tables) (nets : List ℤ) (g m : ℕ) → IsWithinLimits t → AreNets t nets → IsFlatIn t nets g → (month_at t.months m).commodity ≡ g → month_delta (positions t.contracts nets) m ≡ pos 0
unfolding IsFlatIn
month_none t nets g m limits are flat own =
    let n = length t.contracts in
    let each = λ (k : ℕ) (h : k < n).
    let limit = limits.contracts k no_contract h in
    let none : month_share m (contract_at t.contracts k, value_at nets k) ≡ pos 0 =
    ⊎_elim
    (λ (same : (contract_at t.contracts k).month ≡ m).
    let in_month = ap (λ (j : ℕ). (month_at t.months j).commodity) same in
    month_share_flat m (contract_at t.contracts k, value_at nets k) (flat k h (omega (arith, in_month, own, limit.own_month))))
    (λ (other : (contract_at t.contracts k).month ≢ m). grind (arith, other))
    (cases_eq (contract_at t.contracts k).month m) in
    let low : unsigned_abs (month_share m (contract_at t.contracts k, value_at nets k)) ≤ 0 = omega (arith, ints, none) in
    low in
    let sum = share_sum_small (month_share m) 0 t.contracts nets n are.one_each each (omega arith) in
    let all = position_sum_all (month_share m) t.contracts nets n (omega arith) are.one_each in
    omega (arith, ints, sum, all)

start_none : (t : Tables) (nets : List ℤ) (g leg : ℕ) → IsWithinLimits t → AreNets t nets → IsFlatIn t nets g → start_of t.months (positions t.contracts nets) g leg ≡ 0
start_none t nets g leg limits are flat =
    let portfolio : List Position = positions t.contracts nets in
    let share = λ (m : ℕ). start_share (month_at t.months m) (month_delta portfolio m) g leg in
    let none = λ (m : ℕ) (h : m < length t.months).
    let is : share m ≡ 0 =
    ⊎_elim
    (λ (same : (month_at t.months m).commodity ≡ g). rw (month_none t nets g m limits are flat same) (start_share_none (month_at t.months m) g leg))
    (λ (other : (month_at t.months m).commodity ≢ g). grind (arith, other))
    (cases_eq (month_at t.months m).commodity g) in
    is in
    sym (sum_below_if (nat_lt leg 8) (long_share t.months portfolio g leg) (short_share t.months portfolio g (leg - 8)) (length t.months)) ∙ sum_below_none share (length t.months) none

starts_none : (t : Tables) (nets : List ℤ) (g : ℕ) → IsWithinLimits t → AreNets t nets → IsFlatIn t nets g → starts_of t.months (positions t.contracts nets) g ≡ replicate 16 0
unfolding starts_from
starts_none t nets g limits are flat =
    sym (fill_by_all (start_of t.months (positions t.contracts nets) g) (replicate 16 0) 16 0 (length-replicate {A = ℕ} 16 0) (λ leg h. get_or-replicate {A = ℕ} 16 leg 0 0 h ∙ sym (start_none t nets g leg limits are flat)))

minimum_none : (t : Tables) (nets : List ℤ) (g charge : ℕ) → AreNets t nets → IsFlatIn t nets g → short_option_minimum (positions t.contracts nets) g charge ≡ 0
unfolding IsFlatIn
minimum_none t nets g charge are flat =
    let n = length t.contracts in
    let each = λ (k : ℕ) (h : k < n).
    let none : short_share_of g charge (contract_at t.contracts k, value_at nets k) ≤ 0 =
    ⊎_elim
    (λ (same : (contract_at t.contracts k).commodity ≡ g). omega (arith, short_share_flat g charge (contract_at t.contracts k, value_at nets k) (flat k h same)))
    (λ (other : (contract_at t.contracts k).commodity ≢ g). omega (arith, short_share_out g charge (contract_at t.contracts k) (value_at nets k) other))
    (cases_eq (contract_at t.contracts k).commodity g) in
    none in
    let sum = count_small (short_share_of g charge) 0 t.contracts nets n are.one_each each (omega arith) in
    let all = position_count_all (short_share_of g charge) t.contracts nets n (omega arith) are.one_each in
    omega (arith, sum, all)

pub risk_none : (t : Tables) (nets : List ℤ) (g : ℕ) → IsWithinLimits t → AreNets t nets → ((k : ℕ) → k < length t.contracts → (contract_at t.contracts k).commodity ≡ g → value_at nets k ≡ pos 0) → risk t (positions t.contracts nets) g ≡ pos 0
unfolding risk intra_charge spot_charge IsFlatIn
risk_none t nets g limits are flat =
    let portfolio : List Position = positions t.contracts nets in
    let starts = starts_none t nets g limits are flat in
    let stages = stages_of t.spreads g in
    let scan : scan_of portfolio g ≡ pos 0 = ap (int_max (pos 0)) (total_none t nets g (active (scenario_total g portfolio)) are flat) in
    let intra : intra_charge t portfolio g ≡ 0 = rw starts (charges_of_nothing 16 stages) in
    let spot : spot_charge t portfolio g ≡ 0 = rw (starts, left_by_nothing 16 stages) (spot_charge_of_nothing 16 (spot_of t.spots g)) in
    let least = minimum_none t nets g (commodity_at t.commodities g).short_option_charge are flat in
    rw (scan, intra, spot, least) (omega (arith, ints, clamps))
