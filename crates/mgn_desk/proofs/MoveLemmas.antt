-- Totals, sums and stages after a change of one net, and what is worked out by them.
use Rattle.std.proofs.Common.{◌≡◌, ℕ, ◌<◌, List, length, slice_set, pos, ℤ, ap, ◌∙◌, sym, arith, refl, All, length-set, eq-eqb, get_or-set_same}
use Rattle.std.specs.Prelude.{◌+ℤ◌, ◌*ℤ◌}
use Rattle.std.proofs.lemmas.Int.{ints}
use Rattle.std.proofs.lemmas.List.Elements.{All-set}
use Rattle.std.proofs.lemmas.List.FromFn.{length-map-range_with_len}
use Rattle.mgn_params.specs.Limits.{IsWithinLimits}
use Rattle.mgn_params.specs.Tables.{Tables, contract_at, month_at, no_contract}
use Rattle.mgn_span.specs.Deltas.{month_delta}
use Rattle.mgn_span.specs.MonthDeltas.{intra_charge_by, month_deltas, net_delta_by, spot_charge_by}
use Rattle.mgn_span.specs.Positions.{IsNet, positions}
use Rattle.mgn_span.specs.Scan.{value_at}
use Rattle.mgn_span.specs.Sizes.{IsDelta}
use Rattle.mgn_span.specs.Words.{net_delta}
use Rattle.mgn_span.proofs.MonthDeltaLemmas.{intra_charge_by-month_deltas, net_delta_by-month_deltas, spot_charge_by-month_deltas, value_at-month_deltas}
use Rattle.mgn_scan.specs.Totals.{AreTotals}
use Rattle.mgn_scan.proofs.TotalsLemmas.{scan_is}
use Rattle.mgn_option.specs.Sums.{AreSums}
use Rattle.mgn_tiers.specs.Tiers.{AreTiersOf}
use Rattle.mgn_tiers.proofs.StartLemmas.{net_moved}
use Rattle.mgn_tiers.proofs.TierLemmas.{charge_of_run, spot_of_run}
use Rattle.mgn_desk.specs.KeptRows.{row_charge}
use Rattle.mgn_desk.specs.WorkedPortfolios.{AreParts, charge_of, row_of, WorkedPortfolio}
use Rattle.mgn_desk.proofs.FrameLemmas.{changed, deltas_changed}
use Rattle.mgn_span.proofs.DeltaLemmas.{month_delta_small, net_delta_small}

-- the nets after a change
changed_long : (t : Tables) (nets : List ℤ) (i : ℕ) (q : ℤ) → length nets ≡ length t.contracts → length (changed nets i q) ≡ length t.contracts
changed_long t nets i q long = length-set nets i (value_at nets i +ℤ q) ∙ long

changed_small : (nets : List ℤ) (i : ℕ) (q : ℤ) → All IsNet nets → IsNet (value_at nets i +ℤ q) → All IsNet (changed nets i q)
changed_small nets i q small net = All-set IsNet nets i (value_at nets i +ℤ q) net small

-- the delta of the contract's month is within its limit
pub month_delta_after : (t : Tables) (p : WorkedPortfolio) (i : ℕ) (q : ℤ) → IsWithinLimits t → AreParts t p → i < length t.contracts → IsNet (value_at p.nets i +ℤ q) → let c = contract_at t.contracts i in IsDelta (value_at p.tiers.deltas c.month +ℤ q *ℤ c.delta)
month_delta_after t p i q limits are h net =
    let c = contract_at t.contracts i in
    let long = are.totals.one_each in
    let month = (limits.contracts i no_contract h).month in
    let deltas = month_deltas t.months (positions t.contracts p.nets) in
    let rows : length deltas ≡ length t.months = length-map-range_with_len (month_delta (positions t.contracts p.nets)) 0 (length t.months) in
    let x = value_at deltas c.month +ℤ q *ℤ c.delta in
    let small = month_delta_small t (changed p.nets i q) c.month limits (changed_long t p.nets i q long) (changed_small p.nets i q are.totals.small net) in
    let read = value_at-month_deltas t.months (positions t.contracts (changed p.nets i q)) c.month month in
    let moved = ap (λ (ds : List ℤ). value_at ds c.month) (deltas_changed t p.nets i q limits h long) in
    let written = get_or-set_same deltas c.month x (pos 0) (omega (arith, rows, month)) in
    rw are.deltas (omega (arith, ints, small, read, moved, written))

-- and so is the net delta of its commodity
pub net_delta_after : (t : Tables) (p : WorkedPortfolio) (i : ℕ) (q : ℤ) → IsWithinLimits t → AreParts t p → i < length t.contracts → IsNet (value_at p.nets i +ℤ q) → let c = contract_at t.contracts i in IsDelta (net_delta_by t.months p.tiers.deltas (month_at t.months c.month).commodity +ℤ q *ℤ c.delta)
net_delta_after t p i q limits are h net =
    let c = contract_at t.contracts i in
    let g = (month_at t.months c.month).commodity in
    let long = are.totals.one_each in
    let month = (limits.contracts i no_contract h).month in
    let deltas = month_deltas t.months (positions t.contracts p.nets) in
    let rows : length deltas ≡ length t.months = length-map-range_with_len (month_delta (positions t.contracts p.nets)) 0 (length t.months) in
    let small = net_delta_small t (changed p.nets i q) g limits (changed_long t p.nets i q long) (changed_small p.nets i q are.totals.small net) in
    let is = net_delta_by-month_deltas t.months (positions t.contracts (changed p.nets i q)) g in
    let moved = ap (λ (ds : List ℤ). net_delta_by t.months ds g) (deltas_changed t p.nets i q limits h long) in
    let own = rw (eq-eqb g g refl) at (net_moved t.months deltas c.month (q *ℤ c.delta) g rows month) in
    rw are.deltas (omega (arith, ints, small, is, moved, own))

-- all of them are those of the changed nets
pub parts_after : (t : Tables) (p new : WorkedPortfolio) (i : ℕ) (q : ℤ) → IsWithinLimits t → AreParts t p → i < length t.contracts → new.nets ≡ changed p.nets i q → AreTotals t (changed p.nets i q) new.totals → AreSums t (changed p.nets i q) new.sums → AreTiersOf t new.tiers → (let c = contract_at t.contracts i in new.tiers.deltas ≡ slice_set p.tiers.deltas c.month (value_at p.tiers.deltas c.month +ℤ q *ℤ c.delta)) → AreParts t new
parts_after t p new i q limits are h is total_are sums_are tiers_are deltas =
    let c = contract_at t.contracts i in
    record {
      totals = rw is total_are;
      sums = rw is sums_are;
      tiers = tiers_are;
      deltas = rw is (deltas ∙ ap (λ (ds : List ℤ). slice_set ds c.month (value_at ds c.month +ℤ q *ℤ c.delta)) are.deltas ∙ sym (deltas_changed t p.nets i q limits h are.totals.one_each));
    }

-- the risk before credits by what is kept
pub charge_is : (t : Tables) (p : WorkedPortfolio) (g : ℕ) → AreParts t p → g < length t.commodities → row_charge (row_of p g) ≡ charge_of t (positions t.contracts p.nets) g
charge_is t p g are low =
    let portfolio = positions t.contracts p.nets in
    let scan = scan_is t p.nets p.totals (row_of p g).scan g are.totals (omega (arith, low, are.totals.one_row_each)) refl in
    let intra = ap pos (charge_of_run t p.tiers g are.tiers low ∙ ap (λ (ds : List ℤ). intra_charge_by t ds g) are.deltas ∙ intra_charge_by-month_deltas t portfolio g) in
    let spot = ap pos (spot_of_run t p.tiers g are.tiers low ∙ ap (λ (ds : List ℤ). spot_charge_by t ds g) are.deltas ∙ spot_charge_by-month_deltas t portfolio g) in
    rw (scan, intra, spot) refl

-- the net delta
pub net_delta_is : (t : Tables) (p : WorkedPortfolio) (g : ℕ) → AreParts t p → net_delta_by t.months p.tiers.deltas g ≡ net_delta t.months (positions t.contracts p.nets) g
net_delta_is t p g are =
    ap (λ (ds : List ℤ). net_delta_by t.months ds g) are.deltas ∙ net_delta_by-month_deltas t.months (positions t.contracts p.nets) g
