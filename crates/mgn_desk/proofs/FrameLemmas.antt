-- A change of one net leaves the numbers of the other commodities as they were: for `Portfolio::change`.
use Rattle.std.proofs.Common.{◌≡◌, ◌≢◌, ℕ, ◌<◌, List, length, slice_set, ℤ, ap, ◌∙◌, sym, arith, refl, ne_eqb}
use Rattle.std.specs.Prelude.{◌+ℤ◌, ◌*ℤ◌}
use Rattle.std.proofs.lemmas.Int.{ints}
use Rattle.std.proofs.lemmas.List.FromFn.{length-map-range_with_len}
use Rattle.mgn_params.specs.Limits.{IsWithinLimits}
use Rattle.mgn_params.specs.Tables.{Tables, commodity_at, contract_at, month_at, no_contract}
use Rattle.mgn_span.specs.Deltas.{month_delta}
use Rattle.mgn_span.specs.MonthDeltas.{intra_charge_by, month_deltas, net_delta_by, spot_charge_by}
use Rattle.mgn_span.specs.Positions.{positions}
use Rattle.mgn_span.specs.Requirement.{intra_charge, minimum, scan_of, spot_charge}
use Rattle.mgn_span.specs.Scan.{price_risk2, scenario_total, value_at}
use Rattle.mgn_span.specs.Spot.{spot_charge_from, spot_of}
use Rattle.mgn_span.specs.Stages.{charges_of, left_by, stages_of}
use Rattle.mgn_span.specs.Words.{net_delta, scenario_share, short_share_of}
use Rattle.mgn_span.proofs.MonthDeltaLemmas.{intra_charge_by-month_deltas, month_deltas-set, net_delta_by-month_deltas, spot_charge_by-month_deltas}
use Rattle.mgn_span.proofs.PositionLemmas.{position_count-set, position_sum-set}
use Rattle.mgn_span.proofs.ScanLemmas.{price_risk2_same, scan_risk_same}
use Rattle.mgn_span.proofs.ShareLemmas.{scenario_share_out, short_share_out}
use Rattle.mgn_tiers.proofs.StartLemmas.{net_moved, starts_kept}
use Rattle.mgn_desk.specs.WorkedPortfolios.{charge_of, SameBut}

-- a net with a quantity more
abbrev pub changed : List ℤ → ℕ → ℤ → List ℤ
changed nets i q = slice_set nets i (value_at nets i +ℤ q)

total_kept : (t : Tables) (nets : List ℤ) (i k s : ℕ) (q : ℤ) → i < length t.contracts → length nets ≡ length t.contracts → (contract_at t.contracts i).commodity ≢ k → scenario_total k (positions t.contracts (changed nets i q)) s ≡ scenario_total k (positions t.contracts nets) s
total_kept t nets i k s q h long other =
    let c = contract_at t.contracts i in
    let moved = position_sum-set (scenario_share k s) t.contracts nets i (value_at nets i +ℤ q) h long in
    let none = λ (n : ℤ). scenario_share_out k s c n other in
    omega (arith, ints, moved, none (value_at nets i), none (value_at nets i +ℤ q))

scan_kept : (t : Tables) (nets : List ℤ) (i k : ℕ) (q : ℤ) → i < length t.contracts → length nets ≡ length t.contracts → (contract_at t.contracts i).commodity ≢ k → scan_of (positions t.contracts (changed nets i q)) k ≡ scan_of (positions t.contracts nets) k
scan_kept t nets i k q h long other =
    scan_risk_same (scenario_total k (positions t.contracts (changed nets i q))) (scenario_total k (positions t.contracts nets)) (λ s low. total_kept t nets i k s q h long other)

price_risk_kept : (t : Tables) (nets : List ℤ) (i k : ℕ) (q : ℤ) → i < length t.contracts → length nets ≡ length t.contracts → (contract_at t.contracts i).commodity ≢ k → price_risk2 (scenario_total k (positions t.contracts (changed nets i q))) ≡ price_risk2 (scenario_total k (positions t.contracts nets))
price_risk_kept t nets i k q h long other =
    price_risk2_same (scenario_total k (positions t.contracts (changed nets i q))) (scenario_total k (positions t.contracts nets)) (λ s low. total_kept t nets i k s q h long other)

minimum_kept : (t : Tables) (nets : List ℤ) (i k : ℕ) (q : ℤ) → i < length t.contracts → length nets ≡ length t.contracts → (contract_at t.contracts i).commodity ≢ k → minimum t (positions t.contracts (changed nets i q)) k ≡ minimum t (positions t.contracts nets) k
minimum_kept t nets i k q h long other =
    let c = contract_at t.contracts i in
    let charge = (commodity_at t.commodities k).short_option_charge in
    let moved = position_count-set (short_share_of k charge) t.contracts nets i (value_at nets i +ℤ q) h long in
    let none = λ (n : ℤ). short_share_out k charge c n other in
    omega (arith, moved, none (value_at nets i), none (value_at nets i +ℤ q))

-- The contract's month is one of its commodity.

pub deltas_changed : (t : Tables) (nets : List ℤ) (i : ℕ) (q : ℤ) → IsWithinLimits t → i < length t.contracts → length nets ≡ length t.contracts → let c = contract_at t.contracts i in let deltas = month_deltas t.months (positions t.contracts nets) in month_deltas t.months (positions t.contracts (changed nets i q)) ≡ slice_set deltas c.month (value_at deltas c.month +ℤ q *ℤ c.delta)
deltas_changed t nets i q limits h long =
    month_deltas-set t.months t.contracts nets i q h long (limits.contracts i no_contract h).month

other_month : (t : Tables) (i k : ℕ) → IsWithinLimits t → i < length t.contracts → (contract_at t.contracts i).commodity ≢ k → (month_at t.months (contract_at t.contracts i).month).commodity ≢ k
other_month t i k limits h other e =
    other (sym (limits.contracts i no_contract h).own_month ∙ e)

deltas_long : (t : Tables) (nets : List ℤ) → length (month_deltas t.months (positions t.contracts nets)) ≡ length t.months
deltas_long t nets = length-map-range_with_len (month_delta (positions t.contracts nets)) 0 (length t.months)

intra_by_kept : (t : Tables) (deltas : List ℤ) (m k : ℕ) (d : ℤ) → length deltas ≡ length t.months → m < length t.months → (month_at t.months m).commodity ≢ k → intra_charge_by t (slice_set deltas m d) k ≡ intra_charge_by t deltas k
unfolding intra_charge_by
intra_by_kept t deltas m k d long h other =
    ap (λ (starts : List ℕ). charges_of starts (stages_of t.spreads k)) (sym (starts_kept t.months deltas m d k long h other))

spot_by_kept : (t : Tables) (deltas : List ℤ) (m k : ℕ) (d : ℤ) → length deltas ≡ length t.months → m < length t.months → (month_at t.months m).commodity ≢ k → spot_charge_by t (slice_set deltas m d) k ≡ spot_charge_by t deltas k
unfolding spot_charge_by
spot_by_kept t deltas m k d long h other =
    ap (λ (starts : List ℕ). spot_charge_from starts (left_by starts (stages_of t.spreads k)) (spot_of t.spots k)) (sym (starts_kept t.months deltas m d k long h other))

net_by_kept : (t : Tables) (deltas : List ℤ) (m k : ℕ) (d : ℤ) → length deltas ≡ length t.months → m < length t.months → (month_at t.months m).commodity ≢ k → net_delta_by t.months (slice_set deltas m (value_at deltas m +ℤ d)) k ≡ net_delta_by t.months deltas k
net_by_kept t deltas m k d long h other =
    let moved = rw (ne_eqb (month_at t.months m).commodity k other) at (net_moved t.months deltas m d k long h) in
    omega (arith, ints, moved)

intra_kept : (t : Tables) (nets : List ℤ) (i k : ℕ) (q : ℤ) → IsWithinLimits t → i < length t.contracts → length nets ≡ length t.contracts → (contract_at t.contracts i).commodity ≢ k → intra_charge t (positions t.contracts (changed nets i q)) k ≡ intra_charge t (positions t.contracts nets) k
intra_kept t nets i k q limits h long other =
    let c = contract_at t.contracts i in
    let deltas = month_deltas t.months (positions t.contracts nets) in
    sym (intra_charge_by-month_deltas t (positions t.contracts (changed nets i q)) k)
    ∙ ap (λ (ds : List ℤ). intra_charge_by t ds k) (deltas_changed t nets i q limits h long)
    ∙ intra_by_kept t deltas c.month k (value_at deltas c.month +ℤ q *ℤ c.delta) (deltas_long t nets) (limits.contracts i no_contract h).month (other_month t i k limits h other)
    ∙ intra_charge_by-month_deltas t (positions t.contracts nets) k

spot_kept : (t : Tables) (nets : List ℤ) (i k : ℕ) (q : ℤ) → IsWithinLimits t → i < length t.contracts → length nets ≡ length t.contracts → (contract_at t.contracts i).commodity ≢ k → spot_charge t (positions t.contracts (changed nets i q)) k ≡ spot_charge t (positions t.contracts nets) k
spot_kept t nets i k q limits h long other =
    let c = contract_at t.contracts i in
    let deltas = month_deltas t.months (positions t.contracts nets) in
    sym (spot_charge_by-month_deltas t (positions t.contracts (changed nets i q)) k)
    ∙ ap (λ (ds : List ℤ). spot_charge_by t ds k) (deltas_changed t nets i q limits h long)
    ∙ spot_by_kept t deltas c.month k (value_at deltas c.month +ℤ q *ℤ c.delta) (deltas_long t nets) (limits.contracts i no_contract h).month (other_month t i k limits h other)
    ∙ spot_charge_by-month_deltas t (positions t.contracts nets) k

net_delta_kept : (t : Tables) (nets : List ℤ) (i k : ℕ) (q : ℤ) → IsWithinLimits t → i < length t.contracts → length nets ≡ length t.contracts → (contract_at t.contracts i).commodity ≢ k → net_delta t.months (positions t.contracts (changed nets i q)) k ≡ net_delta t.months (positions t.contracts nets) k
net_delta_kept t nets i k q limits h long other =
    let c = contract_at t.contracts i in
    let deltas = month_deltas t.months (positions t.contracts nets) in
    sym (net_delta_by-month_deltas t.months (positions t.contracts (changed nets i q)) k)
    ∙ ap (λ (ds : List ℤ). net_delta_by t.months ds k) (deltas_changed t nets i q limits h long)
    ∙ net_by_kept t deltas c.month k (q *ℤ c.delta) (deltas_long t nets) (limits.contracts i no_contract h).month (other_month t i k limits h other)
    ∙ net_delta_by-month_deltas t.months (positions t.contracts nets) k

-- the risk before credits
charge_kept : (t : Tables) (nets : List ℤ) (i k : ℕ) (q : ℤ) → IsWithinLimits t → i < length t.contracts → length nets ≡ length t.contracts → (contract_at t.contracts i).commodity ≢ k → charge_of t (positions t.contracts (changed nets i q)) k ≡ charge_of t (positions t.contracts nets) k
charge_kept t nets i k q limits h long other =
    rw (scan_kept t nets i k q h long other, intra_kept t nets i k q limits h long other, spot_kept t nets i k q limits h long other) refl

-- and so the numbers of all other commodities
pub same_but_changed : (t : Tables) (nets : List ℤ) (i : ℕ) (q : ℤ) → IsWithinLimits t → i < length t.contracts → length nets ≡ length t.contracts → SameBut t (contract_at t.contracts i).commodity nets (changed nets i q)
same_but_changed t nets i q limits h long = record {
  charges = λ k other. charge_kept t nets i k q limits h long (λ e. other (sym e));
  net_deltas = λ k other. net_delta_kept t nets i k q limits h long (λ e. other (sym e));
  price_risks = λ k other. price_risk_kept t nets i k q h long (λ e. other (sym e));
  minimums = λ k other. minimum_kept t nets i k q h long (λ e. other (sym e));
}
