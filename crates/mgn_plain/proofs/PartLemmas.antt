-- From the rows that loops fill to the words of the definitions, for `figures_of` and `work_out_credits`.
use Rattle.std.proofs.Common.{◌≡◌, ℕ, ◌*◌, ◌<◌, ◌≤◌, ◌^◌, List, [], length, replicate, ⊎_elim, ap, ◌∙◌, sym, arith, refl, map, pos, ℤ, unsigned_abs}
use Rattle.std.specs.Int.{int_max}
use Rattle.mgn_plain.specs.Figures.{commodity_figures}
use Rattle.mgn_plain.specs.declared.commodity.CommodityFigures.{CommodityFigures}
use Rattle.std.specs.Prelude.{◌+ℤ◌, ◌-ℤ◌, slice_index, Result, Ok, Err, IfOk}
use Rattle.std.specs.List.{range_with_len}
use Rattle.std.proofs.lemmas.Bool.{cases_lt}
use Rattle.std.proofs.lemmas.Int.{ints}
use Rattle.std.proofs.lemmas.List.{get_or-replicate, get_or_default, get_or_past, length-replicate, nil_from_length}
use Rattle.std.proofs.lemmas.List.FromFn.{fill_by_all, length-map-range_with_len}
use Rattle.mgn_span.specs.Credits.{credits_of}
use Rattle.mgn_span.specs.Words.{AreNumbers, net_delta, price_risk2_of, total_of}
use Rattle.mgn_params.specs.Limits.{IsWithinLimits}
use Rattle.mgn_span.specs.Positions.{Position, positions}
use Rattle.mgn_span.specs.Requirement.{credit, credits, intra_charge, minimum, risk, spot_charge}
use Rattle.mgn_span.specs.Scan.{scenario_total}
use Rattle.mgn_span.specs.Spot.{spot_of, spot_charge_from}
use Rattle.mgn_span.specs.Stages.{charges_of, stages_of, left_by}
use Rattle.mgn_params.specs.Tables.{Tables}
use Rattle.mgn_plain.specs.declared.figure_rows.FigureRows.{FigureRows}
use Rattle.mgn_plain.specs.declared.scanned.ScanFigures.{ScanFigures}
use Rattle.mgn_plain.specs.Kept.{legs_row}
use Rattle.mgn_plain.specs.Parts.{AreCredits, AreCreditsFrom, AreNetDeltas, AreFigureRows, AreRisks, AreTotals}
use Rattle.mgn_plain.specs.Scans.{scanned}
use Rattle.mgn_span.proofs.DeltaLemmas.{net_delta_small}
use Rattle.mgn_span.proofs.ShareLemmas.{scenario_total_small}
use Rattle.mgn_span.proofs.ScanLemmas.{active_same, scan_risk_same, price_risk2_same, price_risk2_small}

-- no kept total is large
total_small : (t : Tables) (nets : List ℤ) (rows : List (List ℤ)) (g s : ℕ) → IsWithinLimits t → AreTotals t nets rows → g < length t.commodities → s < 16 → unsigned_abs (total_of rows g s) ≤ 256 * 10 ^ 15
total_small t nets rows g s limits are h k =
    omega (arith, ints, are.each g s h k, scenario_total_small t nets g s limits are.of_nets.one_each are.of_nets.small)

-- equal totals have equal figures
scanned_same : (f h : ℕ → ℤ) → ((s : ℕ) → s < 16 → f s ≡ h s) → scanned f ≡ scanned h
scanned_same f h same = rw (price_risk2_same f h same, scan_risk_same f h same, active_same f h same) refl

-- the numbers that credits are worked out from are within their limits
pub credit_numbers : (t : Tables) (nets row : List ℤ) (totals : List (List ℤ)) (risks : List ℕ) → IsWithinLimits t → AreNetDeltas t nets row → AreTotals t nets totals → AreRisks totals risks → AreNumbers row risks
credit_numbers t nets row totals risks limits netted totalled priced = record {
  one_each = priced.one_each ∙ totalled.one_row_each ∙ sym netted.one_each;
  small_deltas = λ k d h.
      let low : k < length t.commodities = omega (arith, netted.one_each) in
      let small = net_delta_small t nets k limits netted.of_nets.one_each netted.of_nets.small in
      rw (get_or_default row k d (pos 0) h) (omega (arith, ints, netted.each k low, small));
  small_risks = λ g.
      ⊎_elim
      (λ (inside : g < length totals).
      let low : g < length t.commodities = omega (arith, totalled.one_row_each) in
      let risk = price_risk2_small (total_of totals g) (256 * 10 ^ 15) (λ s k. total_small t nets totals g s limits totalled low k) in
      omega (arith, priced.each g inside, risk))
      (λ past. rw (get_or_past risks g 0 (omega (arith, priced.one_each, past))) (omega arith))
      (cases_lt g (length totals));
}

-- credits from those numbers are those of the definitions
pub credits_are : (t : Tables) (nets row : List ℤ) (totals : List (List ℤ)) (risks credited : List ℕ) → AreNetDeltas t nets row → AreTotals t nets totals → AreRisks totals risks → AreCreditsFrom t row risks credited → AreCredits t nets credited
unfolding credits
credits_are t nets row totals risks credited netted totalled priced from =
    let portfolio : List Position = positions t.contracts nets in
    let n = length t.commodities in
    let rests : row ≡ map (net_delta t.months portfolio) (range_with_len 0 n) = fill_by_all (net_delta t.months portfolio) row n (pos 0) netted.one_each netted.each in
    let prices : risks ≡ map (price_risk2_of portfolio) (range_with_len 0 n) =
    fill_by_all (price_risk2_of portfolio) risks n 0 (priced.one_each ∙ totalled.one_row_each) (λ g h. priced.each g (omega (arith, totalled.one_row_each)) ∙ ap unsigned_abs (price_risk2_same (total_of totals g) (scenario_total g portfolio) (λ s k. totalled.each g s h k))) in
    record {
      is = from.is ∙ ap (λ (xs : List ℤ). credits_of xs risks t.credits) rests ∙ ap (λ (xs : List ℕ). credits_of (map (net_delta t.months portfolio) (range_with_len 0 n)) xs t.credits) prices;
      one_each = from.one_each;
      small = from.small;
    }

-- without spreads there are no credits
pub no_credits : (t : Tables) (nets : List ℤ) (credited : List ℕ) → length t.credits ≡ 0 → credited ≡ replicate (length t.commodities) 0 → AreCredits t nets credited
unfolding credits
no_credits t nets credited none zeros =
    let portfolio : List Position = positions t.contracts nets in
    let n = length t.commodities in
    let empty : t.credits ≡ [] = nil_from_length t.credits none in
    record {
      is = zeros ∙ ap (λ (m : ℕ). replicate m 0) (sym (length-map-range_with_len (net_delta t.months portfolio) 0 n)) ∙ ap (credits_of (map (net_delta t.months portfolio) (range_with_len 0 n)) (map (price_risk2_of portfolio) (range_with_len 0 n))) (sym empty);
      one_each = ap length zeros ∙ length-replicate {A = ℕ} n 0;
      small = λ g. rw zeros (⊎_elim (λ inside. rw (get_or-replicate {A = ℕ} n g 0 0 inside) (omega arith)) (λ past. rw (get_or_past {X = ℕ} (replicate {A = ℕ} n 0) g 0 (omega (arith, length-replicate {A = ℕ} n 0))) (omega arith)) (cases_lt g n));
    }

-- what follows from what an `Ok` holds
pub if_ok_along : {T E : Type 0} → (r : Result T E) (P Q : T → Type 0) → ((x : T) → P x → Q x) → IfOk r P → IfOk r Q
if_ok_along (Ok x) P Q along h = along x h
if_ok_along (Err e) P Q along h = h

-- the figures from the rows are those of the definitions
pub figures_are : (t : Tables) (nets : List ℤ) (rows : FigureRows) (g : ℕ) (scan : ScanFigures) (i s c m r : ℤ) → AreFigureRows t nets rows → g < length t.commodities → scan ≡ scanned (total_of rows.sums.totals g) → i ≡ pos (charges_of (legs_row rows.starts g) (stages_of t.spreads g)) → s ≡ pos (spot_charge_from (legs_row rows.starts g) (left_by (legs_row rows.starts g) (stages_of t.spreads g)) (spot_of t.spots g)) → c ≡ pos (slice_index rows.credits.items g) → m ≡ pos (slice_index rows.sums.minimums.items g) → r ≡ int_max (scan.scan +ℤ i +ℤ s -ℤ c) m → let built : CommodityFigures = record { scan = scan.scan; active = scan.active; price_risk2 = scan.price_risk2; intra = i; spot = s; credit = c; minimum = m; risk = r } in built ≡ commodity_figures t (positions t.contracts nets) g
unfolding commodity_figures risk intra_charge spot_charge
figures_are t nets rows g scan i s c m r are h read charged spotted creditted lowest risked =
    let portfolio : List Position = positions t.contracts nets in
    let starts = are.starts.each g h in
    let scan_is : scan ≡ scanned (scenario_total g portfolio) = read ∙ scanned_same (total_of rows.sums.totals g) (scenario_total g portfolio) (λ s k. are.sums.totals.each g s h k) in
    let intra_is : i ≡ pos (intra_charge t portfolio g) = charged ∙ ap (λ (xs : List ℕ). pos (charges_of xs (stages_of t.spreads g))) starts in
    let spot_is : s ≡ pos (spot_charge t portfolio g) = spotted ∙ ap (λ (xs : List ℕ). pos (spot_charge_from xs (left_by xs (stages_of t.spreads g)) (spot_of t.spots g))) starts in
    let credit_is : c ≡ pos (credit t portfolio g) = creditted ∙ ap (λ (xs : List ℕ). pos (slice_index xs g)) are.credits.is in
    let minimum_is : m ≡ pos (minimum t portfolio g) = lowest ∙ ap pos (are.sums.minimums.each g h) in
    rw (risked, scan_is, intra_is, spot_is, credit_is, minimum_is) refl

-- the risk among the figures of a commodity
pub risk_is : (t : Tables) (portfolio : List Position) (g : ℕ) → (commodity_figures t portfolio g).risk ≡ risk t portfolio g
unfolding commodity_figures
risk_is t portfolio g = refl
