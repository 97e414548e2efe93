-- What is kept of nets of 0.
use Rattle.std.proofs.Common.{◌≡◌, ℕ, List, length, pos, ℤ, unsigned_abs, ap, ◌∙◌, sym, refl, replicate, map}
use Rattle.std.specs.List.{range_with_len}
use Rattle.std.proofs.lemmas.List.{get_or-replicate, length-replicate}
use Rattle.std.proofs.lemmas.List.FromFn.{fill_by_all}
use Rattle.mgn_params.specs.Tables.{Tables}
use Rattle.mgn_span.specs.MonthDeltas.{net_delta_by}
use Rattle.mgn_span.specs.Positions.{AreFlat, Position, positions}
use Rattle.mgn_span.specs.Scan.{price_risk2, scenario_total}
use Rattle.mgn_span.specs.Words.{net_delta}
use Rattle.mgn_span.proofs.FlatLemmas.{AreFlat-replicate, risk_of_flat, scenario_total_flat}
use Rattle.mgn_span.proofs.MonthDeltaLemmas.{month_deltas-none, net_delta_by-month_deltas}
use Rattle.mgn_span.proofs.ScanLemmas.{price_risk2_same}
use Rattle.mgn_scan.specs.Totals.{AreTotals}
use Rattle.mgn_option.specs.Sums.{AreSums}
use Rattle.mgn_tiers.specs.Tiers.{AreTiersOf}
use Rattle.mgn_scan.proofs.TotalsLemmas.{AreTotals-flat}
use Rattle.mgn_option.proofs.SumsLemmas.{AreSums-flat}
use Rattle.mgn_tiers.proofs.StartLemmas.{net_none}
use Rattle.mgn_tiers.proofs.TierLemmas.{tiers_none}
use Rattle.mgn_inter.specs.Credited.{AreCreditsOf}
use Rattle.mgn_nets.specs.declared.portfolios.Portfolios.{Portfolios}
use Rattle.mgn_tiers.proofs.PartLemmas.{part-replicate}
use Rattle.mgn_desk.specs.declared.figures.Figures.{Figures}
use Rattle.mgn_desk.specs.declared.own_rows.OwnRows.{OwnRows}
use Rattle.mgn_desk.specs.declared.portfolio.Portfolio.{Portfolio}
use Rattle.mgn_desk.specs.declared.portfolio.Portfolio.TheVariants.{Lots}
use Rattle.mgn_desk.specs.KeptRows.{KeptRow, no_row}
use Rattle.mgn_desk.specs.UnitLists.{AreLists, IsTogether, flat_lists, no_four, no_own, one_of, own_of, rows_shown}
use Rattle.mgn_desk.specs.WorkedPortfolios.{AreFlatFigures, IsPortfolio, worked, WorkedPortfolio}
use Rattle.mgn_desk.proofs.ShownLemmas.{get_or-replicate-any, one_of_none, own_of_none, rows_flat}

abbrev flat_nets : Tables → List ℤ
flat_nets t = replicate (length t.contracts) (pos 0)

abbrev none_held : Tables → List Position
none_held t = positions t.contracts (flat_nets t)

are_flat : (t : Tables) → AreFlat (flat_nets t)
are_flat t = AreFlat-replicate (length t.contracts)

-- the numbers of each commodity are 0
net_delta_flat : (t : Tables) (g : ℕ) → net_delta t.months (none_held t) g ≡ pos 0
net_delta_flat t g =
    sym (net_delta_by-month_deltas t.months (none_held t) g) ∙ ap (λ (ds : List ℤ). net_delta_by t.months ds g) (month_deltas-none t.months t.contracts) ∙ net_none t.months g

no_price_risk : price_risk2 (λ (s : ℕ). pos 0) ≡ pos 0
no_price_risk = refl

price_risk_flat : (t : Tables) (g : ℕ) → unsigned_abs (price_risk2 (scenario_total g (none_held t))) ≡ 0
price_risk_flat t g =
    ap unsigned_abs (price_risk2_same (scenario_total g (none_held t)) (λ (s : ℕ). pos 0) (λ s h. scenario_total_flat t.contracts (flat_nets t) g s (are_flat t)) ∙ no_price_risk)

-- and so are their rows
flat_row : {X : Type 0} (f : ℕ → X) (zero : X) (n : ℕ) → ((k : ℕ) → f k ≡ zero) → replicate n zero ≡ map f (range_with_len 0 n)
flat_row {X} f zero n all =
    fill_by_all f (replicate n zero) n zero (length-replicate {A = X} n zero) (λ k h. get_or-replicate n k zero zero h ∙ sym (all k))

flat_portfolio : (t : Tables) (p : WorkedPortfolio) → p.nets ≡ flat_nets t → AreTotals t (flat_nets t) p.totals → AreSums t (flat_nets t) p.sums → AreTiersOf t p.tiers → p.tiers.deltas ≡ replicate (length t.months) (pos 0) → AreCreditsOf t p.credits → p.credits.deltas ≡ replicate (length t.commodities) (pos 0) → p.credits.risks ≡ replicate (length t.commodities) 0 → p.risks ≡ replicate (length t.commodities) (pos 0) → IsPortfolio t p
flat_portfolio t p nets totals sums tiers deltas credits net_deltas price_risks risks =
    let n = length t.commodities in
    let portfolio = none_held t in
    record {
      ready = record {
        parts = record {
          totals = rw nets totals;
          sums = rw nets sums;
          tiers = tiers;
          deltas = rw nets (deltas ∙ sym (month_deltas-none t.months t.contracts));
        };
        credits = record {
          of_set = credits;
          net_deltas = rw nets (net_deltas ∙ flat_row (net_delta t.months portfolio) (pos 0) n (net_delta_flat t));
          price_risks = rw nets (price_risks ∙ flat_row (λ g. unsigned_abs (price_risk2 (scenario_total g portfolio))) 0 n (price_risk_flat t));
        };
      };
      risks = record {
        one_each = ap length risks ∙ length-replicate {A = ℤ} n (pos 0);
        each = λ g h. rw (nets, risks) (get_or-replicate n g (pos 0) (pos 0) h ∙ sym (risk_of_flat t (flat_nets t) g (are_flat t)));
      };
    }

-- and with lists and figures of nothing
part_flat : {X : Type 0} (f : KeptRow → X) (w : Portfolio) (n m : ℕ) → map f (rows_shown w (replicate n no_row) (replicate m no_own)) ≡ replicate n (f no_row)
part_flat f w n m = ap (λ (rows : List KeptRow). map f rows) (rows_flat w n m) ∙ part-replicate f n no_row

four_flat : (w : Portfolio) (n : ℕ) → map (one_of w) (replicate n no_four) ≡ replicate n (pos 0)
four_flat w n = part-replicate (one_of w) n no_four ∙ ap (λ (z : ℤ). replicate n z) (one_of_none w)

pub flat_worked : (t : Tables) (w : Portfolio) (f : Figures) → AreFlatFigures t f → IsPortfolio t (worked w (flat_lists t) f)
flat_worked t w f are =
    let p = worked w (flat_lists t) f in
    let n = length t.commodities in
    let deltas = four_flat w (length t.months) in
    let tiers = tiers_none t p.tiers deltas (part_flat (λ (r : KeptRow). r.tier.net_delta) w n n) (part_flat (λ (r : KeptRow). r.tier.run) w n n) in
    let sums = AreSums-flat t p.sums (part_flat (λ (r : KeptRow). r.minimum) w n n) are.value in
    flat_portfolio t p (four_flat w (length t.contracts)) (AreTotals-flat t p.totals (part_flat (λ (r : KeptRow). r.scan) w n n)) sums tiers deltas are.credits are.net_deltas are.price_risks are.risks

-- in which the portfolios are together
pub flat_together : (t : Tables) (w : Portfolio) → IsTogether w (flat_lists t)
flat_together t w = record {
  nets = four_flat w (length t.contracts) ∙ sym (four_flat Lots (length t.contracts));
  deltas = four_flat w (length t.months) ∙ sym (four_flat Lots (length t.months));
  none = λ g. ap (λ (o : OwnRows). own_of w o) (get_or-replicate-any (length t.commodities) g) ∙ own_of_none w;
}

pub flat_are : (t : Tables) → AreLists t (flat_lists t)
flat_are t = record {
  nets = length-replicate {A = Portfolios ℤ} (length t.contracts) no_four;
  deltas = length-replicate {A = Portfolios ℤ} (length t.months) no_four;
  rows = length-replicate {A = KeptRow} (length t.commodities) no_row;
  own = length-replicate {A = OwnRows} (length t.commodities) no_own;
}
