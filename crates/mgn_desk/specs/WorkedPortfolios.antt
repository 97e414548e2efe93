-- The nets of a portfolio with what is kept of them, commodity by commodity.
use Rattle.std.specs.Prelude.{ℕ, ◌≡◌, ◌≢◌, ◌<◌, ℤ, pos, ◌+ℤ◌, ◌-ℤ◌, unsigned_abs, List, length, map, replicate, slice_index}
use Rattle.std.specs.Int.{int_max}
use Rattle.std.specs.List.{range_with_len}
use Rattle.mgn_params.specs.Tables.{Tables}
use Rattle.mgn_span.specs.Deltas.{month_delta, net_delta_from}
use Rattle.mgn_span.specs.MonthDeltas.{month_deltas}
use Rattle.mgn_span.specs.Positions.{Position, positions}
use Rattle.mgn_span.specs.Requirement.{intra_charge, minimum, risk, scan_of, spot_charge}
use Rattle.mgn_span.specs.Scan.{price_risk2, scenario_total, value_at}
use Rattle.mgn_span.specs.Words.{totals_of}
use Rattle.mgn_scan.specs.Totals.{AreTotals}
use Rattle.mgn_option.specs.Sums.{AreSums, Sums}
use Rattle.mgn_tiers.specs.Tiers.{AreTiersOf, Tiers, run_at}
use Rattle.mgn_inter.specs.Credited.{AreCreditRows, AreCreditsOf}
use Rattle.mgn_inter.specs.Rows.{Credited}
use Rattle.mgn_desk.specs.declared.figures.Figures.{Figures}
use Rattle.mgn_desk.specs.declared.portfolio.Portfolio.{Portfolio}
use Rattle.mgn_desk.specs.declared.unit_lists.UnitLists.{UnitLists}
use Rattle.mgn_desk.specs.KeptRows.{KeptRow, row_charge, sums_by, tiers_by, totals_by}
use Rattle.mgn_desk.specs.UnitLists.{deltas_in, nets_in, rows_in}

-- the nets of a set's contracts in file order; scenario totals, option sums, stages and credits; the risk of each commodity
pub record WorkedPortfolio : Type 0 where
  pub nets : List ℤ
  pub totals : List (List ℤ)
  pub sums : Sums
  pub tiers : Tiers
  pub credits : Credited
  pub risks : List ℤ

-- The numbers of each commodity.

-- the scan risk with the spreading and the spot charge (CME SPAN)
abbrev pub charge_of : Tables → List Position → ℕ → ℤ
charge_of set portfolio g = scan_of portfolio g +ℤ pos (intra_charge set portfolio g) +ℤ pos (spot_charge set portfolio g)

abbrev pub net_deltas_of : Tables → List Position → List ℤ
net_deltas_of set portfolio = map (net_delta_from set.months (month_delta portfolio)) (range_with_len 0 (length set.commodities))

abbrev pub price_risks_of : Tables → List Position → List ℕ
price_risks_of set portfolio =
    map (λ g. unsigned_abs (price_risk2 (scenario_total g portfolio))) (range_with_len 0 (length set.commodities))

-- What is kept is that of these nets under this set.

-- totals, option sums and stages
pub record AreParts (set : Tables) (p : WorkedPortfolio) : Type 0 where
  pub totals : AreTotals set p.nets p.totals
  pub sums : AreSums set p.nets p.sums
  pub tiers : AreTiersOf set p.tiers
  pub deltas : p.tiers.deltas ≡ month_deltas set.months (positions set.contracts p.nets)

-- credits
pub record AreCreditsBy (set : Tables) (nets : List ℤ) (credits : Credited) : Type 0 where
  pub of_set : AreCreditsOf set credits
  pub net_deltas : credits.deltas ≡ net_deltas_of set (positions set.contracts nets)
  pub price_risks : credits.risks ≡ price_risks_of set (positions set.contracts nets)

-- risks
pub record AreRisks (set : Tables) (nets risks : List ℤ) : Type 0 where
  pub one_each : length risks ≡ length set.commodities
  pub each : (g : ℕ) → g < length set.commodities → value_at risks g ≡ risk set (positions set.contracts nets) g

-- all but the risks
pub record IsReady (set : Tables) (p : WorkedPortfolio) : Type 0 where
  pub parts : AreParts set p
  pub credits : AreCreditsBy set p.nets p.credits

-- all that is kept of a portfolio is that of its nets under this set: one net for each contract, within its limit
pub record IsPortfolio (set : Tables) (p : WorkedPortfolio) : Type 0 where
  pub ready : IsReady set p
  pub risks : AreRisks set p.nets p.risks

-- the numbers of the commodities but one are the same by some nets as by others
pub record SameBut (set : Tables) (g : ℕ) (old new : List ℤ) : Type 0 where
  pub charges : (k : ℕ) → k ≢ g → charge_of set (positions set.contracts new) k ≡ charge_of set (positions set.contracts old) k
  pub net_deltas : (k : ℕ) → k ≢ g → net_delta_from set.months (month_delta (positions set.contracts new)) k ≡ net_delta_from set.months (month_delta (positions set.contracts old)) k
  pub price_risks : (k : ℕ) → k ≢ g → price_risk2 (scenario_total k (positions set.contracts new)) ≡ price_risk2 (scenario_total k (positions set.contracts old))
  pub minimums : (k : ℕ) → k ≢ g → minimum set (positions set.contracts new) k ≡ minimum set (positions set.contracts old) k

-- what is kept is that of the nets, but for what hangs on the nets of one commodity, of which it is that of earlier ones
pub record IsBehind (set : Tables) (g : ℕ) (p : WorkedPortfolio) : Type 0 where
  pub was : List ℤ
  pub parts : AreParts set p
  pub credits : AreCreditsBy set was p.credits
  pub risks : AreRisks set was p.risks
  pub others : SameBut set g was p.nets

-- the row of a commodity
abbrev pub row_of : WorkedPortfolio → ℕ → KeptRow
row_of p g = record {
  scan = totals_of p.totals g;
  tier = record { net_delta = value_at p.tiers.net_deltas g; run = run_at p.tiers.runs g };
  minimum = slice_index p.sums.minimums g;
}

-- its risk by what is kept: at least the minimum
abbrev pub worked_risk : WorkedPortfolio → ℕ → ℤ
worked_risk p g =
    int_max (row_charge (row_of p g) -ℤ pos (slice_index p.credits.credits g)) (pos (slice_index p.sums.minimums g))

-- the same with other credits, with other risks
abbrev pub with_credits : WorkedPortfolio → Credited → WorkedPortfolio
with_credits p credits = record p { credits = credits }

abbrev pub with_risks : WorkedPortfolio → List ℤ → WorkedPortfolio
with_risks p risks = record p { risks = risks }

-- Of lists and figures.

abbrev pub worked : Portfolio → UnitLists → Figures → WorkedPortfolio
worked w l f = record {
  nets = nets_in w l;
  totals = totals_by (rows_in w l);
  sums = sums_by (rows_in w l) f.value;
  tiers = tiers_by (rows_in w l) (deltas_in w l);
  credits = f.credits;
  risks = f.risks;
}

-- as many of each as a set has commodities and intercommodity spreads
pub record AreFigures (set : Tables) (f : Figures) : Type 0 where
  pub credits : AreCreditRows set f.credits
  pub risks : length f.risks ≡ length set.commodities

-- those of nets of 0
pub record AreFlatFigures (set : Tables) (f : Figures) : Type 0 where
  pub credits : AreCreditsOf set f.credits
  pub net_deltas : f.credits.deltas ≡ replicate (length set.commodities) (pos 0)
  pub price_risks : f.credits.risks ≡ replicate (length set.commodities) 0
  pub risks : f.risks ≡ replicate (length set.commodities) (pos 0)
  pub value : f.value ≡ pos 0
