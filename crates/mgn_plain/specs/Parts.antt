-- What the rows of a calculation are, in the words of the definitions.
use Rattle.std.specs.Prelude.{ℕ, ◌*◌, ◌≡◌, ◌<◌, ◌≤◌, ◌^◌, Bool, false, ℤ, pos, unsigned_abs, List, length, slice_index, All}
use Rattle.mgn_params.specs.Tables.{Tables, contract_at}
use Rattle.mgn_span.specs.Credits.{credits_of}
use Rattle.mgn_span.specs.Deltas.{month_delta}
use Rattle.mgn_span.specs.Options.{net_option_value}
use Rattle.mgn_span.specs.Positions.{IsNet, positions}
use Rattle.mgn_span.specs.Requirement.{credits, minimum}
use Rattle.mgn_span.specs.Scan.{price_risk2, scenario_total, value_at}
use Rattle.mgn_span.specs.Sizes.{IsStart}
use Rattle.mgn_span.specs.Words.{net_delta, starts_of, total_of}
use Rattle.mgn_plain.specs.declared.figure_rows.FigureRows.{FigureRows}
use Rattle.mgn_plain.specs.declared.sums.Sums.{Sums}
use Rattle.mgn_plain.specs.Kept.{leg_of, legs_row, mark_at}

-- one net for each contract, each at most 10^7 in size
pub record AreNets (set : Tables) (nets : List ℤ) : Type 0 where
  pub one_each : length nets ≡ length set.contracts
  pub small : All IsNet nets

-- the totals of the 16 scenarios, a row for each commodity
pub record AreTotals (set : Tables) (nets : List ℤ) (rows : List (List ℤ)) : Type 0 where
  pub of_nets : AreNets set nets
  pub one_row_each : length rows ≡ length set.commodities
  pub each : (g s : ℕ) → g < length set.commodities → s < 16 → total_of rows g s ≡ scenario_total g (positions set.contracts nets) s

-- the deltas of the months
pub record AreDeltas (set : Tables) (nets deltas : List ℤ) : Type 0 where
  pub of_nets : AreNets set nets
  pub one_delta_each : length deltas ≡ length set.months
  pub each : (m : ℕ) → m < length set.months → value_at deltas m ≡ month_delta (positions set.contracts nets) m

-- the short option minimums of the commodities
pub record AreMinimums (set : Tables) (nets : List ℤ) (row : List ℕ) : Type 0 where
  pub one_each : length row ≡ length set.commodities
  pub each : (g : ℕ) → g < length set.commodities → slice_index row g ≡ minimum set (positions set.contracts nets) g
  pub small : (g : ℕ) → g < length set.commodities → slice_index row g ≤ 10 ^ 20

-- the commodities without a mark have nets of 0
pub record AreMarks (set : Tables) (nets : List ℤ) (marks : List Bool) : Type 0 where
  pub one_each : length marks ≡ length set.commodities
  pub flat : (g k : ℕ) → mark_at marks g ≡ false → k < length set.contracts → (contract_at set.contracts k).commodity ≡ g → value_at nets k ≡ pos 0

-- all that is summed over the positions
pub record AreSums (set : Tables) (nets : List ℤ) (sums : Sums) : Type 0 where
  pub totals : AreTotals set nets sums.totals
  pub deltas : AreDeltas set nets sums.deltas
  pub minimums : AreMinimums set nets sums.minimums.items
  pub marks : AreMarks set nets sums.marks.items
  pub value : sums.option_value ≡ net_option_value (positions set.contracts nets)
  pub small_value : unsigned_abs sums.option_value ≤ 10 ^ 20

-- what the legs of the commodities start with
pub record AreStarts (set : Tables) (nets : List ℤ) (starts : List (List ℕ)) : Type 0 where
  pub one_row_each : length starts ≡ length set.commodities
  pub each : (g : ℕ) → g < length set.commodities → legs_row starts g ≡ starts_of set.months (positions set.contracts nets) g
  pub small : (g leg : ℕ) → g < length set.commodities → IsStart (leg_of starts g leg)

-- the net deltas of the commodities
pub record AreNetDeltas (set : Tables) (nets row : List ℤ) : Type 0 where
  pub of_nets : AreNets set nets
  pub one_each : length row ≡ length set.commodities
  pub each : (g : ℕ) → g < length set.commodities → value_at row g ≡ net_delta set.months (positions set.contracts nets) g

-- the doubled price risks by rows of totals
pub record AreRisks (totals : List (List ℤ)) (risks : List ℕ) : Type 0 where
  pub one_each : length risks ≡ length totals
  pub each : (g : ℕ) → g < length totals → slice_index risks g ≡ unsigned_abs (price_risk2 (total_of totals g))

-- what intercommodity spreads credit, by net deltas and doubled price risks
pub record AreCreditsFrom (set : Tables) (deltas : List ℤ) (risks row : List ℕ) : Type 0 where
  pub is : row ≡ credits_of deltas risks set.credits
  pub one_each : length row ≡ length set.commodities
  pub small : (g : ℕ) → slice_index row g ≤ 256 * 10 ^ 33

-- what intercommodity spreads credit to each commodity
pub record AreCredits (set : Tables) (nets : List ℤ) (row : List ℕ) : Type 0 where
  pub is : row ≡ credits set (positions set.contracts nets)
  pub one_each : length row ≡ length set.commodities
  pub small : (g : ℕ) → slice_index row g ≤ 256 * 10 ^ 33

-- all that the figures of the commodities are worked out from
pub record AreFigureRows (set : Tables) (nets : List ℤ) (rows : FigureRows) : Type 0 where
  pub sums : AreSums set nets rows.sums
  pub starts : AreStarts set nets rows.starts
  pub credits : AreCredits set nets rows.credits.items
