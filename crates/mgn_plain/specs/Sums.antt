-- What the positions up to a contract come to.
use Rattle.std.specs.Prelude.{ℕ, ◌≡◌, ◌<◌, false, ℤ, pos, List, length, slice_index, take}
use Rattle.mgn_params.specs.Tables.{Tables, commodity_at, contract_at}
use Rattle.mgn_span.specs.Deltas.{month_delta}
use Rattle.mgn_span.specs.Options.{net_option_value, short_option_minimum}
use Rattle.mgn_span.specs.Positions.{positions}
use Rattle.mgn_span.specs.Scan.{scenario_total, value_at}
use Rattle.mgn_span.specs.Words.{total_of}
use Rattle.mgn_plain.specs.declared.sums.Sums.{Sums}
use Rattle.mgn_plain.specs.Kept.{mark_at}
use Rattle.mgn_plain.specs.Parts.{AreNets}

-- the first so many positions, one for each contract in file order
pub record AreSumsTo (set : Tables) (nets : List ℤ) (count : ℕ) (sums : Sums) : Type 0 where
  pub of_nets : AreNets set nets
  pub one_row_each : length sums.totals ≡ length set.commodities
  pub one_delta_each : length sums.deltas ≡ length set.months
  pub one_minimum_each : length sums.minimums.items ≡ length set.commodities
  pub one_mark_each : length sums.marks.items ≡ length set.commodities
  pub totals : (g s : ℕ) → g < length set.commodities → s < 16 → total_of sums.totals g s ≡ scenario_total g (take count (positions set.contracts nets)) s
  pub deltas : (m : ℕ) → m < length set.months → value_at sums.deltas m ≡ month_delta (take count (positions set.contracts nets)) m
  pub minimums : (g : ℕ) → g < length set.commodities → slice_index sums.minimums.items g ≡ short_option_minimum (take count (positions set.contracts nets)) g (commodity_at set.commodities g).short_option_charge
  pub value : sums.option_value ≡ net_option_value (take count (positions set.contracts nets))
  pub flat : (g k : ℕ) → mark_at sums.marks.items g ≡ false → k < count → (contract_at set.contracts k).commodity ≡ g → value_at nets k ≡ pos 0
