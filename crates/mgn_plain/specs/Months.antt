-- What the months come to: what the legs of the commodities start with, and their net deltas.
use Rattle.std.specs.Prelude.{ℕ, ◌≡◌, ◌<◌, ℤ, List, length}
use Rattle.mgn_num.specs.Signed.{signed_sum_below, sum_below}
use Rattle.mgn_params.specs.Tables.{Tables}
use Rattle.mgn_span.specs.MonthDeltas.{leg_share, net_share_by}
use Rattle.mgn_span.specs.Scan.{value_at}
use Rattle.mgn_plain.specs.declared.deltas.MonthSums.{MonthSums}
use Rattle.mgn_plain.specs.Kept.{leg_of, legs_row}
use Rattle.mgn_plain.specs.Parts.{AreNetDeltas, AreStarts}

-- the first so many months, in file order
pub record AreMonthSumsTo (set : Tables) (deltas : List ℤ) (count : ℕ) (sums : MonthSums) : Type 0 where
  pub one_row_each : length sums.starts ≡ length set.commodities
  pub one_net_each : length sums.nets.items ≡ length set.commodities
  pub sixteen : (g : ℕ) → g < length set.commodities → length (legs_row sums.starts g) ≡ 16
  pub starts : (g leg : ℕ) → g < length set.commodities → leg < 16 → leg_of sums.starts g leg ≡ sum_below (leg_share set.months deltas g leg) count
  pub nets : (g : ℕ) → g < length set.commodities → value_at sums.nets.items g ≡ signed_sum_below (net_share_by set.months deltas g) count

-- all months, by a list of nets
pub record AreMonthSums (set : Tables) (nets : List ℤ) (sums : MonthSums) : Type 0 where
  pub starts : AreStarts set nets sums.starts
  pub net_deltas : AreNetDeltas set nets sums.nets.items
