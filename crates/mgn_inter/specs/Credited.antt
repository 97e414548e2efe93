-- Credits for a set.
use Rattle.std.specs.Prelude.{ℕ, ◌≡◌, ◌≢◌, ◌<◌, ◌≤◌, ◌*◌, ◌^◌, if◌then◌else◌, Bool, List, length, slice_index}
use Rattle.mgn_params.specs.Tables.{Tables, credit_spread_at}
use Rattle.mgn_span.specs.Credits.{credits_of}
use Rattle.mgn_span.specs.Scan.{value_at}
use Rattle.mgn_inter.specs.Rows.{Credited, IsKept, kept_at, moved_at, rests_at}
use Rattle.mgn_span.specs.Words.{AreNumbers}
use Rattle.mgn_inter.specs.Shares.{shares}

-- as many rows as a set has commodities and intercommodity spreads
pub record AreCreditRows (set : Tables) (c : Credited) : Type 0 where
  pub deltas : length c.deltas ≡ length set.commodities
  pub risks : length c.risks ≡ length set.commodities
  pub rests : length c.rests ≡ length set.commodities
  pub credits : length c.credits ≡ length set.commodities
  pub kept : length c.kept ≡ length set.credits

-- everything is kept for a set: one net delta and one doubled price risk for each of its commodities, and what its
-- intercommodity spreads make of them
pub record AreCreditsOf (set : Tables) (c : Credited) : Type 0 where
  pub one_each : length c.deltas ≡ length set.commodities
  pub numbers : AreNumbers c.deltas c.risks
  pub one_rest_each : length c.rests ≡ length c.deltas
  pub credits : c.credits ≡ credits_of c.deltas c.risks set.credits
  pub one_kept_each : length c.kept ≡ length set.credits
  pub kept : (i : ℕ) → i < length set.credits → IsKept c.deltas c.risks (rests_at c.deltas c.risks set.credits i) (credit_spread_at set.credits i) (kept_at c.kept i)
  pub small : (g : ℕ) → slice_index c.credits g ≤ 256 * 10 ^ 33

-- at the turn of the spread at a place, while the numbers of one commodity change: what is kept of the spreads before it is
-- that of the new numbers, what is kept of the others is that of the old ones, and a rest at the turn is the old one where
-- it has not moved
pub record IsAtTurn (set : Tables) (g : ℕ) (was : Credited) (moved : List Bool) (i : ℕ) (c : Credited) : Type 0 where
  pub fewer : i ≤ length set.credits
  pub one_each : length c.deltas ≡ length set.commodities
  pub one_was_each : length was.deltas ≡ length set.commodities
  pub numbers : AreNumbers c.deltas c.risks
  pub were : AreNumbers was.deltas was.risks
  pub deltas : (k : ℕ) → k ≢ g → value_at c.deltas k ≡ value_at was.deltas k
  pub risks : (k : ℕ) → k ≢ g → slice_index c.risks k ≡ slice_index was.risks k
  pub one_rest_each : length c.rests ≡ length c.deltas
  pub one_mark_each : length set.commodities ≤ length moved
  pub rests : (k : ℕ) → value_at (rests_at c.deltas c.risks set.credits i) k ≡ (if moved_at moved k then value_at c.rests k else value_at (rests_at was.deltas was.risks set.credits i) k)
  pub one_credit_each : length c.credits ≡ length c.deltas
  pub credits : (k : ℕ) → slice_index c.credits k ≡ shares set.credits c.kept k (length set.credits)
  pub one_kept_each : length c.kept ≡ length set.credits
  pub done : (j : ℕ) → j < i → IsKept c.deltas c.risks (rests_at c.deltas c.risks set.credits j) (credit_spread_at set.credits j) (kept_at c.kept j)
  pub left : (j : ℕ) → i ≤ j → j < length set.credits → IsKept was.deltas was.risks (rests_at was.deltas was.risks set.credits j) (credit_spread_at set.credits j) (kept_at c.kept j)
