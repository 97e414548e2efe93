-- What tokens show of a table of sets.
use Rattle.std.specs.Prelude.{ℕ, ◌<◌, ◌≤◌, List, length, slice_index_or}
use Rattle.boxcar.specs.Table.{Shelves, Where, Shows}
use Rattle.mgn_params.specs.Tables.{Tables}

-- each token is of the table, and there is one for the first set and for each of at most 64 more
pub record AreTokens (table : Shelves) (tokens : List (Where Tables)) : Type 0 where
  pub first : 0 < length tokens
  pub few : length tokens ≤ 65
  pub shown : (k : ℕ) (d : Where Tables) → k < length tokens → Shows table (slice_index_or tokens k d)
