-- The sets of a book by version (own profile): 0 for the first, then one more with each that is put.
use Rattle.std.specs.Prelude.{ℕ, ◌<◌, ◌≤◌, List, [], length, slice_index, slice_index_or}
use Rattle.mgn_params.specs.Tables.{Tables, no_tables}

abbrev pub IsVersion : ℕ → Type 0
IsVersion number = number ≤ 64

-- the set that a version shows
abbrev pub set_at : List Tables → ℕ → Tables
set_at sets version = slice_index_or sets version (no_tables [])

-- where the set of each version stands among those that are kept
pub record ArePlaces (sets : List Tables) (places : List ℕ) : Type 0 where
  pub first : 0 < length places
  pub few : length places ≤ 65
  pub once : length sets ≤ length places
  pub inside : (version : ℕ) → version < length places → slice_index places version < length sets
