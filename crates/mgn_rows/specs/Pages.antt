-- Lists of values in pages of 16 neighbours, of which those are kept that were written to. A page that is not kept reads as
-- the first one kept, which is one value throughout.
use Rattle.std.specs.Prelude.{ℕ, ◌≡◌, ◌<◌, ◌+◌, ◌*◌, ◌/◌, ◌%◌, List, [], ◌∷◌, length, map, slice_index, slice_index_or}
use Rattle.std.specs.List.{range_with_len}
use Rattle.std.specs.Int.{div_ceil}
use Rattle.mgn_rows.specs.Rows.{ArePlaces}

-- where a value stands: in which page of those kept, and how far behind its start
abbrev pub place_of : List ℕ → ℕ → ℕ
place_of places i = slice_index places (i / 16) * 16 + i % 16

-- so many values, by which of the pages kept each page is
abbrev pub paged : {T : Type 0} → ℕ → List ℕ → List T → List T
paged count places [] = []
paged count places (value ∷ cells) = map (λ i. slice_index_or (value ∷ cells) (place_of places i) value) (range_with_len 0 count)

-- the pages of so many values, with room for those that are not kept yet
pub record ArePages {T : Type 0} (count : ℕ) (places : List ℕ) (cells : List T) (capacity : ℕ) : Type 0 where
  pub pages : length places ≡ div_ceil count 16
  pub whole : length cells / 16 * 16 ≡ length cells
  pub kept : ArePlaces places (length cells / 16) (capacity / 16)
  pub flat : (i : ℕ) (d : T) → i < 16 → slice_index_or cells i d ≡ slice_index_or cells 0 d
