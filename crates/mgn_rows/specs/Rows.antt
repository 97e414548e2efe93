-- Lists of rows of which those are kept that were written to. A row that is not kept reads as the first one kept.
use Rattle.std.specs.Prelude.{ℕ, zero, suc, ◌≡◌, ◌<◌, ◌≤◌, ◌+◌, List, [], ◌∷◌, length, map, slice_index, slice_index_or}
use Rattle.std.specs.List.{sum_by}

-- the rows, by where each stands among those kept
abbrev pub listed : {T : Type 0} → List ℕ → List T → List T
listed places [] = []
listed places (value ∷ kept) = map (λ place. slice_index_or (value ∷ kept) place value) places

-- 1 for a row that is not kept
abbrev pub one_unkept : ℕ → ℕ
one_unkept zero = 1
one_unkept (suc place) = 0

-- the places of rows among so many kept ones, with room for those that are not kept yet
pub record ArePlaces (places : List ℕ) (kept capacity : ℕ) : Type 0 where
  pub few : length places ≤ 4096
  pub fill : kept + sum_by one_unkept places ≡ length places + 1
  pub room : length places + 1 ≤ capacity
  pub inside : (i : ℕ) → slice_index places i < kept
  pub apart : (i j : ℕ) → 0 < slice_index places i → slice_index places i ≡ slice_index places j → i ≡ j
