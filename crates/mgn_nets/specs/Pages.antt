-- Lists of quantities in pages of 16 neighbours. A page that was never written to is not kept: it reads as the first one
-- kept, which is all 0.
use Rattle.std.specs.Prelude.{ℕ, zero, suc, ◌≡◌, ◌<◌, ◌≤◌, ◌+◌, ◌*◌, ◌/◌, ◌%◌, ℤ, pos, List, length, map, slice_index}
use Rattle.std.specs.List.{range_with_len, sum_by}
use Rattle.std.specs.Int.{div_ceil}
use Rattle.mgn_span.specs.Scan.{value_at}

-- the quantity of a contract: where the page of 16 begins in which it stands, and how far behind
abbrev pub cell : List ℕ → List ℤ → ℕ → ℤ
cell starts cells contract = value_at cells (slice_index starts (contract / 16) + contract % 16)

-- the quantities of so many contracts
abbrev pub listed : ℕ → List ℕ → List ℤ → List ℤ
listed count starts cells = map (cell starts cells) (range_with_len 0 count)

-- 1 for a page that is not kept
abbrev pub one_closed : ℕ → ℕ
one_closed zero = 1
one_closed (suc start) = 0

-- the pages of so many quantities, with room for those that are not kept yet
pub record ArePages (count : ℕ) (starts : List ℕ) (cells : List ℤ) (capacity : ℕ) : Type 0 where
  pub pages : length starts ≡ div_ceil count 16
  pub few : length starts ≤ 256
  pub fill : length cells + 16 * sum_by one_closed starts ≡ 16 * length starts + 16
  pub room : 16 * length starts + 16 ≤ capacity
  pub inside : (page : ℕ) → slice_index starts page + 16 ≤ length cells
  pub past : (page : ℕ) → 0 < slice_index starts page → 16 ≤ slice_index starts page
  pub apart : (page other i j : ℕ) → 0 < slice_index starts page → i < 16 → j < 16
      → slice_index starts page + i ≡ slice_index starts other + j → page ≡ other
  pub owned : (i : ℕ) → 16 ≤ i → i < length cells → (page : ℕ) × (slice_index starts page ≤ i) × (i < slice_index starts page + 16)
  pub zero : (i : ℕ) → i < 16 → value_at cells i ≡ pos 0
  pub beyond : (contract : ℕ) → count ≤ contract → cell starts cells contract ≡ pos 0
