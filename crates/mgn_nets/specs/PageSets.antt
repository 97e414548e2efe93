-- Some of the 256 pages that a list can have, as the bits of four numbers.
use Rattle.std.specs.Prelude.{ℕ, ℤ, ◌≡◌, ◌/◌, ◌%◌, List, slice_index}
use Rattle.std.specs.Int.{bit_at}
use Rattle.mgn_nets.specs.Pages.{ArePages}

-- 1 for a page that is among them
abbrev pub has_page : List ℕ → ℕ → ℕ
has_page words page = bit_at (slice_index words (page / 64)) (page % 64)

-- a page that is not among them is not kept
abbrev pub AreAmong : List ℕ → List ℕ → Type 0
AreAmong words starts = (page : ℕ) → has_page words page ≡ 0 → slice_index starts page ≡ 0

-- the pages of so many quantities, and which of them are kept
pub record AreKept (words : List ℕ) (count : ℕ) (starts : List ℕ) (cells : List ℤ) (capacity : ℕ) : Type 0 where
  pub pages : ArePages count starts cells capacity
  pub among : AreAmong words starts
