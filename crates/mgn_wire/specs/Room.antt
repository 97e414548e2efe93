-- The room that a text needs, for the inside of this crate alone.
use Rattle.std.specs.Prelude.{ℕ, ◌+◌, ◌≤◌, length, Result, IsOk, OnOk, vec_capacity}
use Rattle.std.specs.Vec.{vec_items}
use Rattle.std.specs.Global.{Vec}

-- A text of at most so many bytes was to be appended: that fails only where the buffer has no room for so many.
pub record FitsIn {T E : Type 0} (most : ℕ) (old new : Vec ℕ) (result : Result T E) : Type 0 where
  pub room : length (vec_items old) + most ≤ vec_capacity old → IsOk result
  pub longer : OnOk result (length (vec_items new) ≤ length (vec_items old) + most)
  pub capacity : vec_capacity old ≤ vec_capacity new
