-- What tokens show of a row of slots.
use Rattle.std.specs.Prelude.{ℕ, ◌≡◌, ◌<◌, ◌≤◌, ◌-◌, List, length, slice_index, slice_index_or}

-- a token is of the slot of a place; places count from 1
pub record IsStamp (slots : List ℕ) (place of : ℕ) : Type 0 where
  pub low : 0 < place
  pub high : place ≤ length slots
  pub here : of ≡ slice_index slots (place - 1)

-- of the slots that are meant there is a token for each place so far, of the slot of its place; there are no more tokens than
-- slots, and there is room for a token of each slot
pub record AreStamps {T : Type 0} (of : T → ℕ) (own slots : List ℕ) (room : ℕ) (tokens : List T) : Type 0 where
  pub meant : own ≡ slots
  pub few : length tokens ≤ length slots
  pub roomy : length slots ≤ room
  pub each : (k : ℕ) (t : T) → k < length tokens → of (slice_index_or tokens k t) ≡ slice_index slots k
