-- Numbers of lots and orders by their bytes, the lowest first (own format).
use Rattle.std.specs.Prelude.{ℕ, ◌+◌, ◌*◌, ◌<◌}
use Rattle.mgn_ids.specs.Number.{IsIdNumber}

-- the number of a lot or an order in five bytes
abbrev pub short_id : ℕ → ℕ → ℕ → ℕ → ℕ → ℕ
short_id first second third fourth fifth = first + 256 * (second + 256 * (third + 256 * (fourth + 256 * fifth)))

pub record IsShortId (first second third fourth fifth : ℕ) : Type 0 where
  pub first_small : first < 256
  pub second_small : second < 256
  pub third_small : third < 256
  pub fourth_small : fourth < 256
  pub is_id : IsIdNumber (short_id first second third fourth fifth)
