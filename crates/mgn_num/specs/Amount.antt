-- The sizes of exact numbers (own profile).
use Rattle.std.specs.Prelude.{ℕ, ℤ, pos, negsuc, neg_ℤ, suc, ◌-◌, ◌≤◌, ◌^◌, unsigned_abs}

-- cents or ten-thousandths: at most 10^36 in size
abbrev pub IsAmount : ℤ → Type 0
IsAmount z = unsigned_abs z ≤ 10 ^ 36

-- contracts: at most 10^9 in size, so that 32 bits hold them
abbrev pub IsQuantity : ℤ → Type 0
IsQuantity z = unsigned_abs z ≤ 10 ^ 9

-- a number brought nearer to 0 by a size, where it stops
abbrev pub nearer_zero : ℤ → ℕ → ℤ
nearer_zero (pos n) size = pos (n - size)
nearer_zero (negsuc n) size = neg_ℤ (pos (suc n - size))
