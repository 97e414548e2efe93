-- The sizes of totals, deltas and price risks, and of what legs start with (own profile).
use Rattle.std.specs.Prelude.{ℕ, ◌≤◌, ◌*◌, ◌^◌, ℤ, unsigned_abs}

-- the total of a scenario: 256 contracts at 10^7 each, with arrays of at most 10^8
abbrev pub IsTotal : ℤ → Type 0
IsTotal total = unsigned_abs total ≤ 256 * 10 ^ 15

-- the delta of a month or of a commodity: 256 contracts at 10^7 and 10^5 ten-thousandths each
abbrev pub IsDelta : ℤ → Type 0
IsDelta d = unsigned_abs d ≤ 256 * 10 ^ 12

-- what a leg starts with: at most the 64 months of a commodity, each at its limit, so that 64 bits hold it
abbrev pub IsStart : ℕ → Type 0
IsStart n = n ≤ 2 * 10 ^ 16

-- twice the price risk of a commodity: four totals of 256 contracts at 10^7 and 10^8 cents each, and some room
abbrev pub IsRisk : ℕ → Type 0
IsRisk x = x ≤ 11 * 10 ^ 17
