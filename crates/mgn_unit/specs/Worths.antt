-- By how much a command can change what is there for a portfolio.
use Rattle.std.specs.Prelude.{◌*◌, ◌≤◌, ◌^◌, ℤ, unsigned_abs}

-- at most 2 * 10^14 cents in size: a lot and the hold that it fills, of 10^6 contracts at 10^8 cents each (own profile)
abbrev pub IsWorthChange : ℤ → Type 0
IsWorthChange cents = unsigned_abs cents ≤ 2 * 10 ^ 14
