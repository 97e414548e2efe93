-- The risks of commodities with their sum, and how large they can be (own profile).
use Rattle.std.specs.Prelude.{◌≡◌, ◌*◌, ◌≤◌, ◌^◌, ℤ, unsigned_abs, List, length, All}
use Rattle.mgn_num.specs.Signed.{signed_sum_below}
use Rattle.mgn_span.specs.Scan.{value_at}

-- a commodity's risk in cents: what its spreads and its spot month can charge at most, and its scan risk
abbrev pub IsRisk : ℤ → Type 0
IsRisk cents = unsigned_abs cents ≤ 3 * 10 ^ 27

-- the risks of at most 256 commodities, and their sum
pub record AreSummed (risks : List ℤ) (sum : ℤ) : Type 0 where
  pub few : length risks ≤ 256
  pub small : All IsRisk risks
  pub is : sum ≡ signed_sum_below (value_at risks) (length risks)
