-- How large what a quantity counts for is: that the products of a total fit.
use Rattle.std.proofs.Common.{◌≤◌, ◌^◌, ◌*◌, ℤ, unsigned_abs, arith}
use Rattle.std.specs.Prelude.{◌*ℤ◌}
use Rattle.mgn_num.proofs.SignedLemmas.{size-*ℤ-le}

pub product_small : (q a : ℤ) → unsigned_abs q ≤ 2 * 10 ^ 7 → unsigned_abs a ≤ 10 ^ 8 → unsigned_abs (q *ℤ a) ≤ 2 * 10 ^ 15
product_small q a h k = omega (arith, size-*ℤ-le q a (2 * 10 ^ 7) (10 ^ 8) h k)
