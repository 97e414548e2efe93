-- How long the text of a number is, so that Cents and TenThousandths ask for enough room.
use Rattle.std.proofs.Common.{suc, ◌≤◌, length, arith}
use Rattle.std.specs.Prelude.{ℤ, pos, negsuc, ◌^◌, unsigned_abs}
use Rattle.std.specs.Fmt.{signed_decimal}
use Rattle.std.proofs.lemmas.Fmt.{length-decimal-le_wide}

-- at most 37 digits and a sign
pub signed_decimal_short : (z : ℤ) → unsigned_abs z ≤ 10 ^ 36 → length (signed_decimal z) ≤ 38
signed_decimal_short (pos n) small = omega (arith, length-decimal-le_wide 37 n (omega arith) (omega arith) (omega arith))
signed_decimal_short (negsuc n) small = omega (arith, length-decimal-le_wide 37 (suc n) (omega arith) (omega arith) (omega arith))
