-- How much room the texts of replies and statements need.
use Rattle.std.proofs.Common.{ℕ, suc, ℤ, pos, negsuc, ◌≡◌, ◌<◌, ◌≤◌, [], ◌∷◌, length, arith, refl, true, false, true≢false, int_lt, unsigned_abs}
use Rattle.std.specs.Prelude.{◌^◌}
use Rattle.std.specs.Fmt.{decimal, signed_decimal}
use Rattle.std.proofs.lemmas.Bool.Decides.{nat_tests}
use Rattle.std.proofs.lemmas.Fmt.{length-decimal-le, length-decimal-le_wide}
use Rattle.mgn_machine.specs.Statements.{Told}
use Rattle.mgn_wire.specs.StatementText.{statement_text}

pub decimal_short : (n : ℕ) → n < 2 ^ 64 → length (decimal n) ≤ 20
decimal_short n small = length-decimal-le 20 n (omega arith) (omega arith) small

-- at most 37 digits and a sign
pub amount_short : (z : ℤ) → unsigned_abs z ≤ 10 ^ 36 → length (signed_decimal z) ≤ 38
amount_short (pos n) small = omega (arith, length-decimal-le_wide 37 n (omega arith) (omega arith) (omega arith))
amount_short (negsuc n) small = omega (arith, length-decimal-le_wide 37 (suc n) (omega arith) (omega arith) (omega arith))

-- the text of a number with a sign, by its size
pub text_from_0 : (z : ℤ) → int_lt z (pos 0) ≡ false → signed_decimal z ≡ decimal (unsigned_abs z)
text_from_0 (pos n) e = refl
text_from_0 (negsuc n) e = absurd (true≢false e)

pub text_below_0 : (z : ℤ) → int_lt z (pos 0) ≡ true → signed_decimal z ≡ 45 ∷ decimal (unsigned_abs z)
text_below_0 (pos n) e = absurd (grind (arith, nat_tests))
text_below_0 (negsuc n) e = refl

-- a statement has a line
pub statement_filled : (told : Told) → statement_text told ≡ [] → ⊥
unfolding statement_text
statement_filled told none = cc
