-- The first byte that a search finds stands at its position: for `find_end`.
use Rattle.std.proofs.Common.{◌≡◌, ℕ, ◌<◌, Bool, true, false, List, length, get_or, Option, Some, None, refl, arith, le-ltb, lt-ltb}
use Rattle.std.specs.Prelude.{◌==◌, position}
use Rattle.std.specs.List.{position_or_len}
use Rattle.std.proofs.lemmas.List.Sums.{position_or_len_is}
use Rattle.memchr.specs.Find.{IsFirstByte, is_byte}

not_true : (b : Bool) → ¬ (b ≡ true) → b ≡ false
not_true true not = absurd (not refl)
not_true false not = refl

pub first_is_position : (a : ℕ) (text : List ℕ) (r : Option ℕ) → IsFirstByte (is_byte a) text r → r ≡ position (λ b. b == a) text
first_is_position a text None first =
    let at : position_or_len (λ b. b == a) text ≡ length text =
    position_or_len_is (λ b. b == a) text (length text) 0 (omega arith) (λ k low. not_true (get_or text k 0 == a) (first k (omega arith) low)) (λ low. absurd (omega (arith, low)))
    in
    rw (at, le-ltb (length text) (length text) (omega arith)) refl
first_is_position a text (Some i) first =
    let low : i < length text = first.0.high in
    let at : position_or_len (λ b. b == a) text ≡ i =
    position_or_len_is (λ b. b == a) text i 0 (omega (arith, low)) (λ k before. not_true (get_or text k 0 == a) (first.0.before k (omega arith) before)) (λ inside. first.1)
    in
    rw (at, lt-ltb i (length text) low) refl
