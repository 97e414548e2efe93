-- Bits of words and the pages that they stand for.
use Rattle.std.proofs.Common.{◌≡◌, ◌∙◌, ◌+◌, ◌*◌, ◌/◌, ◌%◌, ◌^◌, ◌<◌, ◌≤◌, ℕ, List, ap, arith, get_or, refl, sym, ⊎_elim}
use Rattle.std.specs.Int.{bit_at}
use Rattle.std.specs.Int.Bits.{bit_or}
use Rattle.std.proofs.Math.Nat.{div-div-eq-div-mul, mod-lt}
use Rattle.std.proofs.lemmas.Bool.{cases_lt}
use Rattle.std.proofs.lemmas.Nat.{div-add-mod', div-mul-add, mod-mul-add, pow-add}
use Rattle.std.proofs.lemmas.Nat.Bits.{bit_at_above, bit_at_or}
use Rattle.mgn_nets.specs.PageSets.{has_page}

-- a bit of a shifted number
pub shifted : (n f j : ℕ) → bit_at (n / 2 ^ f) j ≡ bit_at n (f + j)
shifted n f j = rw (div-div-eq-div-mul n (2 ^ f) (2 ^ j), ← pow-add 2 f j) refl

-- the pages behind one in its word
pub word-of : (page i : ℕ) → page % 64 + i < 64 → (page + i) / 64 ≡ page / 64
word-of page i small = ap (λ (n : ℕ). n / 64) (omega (arith, div-add-mod' page 64)) ∙ div-mul-add (page / 64) 64 (page % 64 + i) small

pub bit-of : (page i : ℕ) → page % 64 + i < 64 → (page + i) % 64 ≡ page % 64 + i
bit-of page i small = ap (λ (n : ℕ). n % 64) (omega (arith, div-add-mod' page 64)) ∙ mod-mul-add (page / 64) 64 (page % 64 + i) small

pub bit-behind : (words : List ℕ) (page i : ℕ) → page % 64 + i < 64 → has_page words (page + i) ≡ bit_at (get_or words (page / 64) 0 / 2 ^ (page % 64)) i
bit-behind words page i small =
    (λ j. bit_at (get_or words (word-of page i small j) 0) (bit-of page i small j)) ∙ sym (shifted (get_or words (page / 64) 0) (page % 64) i)

-- a bit of a number of 64
pub bit-inside : (n f t : ℕ) → n < 2 ^ 64 → bit_at (n / 2 ^ f) t ≡ 1 → f + t < 64
bit-inside n f t fits is =
    ⊎_elim
    (λ (inside : f + t < 64). inside)
    (λ (past : 64 ≤ f + t). absurd (omega (arith, is, shifted n f t, bit_at_above n 64 (f + t) fits past)))
    (cases_lt (f + t) 64)

-- two pages with one word and one bit are one
pub one-page : (page other : ℕ) → page / 64 ≡ other / 64 → page % 64 ≡ other % 64 → page ≡ other
one-page page other word bit = sym (div-add-mod' page 64) ∙ (λ i. word i * 64 + bit i) ∙ div-add-mod' other 64

pub bit-small : (page : ℕ) → page % 64 < 64
bit-small page = mod-lt page (omega arith)

-- a page that is in neither of two words
pub neither : (a b i : ℕ) → bit_at (bit_or a b) i ≡ 0 → (bit_at a i ≡ 0) × (bit_at b i ≡ 0)
neither a b i none = (omega (arith, none, bit_at_or a b i), omega (arith, none, bit_at_or a b i))
