-- The spaces of a line by the bits of numbers: where the next word ends, and which are left then.
use Rattle.std.proofs.Common.{◌≡◌, ◌≢◌, ◌∙◌, ℕ, ◌+◌, ◌-◌, ◌*◌, ◌^◌, ◌%◌, ◌<◌, ◌≤◌, List, length, get_or, false, ap, arith, bit_and, sym, ⊎_elim, w64}
use Rattle.std.specs.Int.{bit_at, bit_not, trailing_zeros}
use Rattle.std.specs.Prelude.{◌==◌}
use Rattle.std.proofs.lemmas.Bool.{cases_eq, cases_lt}
use Rattle.std.proofs.lemmas.List.{get_or_past}
use Rattle.std.proofs.lemmas.Nat.Bits.{bit_at-trailing_zeros, bit_at-zero, bit_at_clear_other, bit_at_clear_same}

-- no byte of a line from one place on and before another is a space
abbrev pub AreClear : List ℕ → ℕ → ℕ → Type 0
AreClear line from to = (k : ℕ) → from ≤ k → k < to → (get_or line k 0 == 32) ≡ false

-- the bits are spaces of a line, each behind the start of a word
abbrev pub AreSpaces : List ℕ → ℕ → ℕ → ℕ → Type 0
AreSpaces line at start spaces = (j : ℕ) → j < 64 → bit_at spaces j ≡ 1 → (start ≤ at + j) × (get_or line (at + j) 0 ≡ 32)

-- of 64 bytes from a place on, those behind the start of a word without a bit are none
abbrev pub AreOthers : List ℕ → ℕ → ℕ → ℕ → Type 0
AreOthers line at start spaces = (j : ℕ) → j < 64 → start ≤ at + j → bit_at spaces j ≡ 0 → (get_or line (at + j) 0 == 32) ≡ false

-- the lowest bit
abbrev pub lowest : ℕ → ℕ
lowest spaces = trailing_zeros w64 spaces

-- the other bits
abbrev pub rest_of : ℕ → ℕ → ℕ
rest_of spaces p = bit_and spaces (bit_not w64 (1 * 2 ^ p % 2 ^ 64))

pub lowest_is : (spaces : ℕ) → spaces ≢ 0 → spaces < 2 ^ 64 → (lowest spaces < 64) × (bit_at spaces (lowest spaces) ≡ 1) × ((j : ℕ) → j < lowest spaces → bit_at spaces j ≡ 0)
lowest_is spaces some fits = bit_at-trailing_zeros w64 spaces (omega (arith, some)) fits

-- a space stands in the line
pub in_line : (line : List ℕ) (i : ℕ) → get_or line i 0 ≡ 32 → i < length line
in_line line i here =
    ⊎_elim
    (λ (inside : i < length line). inside)
    (λ (past : length line ≤ i). absurd (omega (arith, here, get_or_past line i 0 past)))
    (cases_lt i (length line))

-- no space stands before the lowest bit
pub clear_before : (line : List ℕ) (at start spaces p : ℕ) → AreClear line start at → AreOthers line at start spaces → p < 64 → ((j : ℕ) → j < p → bit_at spaces j ≡ 0) → AreClear line start (at + p)
clear_before line at start spaces p clear others small none k from below =
    ⊎_elim
    (λ (before : k < at). clear k from before)
    (λ (after : at ≤ k).
    let there : k ≡ at + (k - at) = omega (arith, after) in
    ap (λ n. get_or line n 0 == 32) there ∙ others (k - at) (omega (arith, below, small, after)) (omega (arith, from, there)) (none (k - at) (omega (arith, below, after))))
    (cases_lt k at)

-- what is left is behind the lowest bit
pub spaces_left : (line : List ℕ) (at start spaces p : ℕ) → AreSpaces line at start spaces → p < 64 → ((j : ℕ) → j < p → bit_at spaces j ≡ 0) → AreSpaces line at (at + p + 1) (rest_of spaces p)
spaces_left line at start spaces p are small none j inside set' =
    ⊎_elim
    (λ (same : j ≡ p). absurd (omega (arith, set', ap (bit_at (rest_of spaces p)) same, bit_at_clear_same w64 spaces p small)))
    (λ (other : j ≢ p).
    let was : bit_at spaces j ≡ 1 = sym (bit_at_clear_other w64 spaces p small j inside other) ∙ set' in
    ⊎_elim
    (λ (low : j < p). absurd (omega (arith, was, none j low)))
    (λ (high : p ≤ j). (omega (arith, high, other), (are j inside was).1))
    (cases_lt j p))
    (cases_eq j p)

pub others_left : (line : List ℕ) (at start spaces p : ℕ) → AreOthers line at start spaces → p < 64 → start ≤ at + p → AreOthers line at (at + p + 1) (rest_of spaces p)
others_left line at start spaces p are small begun j inside behind unset =
    are j inside (omega (arith, behind, begun)) (sym (bit_at_clear_other w64 spaces p small j inside (λ (same : j ≡ p). absurd (omega (arith, behind, same)))) ∙ unset)

-- a block without a space that is left
pub clear_to : (line : List ℕ) (at start spaces : ℕ) → AreClear line start at → AreOthers line at start spaces → spaces ≡ 0 → AreClear line start (at + 64)
clear_to line at start spaces clear others none k from below =
    ⊎_elim
    (λ (before : k < at). clear k from before)
    (λ (after : at ≤ k).
    let there : k ≡ at + (k - at) = omega (arith, after) in
    ap (λ n. get_or line n 0 == 32) there ∙ others (k - at) (omega (arith, below, after)) (omega (arith, from, there)) (ap (λ n. bit_at n (k - at)) none ∙ bit_at-zero (k - at)))
    (cases_lt k at)
