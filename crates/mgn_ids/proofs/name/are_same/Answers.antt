use Rattle.std.proofs.Common.{rules, ◌≡◌, ◌++◌, ◌<◌, ◌^◌, ℕ, List, length, take, drop, nat_eq, arith, ap, refl, subst, sym, ◌∙◌, length-drop}
use Rattle.std.specs.Int.{from_le_bytes, to_le_bytes, w64}
use Rattle.std.specs.Str.{bytes_eq}
use Rattle.std.proofs.lemmas.Bool.Decides.{Decides-eqb, Decides-like, same_from_decides}
use Rattle.std.proofs.lemmas.List.{take-append-drop}
use Rattle.std.proofs.lemmas.Nat.{from_le_bytes-to_le_bytes_8}
use Rattle.std.proofs.lemmas.Slice.Eq.{bytes_eq-Decides}
use Rattle.std.proofs.Math.Seq.{take-length}
use Rattle.mgn_ids.proofs.name.are_same.Goals as goal

-- the second half of sixteen bytes is all that is left behind the first
rest_is : (xs : List ℕ) → length xs ≡ 16 → take 8 (drop 8 xs) ≡ drop 8 xs
rest_is xs long =
    let eight : length (drop 8 xs) ≡ 8 = omega (arith, long, length-drop 8 xs) in
    subst (λ (n : ℕ). take n (drop 8 xs) ≡ drop 8 xs) eight (take-length (drop 8 xs))

halves : (xs ys : List ℕ) → length xs ≡ 16 → length ys ≡ 16 → take 8 xs ≡ take 8 ys → take 8 (drop 8 xs) ≡ take 8 (drop 8 ys) → xs ≡ ys
halves xs ys long other first second =
    let rest : drop 8 xs ≡ drop 8 ys = sym (rest_is xs long) ∙ second ∙ rest_is ys other in
    let whole : take 8 xs ++ drop 8 xs ≡ take 8 ys ++ drop 8 ys = rw (first, rest) refl in
    sym (take-append-drop 8 xs) ∙ whole ∙ take-append-drop 8 ys

-- words of eight bytes are equal as these are
word_tells : (m n : ℕ) → m < 2 ^ 64 → n < 2 ^ 64 → to_le_bytes w64 m ≡ to_le_bytes w64 n → m ≡ n
word_tells m n small few same =
    sym (from_le_bytes-to_le_bytes_8 m small) ∙ ap (from_le_bytes w64) same ∙ from_le_bytes-to_le_bytes_8 n few

pub returns-then-word : goal.returns-then-word
returns-then-word c =
    let xs : List ℕ = c.args.row.now in
    let ys : List ℕ = c.args.other.now in
    let a : ℕ = c.word-then-word.result in
    let b : ℕ = c.word-then-word-2.result in
    let first : take 8 xs ≡ take 8 ys = sym c.word.ensures ∙ ap (to_le_bytes w64) c.if-word.true ∙ c.word-2.ensures in
    let whole : a ≡ b → xs ≡ ys =
    λ e. halves xs ys (search rules) (search rules) first (sym c.word-then-word.ensures ∙ ap (to_le_bytes w64) e ∙ c.word-then-word-2.ensures)
    in
    let parts : xs ≡ ys → a ≡ b =
    λ e. word_tells a b (search rules) (search rules) (c.word-then-word.ensures ∙ ap (λ (zs : List ℕ). take 8 (drop 8 zs)) e ∙ sym c.word-then-word-2.ensures)
    in
    same_from_decides (nat_eq a b) (bytes_eq xs ys) (Decides-like (nat_eq a b) whole parts (Decides-eqb a b)) (bytes_eq-Decides xs ys)
