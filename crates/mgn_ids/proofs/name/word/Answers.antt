use Rattle.std.proofs.Common.{rules, ◌≡◌, ◌∙◌, ◌<◌, ◌≤◌, ◌+◌, ◌-◌, ℕ, List, length, take, drop, get_or, arith, ap, subst, sym, length-drop, ⊎_elim}
use Rattle.std.proofs.lemmas.Bool.{cases_lt}
use Rattle.std.proofs.lemmas.List.{get_or-drop, get_or-take, get_or_past, length-take-le}
use Rattle.std.proofs.lemmas.Nat.{le_bytes_8}
use Rattle.std.proofs.Math.Seq.{take-length}
use Rattle.mgn_ids.proofs.name.word.Goals as goal

-- all that stands behind a place
rest_is : (xs : List ℕ) (from : ℕ) → length xs ≡ 16 → take (16 - from) (drop from xs) ≡ drop from xs
rest_is xs from long =
    subst (λ (n : ℕ). take n (drop from xs) ≡ drop from xs) (rw long at (length-drop from xs)) (take-length (drop from xs))

small_part : (xs : List ℕ) (from : ℕ) → length xs ≡ 16 → from ≤ 8 → ((i : ℕ) → get_or xs i 0 < 256) → (i : ℕ) → get_or (take 8 (drop from xs)) i 0 < 256
small_part xs from long low small i =
    let part : List ℕ = take 8 (drop from xs) in
    ⊎_elim
    (λ (inside : i < 8).
    let is : get_or part i 0 ≡ get_or xs (from + i) 0 = get_or-take 8 (drop from xs) i 0 inside ∙ get_or-drop from xs i 0 in
    subst (λ (n : ℕ). n < 256) (sym is) (small (from + i)))
    (λ (past : 8 ≤ i).
    let eight : length part ≡ 8 = length-take-le 8 (drop from xs) (omega (arith, low, long, length-drop from xs)) in
    subst (λ (n : ℕ). n < 256) (sym (get_or_past part i 0 (omega (arith, past, eight)))) (omega arith))
    (cases_lt i 8)

pub returns : goal.returns
returns c =
    let xs : List ℕ = c.args.row.now in
    let from : ℕ = c.args.from in
    let long : length xs ≡ 16 = search rules in
    let bytes_are : c.in-Some.bytes.now ≡ take 8 (drop from xs) = c.in-Some.ensures.cases.same ∙ ap (take 8) (rest_is xs from long) in
    let small : (i : ℕ) → get_or c.in-Some.bytes.now i 0 < 256 =
    subst (λ (bs : List ℕ). (i : ℕ) → get_or bs i 0 < 256) (sym bytes_are) (small_part xs from long c.requires c.fits-row)
    in
    le_bytes_8 c.in-Some.bytes.now c.from_le_bytes.result (search rules) small c.from_le_bytes.ensures ∙ bytes_are
