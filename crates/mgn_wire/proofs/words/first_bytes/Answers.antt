use Rattle.std.proofs.Common.{◌≡◌, ◌∙◌, ◌+◌, ◌-◌, ◌<◌, ◌≤◌, ◌++◌, ℕ, List, drop, get_or, length, min, replicate, take, ap, arith, ⊎_elim, sym}
use Rattle.std.proofs.lemmas.Bool.{cases_lt}
use Rattle.std.proofs.lemmas.List.{get_or-append_right, get_or-drop, get_or-replicate, get_or-take, get_or_append_left, get_or_past, length-take-le}
use Rattle.mgn_wire.proofs.words.first_bytes.Goals as goal

-- a text in the front of a row of zeros
padded : (text front : List ℕ) (size k : ℕ) → front ≡ take size text → size ≡ min (length text) 64 → k < 64 → get_or (front ++ drop size (replicate 64 0)) k 0 ≡ get_or text k 0
padded text front size k is small inside =
    ⊎_elim
    (λ (low : k < size).
    get_or_append_left front (drop size (replicate 64 0)) 0 k (omega (arith, low, long))
    ∙ ap (λ (xs : List ℕ). get_or xs k 0) is
    ∙ get_or-take size text k 0 low)
    (λ (past : size ≤ k).
    let there : size + (k - size) ≡ k = omega (arith, past) in
    get_or-append_right front (drop size (replicate 64 0)) size k 0 long past
    ∙ get_or-drop size (replicate 64 0) (k - size) 0
    ∙ ap (λ (n : ℕ). get_or (replicate 64 0) n 0) there
    ∙ get_or-replicate 64 k 0 0 inside
    ∙ sym (get_or_past text k 0 (omega (arith, past, small, inside))))
    (cases_lt k size)
  where
    long : length front ≡ size
    long = ap length is ∙ length-take-le size text (omega (arith, small))

pub returns : goal.returns
returns c k inside =
    padded c.args.text.now c.copy_from_slice.new.self c.min-size.result k c.copy_from_slice.ensures.after c.min-size.ensures inside
