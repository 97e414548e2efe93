-- What was there stays in front of what is written later: for the parts of a statement's reply.
use Rattle.std.proofs.Common.{◌≡◌, ◌∙◌, ℕ, List, ◌++◌, length, take, drop, sym, ap, arith}
use Rattle.std.proofs.Math.Seq.{take-append_seam}
use Rattle.std.proofs.lemmas.List.{length-append, take-append-drop, take-append-le}

pub kept_before : (old more mid new : List ℕ) → mid ≡ old ++ more → take (length mid) new ≡ mid → take (length old) new ≡ old
kept_before old more mid new e kept =
    let rest = drop (length mid) new in
    let whole : new ≡ (old ++ more) ++ rest = sym (take-append-drop (length mid) new) ∙ ap (λ (l : List ℕ). l ++ rest) (kept ∙ e) in
    ap (λ (l : List ℕ). take (length old) l) whole
    ∙ take-append-le (length old) (old ++ more) rest (omega (arith, length-append old more))
    ∙ take-append_seam old more
