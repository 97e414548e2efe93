-- Rows of which lists of one part each are seen: for `TierStages`, and for portfolios.
use Rattle.std.proofs.Common.{◌≡◌, ◌<◌, ◌∙◌, ℕ, zero, suc, List, ◌∷◌, get_or, length, map, replicate, ap, refl, sym}
use Rattle.std.proofs.lemmas.List.{get_or-map}

-- a part of the row at a place
pub part_at : {A B : Type 0} (f : A → B) (rows : List A) (g : ℕ) (row : A) (d : B) → g < length rows → row ≡ get_or rows g row → f row ≡ get_or (map f rows) g d
part_at f rows g row d low is = ap f is ∙ sym (get_or-map f rows g row d low)

-- parts of rows that are all alike
pub part-replicate : {A B : Type 0} (f : A → B) (n : ℕ) (row : A) → map f (replicate n row) ≡ replicate n (f row)
part-replicate f zero row = refl
part-replicate f (suc n) row = ap (λ parts. f row ∷ parts) (part-replicate f n row)
