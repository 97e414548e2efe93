-- Names that are all different: none stands before its place, for the maps of copied sets.
use Rattle.std.proofs.Common.{◌≡◌, ℕ, zero, suc, ◌<◌, false, List, [], ◌∷◌, length, map, take, get_or, refl, ◌∙◌, arith}
use Rattle.std.specs.List.{AllByRecursion, IsDistinct, list_any}
use Rattle.std.specs.Str.{bytes_eq}
use Rattle.std.proofs.lemmas.Cmp.{nat_list_eq_equiv}

other_at : {X : Type 0} (f : X → List ℕ) → (name : List ℕ) (xs : List X) (i : ℕ) (d : X) → i < length xs → AllByRecursion (λ n. bytes_eq name n ≡ false) (map f xs) → bytes_eq name (f (get_or xs i d)) ≡ false
other_at f name [] i d h all = absurd (omega arith)
other_at f name (x ∷ xs) zero d h all = all.0
other_at f name (x ∷ xs) (suc i) d h all = other_at f name xs i d (omega arith) all.1

pub new_at : {X : Type 0} (f : X → List ℕ) → (xs : List X) (i : ℕ) (d : X) → i < length xs → IsDistinct bytes_eq (map f xs) → list_any (bytes_eq (f (get_or xs i d))) (map f (take i xs)) ≡ false
unfolding IsDistinct
new_at f [] i d h apart = absurd (omega arith)
new_at f (x ∷ xs) zero d h apart = refl
new_at f (x ∷ xs) (suc i) d h apart =
    let other = nat_list_eq_equiv.symm (f (get_or xs i d)) (f x) ∙ other_at f (f x) xs i d (omega arith) apart.0 in
    let later = new_at f xs i d (omega arith) apart.1 in
    rw (other, later) refl
