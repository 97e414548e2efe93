-- Units that a session takes and gives back: for Begin and commits, and that a unit has one holder.
use Rattle.std.proofs.Common.{◌≡◌, ◌≢◌, ◌<◌, ◌≤◌, ◌-◌, ◌∙◌, ◌⊎◌, inl, inr, ⊎_elim, ℕ, zero, suc, Bool, true, false, Option, None, Some, List, [], ◌∷◌, ◌++◌, length, map, get_or, set, replicate, ap, refl, arith}
use Rattle.std.specs.Prelude.{◌&&◌, if◌then◌else◌}
use Rattle.std.proofs.lemmas.Bool.{cases_eq, eq-eqb, ne_eqb}
use Rattle.std.proofs.lemmas.List.{get_or-set_same, get_or-set_other, length-append, length-replicate, length-set}
use Rattle.mgn_world.specs.Claims.{IsAmong}
use Rattle.mgn_world.specs.World.{are_free, freed, is_free, lengthened, taken}
use Rattle.mgn_world.proofs.Frames.{some_same}

-- it is there or not
pub among_or : (u : ℕ) (us : List ℕ) → IsAmong u us ⊎ (IsAmong u us → ⊥)
among_or u [] = inr (λ (e : ⊥). e)
among_or u (v ∷ us) = ⊎_elim (λ (e : u ≡ v). inl (inl e))
    (λ (n : u ≢ v). ⊎_elim (λ (h : IsAmong u us). inl (inr h)) (λ (m : IsAmong u us → ⊥). inr (λ (h : IsAmong u (v ∷ us)). ⊎_elim (λ (e : u ≡ v). n e) (λ (x : IsAmong u us). m x) h)) (among_or u us))
    (cases_eq u v)

-- what is held stands in the list
pub lock_inside : (locks : List (Option ℕ)) (u p : ℕ) → get_or locks u None ≡ Some p → u < length locks
lock_inside [] u p e = cc
lock_inside (o ∷ locks) zero p e = omega arith
lock_inside (o ∷ locks) (suc u) p e = let less = lock_inside locks u p e in omega (arith, less)

-- Longer lists.

pub none_past : {X : Type 0} (n i : ℕ) (z : X) → get_or (replicate n z) i z ≡ z
none_past zero i z = refl
none_past (suc n) zero z = refl
none_past (suc n) (suc i) z = none_past n i z

at_end : {X : Type 0} (xs : List (Option X)) (n i : ℕ) → get_or (xs ++ replicate n None) i None ≡ get_or xs i None
at_end [] n i = none_past n i None
at_end (x ∷ xs) n zero = refl
at_end (x ∷ xs) n (suc i) = at_end xs n i

pub lengthened_at : {X : Type 0} (units : ℕ) (xs : List (Option X)) (i : ℕ) → get_or (lengthened units xs) i None ≡ get_or xs i None
lengthened_at units xs i = at_end xs (units - length xs) i

pub lengthened_long : {X : Type 0} (units : ℕ) (xs : List (Option X)) → length xs ≤ units → length (lengthened units xs) ≡ units
lengthened_long {X = X} units xs few = omega (arith, few, length-append xs (replicate (units - length xs) None), length-replicate {A = Option X} (units - length xs) None)

-- Units taken.

pub taken_long : (p : ℕ) (us : List ℕ) (locks : List (Option ℕ)) → length (taken p us locks) ≡ length locks
taken_long p [] locks = refl
taken_long p (u ∷ us) locks = taken_long p us (set locks u (Some p)) ∙ length-set locks u (Some p)

pub taken_other : (p : ℕ) (us : List ℕ) (locks : List (Option ℕ)) (x : ℕ) → (IsAmong x us → ⊥) → get_or (taken p us locks) x None ≡ get_or locks x None
taken_other p [] locks x n = refl
taken_other p (u ∷ us) locks x n = taken_other p us (set locks u (Some p)) x (λ h. n (inr h)) ∙ get_or-set_other locks u x (Some p) None (λ e. n (inl e))

set_stays : (locks : List (Option ℕ)) (u p x : ℕ) → u < length locks → get_or locks x None ≡ Some p → get_or (set locks u (Some p)) x None ≡ Some p
set_stays locks u p x inside e = ⊎_elim
    (λ (same : x ≡ u). ap (λ (i : ℕ). get_or (set locks u (Some p)) i None) same ∙ get_or-set_same locks u (Some p) None inside)
    (λ (other : x ≢ u). get_or-set_other locks u x (Some p) None other ∙ e)
    (cases_eq x u)

taken_stays : (p : ℕ) (us : List ℕ) (locks : List (Option ℕ)) (x : ℕ) → ((u : ℕ) → IsAmong u us → u < length locks) → get_or locks x None ≡ Some p → get_or (taken p us locks) x None ≡ Some p
taken_stays p [] locks x inside e = e
taken_stays p (u ∷ us) locks x inside e =
    taken_stays p us (set locks u (Some p)) x (λ v h. let less = inside v (inr h) in omega (arith, less, length-set locks u (Some p))) (set_stays locks u p x (inside u (inl refl)) e)

pub taken_mine : (p : ℕ) (us : List ℕ) (locks : List (Option ℕ)) (x : ℕ) → ((u : ℕ) → IsAmong u us → u < length locks) → IsAmong x us → get_or (taken p us locks) x None ≡ Some p
taken_mine p [] locks x inside h = absurd h
taken_mine p (u ∷ us) locks x inside h =
    let more : (v : ℕ) → IsAmong v us → v < length (set locks u (Some p)) = λ (v : ℕ) (r : IsAmong v us). let less = inside v (inr r) in omega (arith, less, length-set locks u (Some p)) in
    ⊎_elim
    (λ (e : x ≡ u). taken_stays p us (set locks u (Some p)) x more (ap (λ (i : ℕ). get_or (set locks u (Some p)) i None) e ∙ get_or-set_same locks u (Some p) None (inside u (inl refl))))
    (λ (r : IsAmong x us). taken_mine p us (set locks u (Some p)) x more r) h

none_free : (o : Option ℕ) → is_free o ≡ true → o ≡ None
none_free None e = refl
none_free (Some q) e = cc

pub both_true : (a b : Bool) → a && b ≡ true → (a ≡ true) × (b ≡ true)
both_true true b e = (refl, e)
both_true false b e = cc

pub free_at : (locks : List (Option ℕ)) (us : List ℕ) (x : ℕ) → are_free locks us ≡ true → IsAmong x us → get_or locks x None ≡ None
free_at locks [] x e h = absurd h
free_at locks (u ∷ us) x e h =
    let both = both_true (is_free (get_or locks u None)) (are_free locks us) e in
    ⊎_elim (λ (same : x ≡ u). ap (λ (i : ℕ). get_or locks i None) same ∙ none_free (get_or locks u None) both.0) (λ (r : IsAmong x us). free_at locks us x both.1 r) h

-- Units given back.

pub freed_at : (p : ℕ) (locks : List (Option ℕ)) (u : ℕ) → get_or (map (freed p) locks) u None ≡ freed p (get_or locks u None)
freed_at p [] u = refl
freed_at p (o ∷ locks) zero = refl
freed_at p (o ∷ locks) (suc u) = freed_at p locks u

pub freed_mine : (p : ℕ) (o : Option ℕ) → o ≡ Some p → freed p o ≡ None
freed_mine p None e = refl
freed_mine p (Some q) e = ap (λ (b : Bool). if b then None else Some q) (eq-eqb q p (some_same q p (Some q) refl e))

pub freed_other : (p : ℕ) (o : Option ℕ) → o ≢ Some p → freed p o ≡ o
freed_other p None n = refl
freed_other p (Some q) n = ap (λ (b : Bool). if b then None else Some q) (ne_eqb q p (λ (e : q ≡ p). n (ap (λ (i : ℕ). Some i) e)))
