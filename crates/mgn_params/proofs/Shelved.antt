-- The sets of a shelf, of which equal ones stand once: for `put`.
use Rattle.std.proofs.Common.{◌≡◌, ◌∙◌, ◌<◌, ◌≤◌, ◌++◌, ◌∷◌, [], ℕ, suc, List, ap, arith, get_or, length, length-append, map, refl, sym, ⊎_elim}
use Rattle.std.proofs.lemmas.Bool.{cases_lt}
use Rattle.std.proofs.lemmas.List.{get_or_append_left, get_or_push}
use Rattle.mgn_params.specs.Shelves.{ArePlaces, set_at}
use Rattle.mgn_params.specs.Tables.{Tables, no_tables}

-- the sets of all versions
abbrev pub shelved : List Tables → List ℕ → List Tables
shelved sets places = map (set_at sets) places

-- a version more, of a set that is kept
pub shelved-place : (sets : List Tables) (places : List ℕ) (p : ℕ) → shelved sets (places ++ p ∷ []) ≡ shelved sets places ++ set_at sets p ∷ []
shelved-place sets [] p = refl
shelved-place sets (q ∷ places) p = ap (λ (rest : List Tables). set_at sets q ∷ rest) (shelved-place sets places p)

pub places-pushed : (sets : List Tables) (places : List ℕ) (p : ℕ) → ArePlaces sets places → length places ≤ 64 → p < length sets → ArePlaces sets (places ++ p ∷ [])
places-pushed sets places p are few there = record {
  first = omega (arith, length-append places (p ∷ []));
  few = omega (arith, few, length-append places (p ∷ []));
  once = omega (arith, are.once, length-append places (p ∷ []));
  inside = λ version less.
      ⊎_elim
      (λ (before : version < length places).
      omega (arith, get_or_append_left places (p ∷ []) 0 version before, are.inside version before))
      (λ (last : length places ≤ version).
      let here : length places ≡ version = omega (arith, last, less, length-append places (p ∷ [])) in
      omega (arith, get_or_push places p 0 version here, there))
      (cases_lt version (length places));
}

-- a set more that is kept
pub set-before : (sets : List Tables) (new : Tables) (p : ℕ) → p < length sets → set_at (sets ++ new ∷ []) p ≡ set_at sets p
set-before sets new p less = get_or_append_left sets (new ∷ []) (no_tables []) p less

shelved-set : (sets : List Tables) (new : Tables) (places : List ℕ) → ((k : ℕ) → k < length places → get_or places k 0 < length sets) → shelved (sets ++ new ∷ []) places ≡ shelved sets places
shelved-set sets new [] inside = refl
shelved-set sets new (p ∷ places) inside =
    λ i. set-before sets new p (inside 0 (omega arith)) i ∷ shelved-set sets new places (λ k less. inside (suc k) (omega (arith, less))) i

pub shelved-more : (sets : List Tables) (new : Tables) (places : List ℕ) (n : ℕ) → ArePlaces sets places → n ≡ length sets → shelved (sets ++ new ∷ []) (places ++ n ∷ []) ≡ shelved sets places ++ new ∷ []
shelved-more sets new places n are end =
    shelved-place (sets ++ new ∷ []) places n
    ∙ (λ i. shelved-set sets new places are.inside i ++ get_or_push sets new (no_tables []) n (sym end) i ∷ [])

pub places-more : (sets : List Tables) (new : Tables) (places : List ℕ) (n : ℕ) → ArePlaces sets places → length places ≤ 64 → n ≡ length sets → ArePlaces (sets ++ new ∷ []) (places ++ n ∷ [])
places-more sets new places n are few end = record {
  first = omega (arith, length-append places (n ∷ []));
  few = omega (arith, few, length-append places (n ∷ []));
  once = omega (arith, are.once, length-append places (n ∷ []), length-append sets (new ∷ []));
  inside = λ version less.
      ⊎_elim
      (λ (before : version < length places).
      omega (arith, get_or_append_left places (n ∷ []) 0 version before, are.inside version before, length-append sets (new ∷ [])))
      (λ (last : length places ≤ version).
      let here : length places ≡ version = omega (arith, last, less, length-append places (n ∷ [])) in
      omega (arith, get_or_push places n 0 version here, end, length-append sets (new ∷ [])))
      (cases_lt version (length places));
}
