-- Rows that are kept from now on, and written to: why each call of `SparseRows` is the list's.
use Rattle.std.proofs.Common.{◌≡◌, ◌≢◌, ◌∙◌, ◌+◌, ◌<◌, ◌≤◌, ◌++◌, ℕ, zero, suc, List, [], ◌∷◌, length, length-append, set, get_or, replicate, ap, sym, refl, arith, ⊎_elim, length-set, get_or-set_same, get_or-set_other}
use Rattle.std.proofs.lemmas.Bool.{cases_eq, cases_lt}
use Rattle.std.proofs.lemmas.List.{ext_get_or, get_or-append-add, get_or_append_left, get_or_default, get_or-map, get_or-replicate, get_or_past, length-map, length-replicate}
use Rattle.std.proofs.lemmas.List.Folds.{sum_by-replicate}
use Rattle.std.proofs.lemmas.List.Sums.{sum_by-set}
use Rattle.mgn_rows.specs.Rows.{ArePlaces, listed, one_unkept}

-- The list.

pub listed-long : {T : Type 0} (places : List ℕ) (kept : List T) → 0 < length kept → length (listed places kept) ≡ length places
listed-long places [] some = absurd (omega (arith, some))
listed-long places (value ∷ kept) some = length-map places (λ (place : ℕ). get_or (value ∷ kept) place value)

pub listed-at : {T : Type 0} (places : List ℕ) (kept : List T) (i : ℕ) (d : T) → i < length places → get_or places i 0 < length kept → get_or (listed places kept) i d ≡ get_or kept (get_or places i 0) d
listed-at places [] i d within inside = absurd (omega (arith, inside))
listed-at places (value ∷ kept) i d within inside =
    get_or-map (λ (place : ℕ). get_or (value ∷ kept) place value) places i 0 d within
    ∙ get_or_default (value ∷ kept) (get_or places i 0) value d inside

-- a list is known by its rows
pub listed-is : {T : Type 0} (places : List ℕ) (kept list : List T) (d : T) → length list ≡ length places → ((i : ℕ) → get_or places i 0 < length kept) → ((i : ℕ) → i < length places → get_or list i d ≡ get_or kept (get_or places i 0) d) → listed places kept ≡ list
listed-is places kept list d long inside each =
    ext_get_or d (listed places kept) list (own ∙ sym long)
    (λ i within. listed-at places kept i d (omega (arith, within, own)) (inside i) ∙ sym (each i (omega (arith, within, own))))
  where
    own : length (listed places kept) ≡ length places
    own = listed-long places kept (omega (arith, inside 0))

-- A row is kept from now on.

pub kept-place : (places : List ℕ) (i j new : ℕ) → j ≢ i → get_or (set places i new) j 0 ≡ get_or places j 0
kept-place places i j new apart = get_or-set_other places i j new 0 apart

one-kept : (place : ℕ) → 0 < place → one_unkept place ≡ 0
one-kept zero some = absurd (omega (arith, some))
one-kept (suc place) some = refl

-- there is room for it, and it is one of few
pub room-for : (places : List ℕ) (kept capacity i : ℕ) → ArePlaces places kept capacity → i < length places → get_or places i 0 ≡ 0 → kept < capacity
room-for places kept capacity i are within unkept =
    omega (arith, are.fill, are.room, sum_by-set one_unkept places i 1 0 within, ap one_unkept unkept)

pub few-kept : (places : List ℕ) (kept capacity : ℕ) → ArePlaces places kept capacity → kept ≤ 4097
few-kept places kept capacity are = omega (arith, are.fill, are.few)

pub some-kept : (places : List ℕ) (kept capacity : ℕ) → ArePlaces places kept capacity → 0 < kept
some-kept places kept capacity are = omega (arith, are.inside 0)

pub kept-places : (places : List ℕ) (kept capacity i : ℕ) → ArePlaces places kept capacity → i < length places → get_or places i 0 ≡ 0 → ArePlaces (set places i kept) (kept + 1) capacity
kept-places places kept capacity i are within unkept = record {
  few = omega (arith, are.few, long);
  fill = omega (arith, are.fill, long, sum_by-set one_unkept places i kept 0 within, ap one_unkept unkept, one-kept kept (some-kept places kept capacity are));
  room = omega (arith, are.room, long);
  inside = λ j.
      ⊎_elim
      (λ (same : j ≡ i). omega (arith, here j same))
      (λ (other : j ≢ i). omega (arith, kept-place places i j kept other, are.inside j))
      (cases_eq j i);
  apart = λ j k some same.
      ⊎_elim
      (λ (j_new : j ≡ i).
      ⊎_elim
      (λ (k_new : k ≡ i). j_new ∙ sym k_new)
      (λ (k_old : k ≢ i). absurd (omega (arith, here j j_new, kept-place places i k kept k_old, are.inside k, same)))
      (cases_eq k i))
      (λ (j_old : j ≢ i).
      ⊎_elim
      (λ (k_new : k ≡ i). absurd (omega (arith, here k k_new, kept-place places i j kept j_old, are.inside j, same)))
      (λ (k_old : k ≢ i).
      are.apart j k (omega (arith, some, kept-place places i j kept j_old)) (sym (kept-place places i j kept j_old) ∙ same ∙ kept-place places i k kept k_old))
      (cases_eq k i))
      (cases_eq j i);
}
  where
    long : length (set places i kept) ≡ length places
    long = length-set places i kept

    here : (j : ℕ) → j ≡ i → get_or (set places i kept) j 0 ≡ kept
    here j same =
        ap (λ (p : ℕ). get_or (set places i kept) p 0) same ∙ get_or-set_same places i kept 0 within

-- and it reads as before
pub kept-same : {T : Type 0} (places : List ℕ) (kept : List T) (capacity i : ℕ) (value : T) → ArePlaces places (length kept) capacity → i < length places → get_or places i 0 ≡ 0 → value ≡ get_or kept 0 value
    → listed (set places i (length kept)) (kept ++ value ∷ []) ≡ listed places kept
kept-same places kept capacity i value are within unkept first =
    listed-is (set places i (length kept)) (kept ++ value ∷ []) (listed places kept) value (listed-long places kept (some-kept places (length kept) capacity are) ∙ sym (length-set places i (length kept))) inside each
  where
    grown : length (kept ++ value ∷ []) ≡ length kept + 1
    grown = length-append kept (value ∷ [])

    inside : (j : ℕ) → get_or (set places i (length kept)) j 0 < length (kept ++ value ∷ [])
    inside j =
        omega (arith, (kept-places places (length kept) capacity i are within unkept).inside j, grown)

    each : (j : ℕ) → j < length (set places i (length kept)) → get_or (listed places kept) j value ≡ get_or (kept ++ value ∷ []) (get_or (set places i (length kept)) j 0) value
    each j low =
        listed-at places kept j value (omega (arith, low, length-set places i (length kept))) (are.inside j)
        ∙ ⊎_elim
        (λ (same : j ≡ i).
        ap (λ (p : ℕ). get_or kept p value) (ap (λ (p : ℕ). get_or places p 0) same ∙ unkept)
        ∙ sym first
        ∙ sym (get_or-append-add kept (value ∷ []) 0 value)
        ∙ ap (λ (p : ℕ). get_or (kept ++ value ∷ []) p value) (omega arith ∙ sym (ap (λ (p : ℕ). get_or (set places i (length kept)) p 0) same ∙ get_or-set_same places i (length kept) 0 within)))
        (λ (other : j ≢ i).
        sym (get_or_append_left kept (value ∷ []) value (get_or places j 0) (are.inside j))
        ∙ ap (λ (p : ℕ). get_or (kept ++ value ∷ []) p value) (sym (kept-place places i j (length kept) other)))
        (cases_eq j i)

-- A row that is kept is written to, and no other changes.
pub written : {T : Type 0} (places : List ℕ) (kept : List T) (capacity i : ℕ) (w : T) → ArePlaces places (length kept) capacity → i < length places → 0 < get_or places i 0
    → listed places (set kept (get_or places i 0) w) ≡ set (listed places kept) i w
written places kept capacity i w are within own =
    listed-is places (set kept (get_or places i 0) w) (set (listed places kept) i w) w (length-set (listed places kept) i w ∙ long) (λ j. omega (arith, are.inside j, length-set kept (get_or places i 0) w)) each
  where
    long : length (listed places kept) ≡ length places
    long = listed-long places kept (some-kept places (length kept) capacity are)

    each : (j : ℕ) → j < length places → get_or (set (listed places kept) i w) j w ≡ get_or (set kept (get_or places i 0) w) (get_or places j 0) w
    each j low =
        ⊎_elim
        (λ (same : j ≡ i).
        ap (λ (p : ℕ). get_or (set (listed places kept) i w) p w) same
        ∙ get_or-set_same (listed places kept) i w w (omega (arith, within, long))
        ∙ sym (get_or-set_same kept (get_or places i 0) w w (are.inside i))
        ∙ ap (λ (p : ℕ). get_or (set kept (get_or places i 0) w) (get_or places p 0) w) (sym same))
        (λ (other : j ≢ i).
        get_or-set_other (listed places kept) i j w w other
        ∙ listed-at places kept j w low (are.inside j)
        ∙ sym (get_or-set_other kept (get_or places i 0) (get_or places j 0) w w (λ same. other (sym (are.apart i j own (sym same))))))
        (cases_eq j i)

-- No row is kept.

pub flat-place : (count i : ℕ) → get_or (replicate count zero) i 0 ≡ 0
flat-place count i =
    ⊎_elim
    (λ (inside : i < count). get_or-replicate count i 0 0 inside)
    (λ (past : count ≤ i). get_or_past (replicate count zero) i 0 (omega (arith, past, length-replicate count zero)))
    (cases_lt i count)

pub flat-places : (count capacity : ℕ) → count ≤ 4096 → count + 1 ≤ capacity → ArePlaces (replicate count zero) 1 capacity
flat-places count capacity few enough = record {
  few = omega (arith, few, long);
  fill = omega (arith, long, sum_by-replicate one_unkept count zero);
  room = omega (arith, long, enough);
  inside = λ i. omega (arith, flat-place count i);
  apart = λ i j some. absurd (omega (arith, some, flat-place count i));
}
  where
    long : length (replicate count zero) ≡ count
    long = length-replicate count zero

pub flat-listed : {T : Type 0} (count : ℕ) (value : T) → listed (replicate count zero) (value ∷ []) ≡ replicate count value
flat-listed count value =
    listed-is (replicate count zero) (value ∷ []) (replicate count value) value (length-replicate count value ∙ sym long) (λ i. omega (arith, flat-place count i))
    (λ i within.
    get_or-replicate count i value value (omega (arith, within, long))
    ∙ sym (ap (λ (p : ℕ). get_or (value ∷ []) p value) (flat-place count i)))
  where
    long : length (replicate count zero) ≡ count
    long = length-replicate count zero
