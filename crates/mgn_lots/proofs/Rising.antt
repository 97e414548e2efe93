-- Numbers of which the first so many rise: where `place` finds one, and what `add_reserved` does to them.
use Rattle.std.proofs.Common.{◌≡◌, ℕ, ◌+◌, ◌-◌, ◌≤◌, ◌<◌, List, [], ◌∷◌, ◌++◌, length, take, drop, get_or, Some, None, Result, Ok, Err, All, Bool, true, false, ◌||◌, nat_eq, refl, sym, ap, subst, ◌∙◌, arith, ⊎_elim}
use Rattle.std.specs.List.{slice_get, position, position_or_len, list_any}
use Rattle.std.specs.Option.{is_some}
use Rattle.std.specs.Result.{result_ok}
use Rattle.std.specs.List.Sorted.{IsStrictlyIncreasing, IsNonDecreasingBy, IsSearchInRange, IsBinarySearchResult}
use Rattle.std.specs.Ordering.{nat_cmp, ordering_index}
use Rattle.std.proofs.lemmas.Bool.{cases_lt}
use Rattle.std.proofs.lemmas.Bool.Decides.{nat_tests}
use Rattle.std.proofs.lemmas.Cmp.{ranked}
use Rattle.std.proofs.lemmas.Grind.{common_steps, get_or_default_zero}
use Rattle.std.proofs.lemmas.List.{map-append, take-append-drop, get_or-map, length-map, get_or-take, get_or-drop, length-take-le, length-drop, take-append-le, drop-append-le, take_all, take-map, drop_all, length-append}
use Rattle.std.proofs.lemmas.List.Folds.{list_any-append}
use Rattle.std.proofs.lemmas.List.Kept.{AllPairs-from_increasing}
use Rattle.std.proofs.lemmas.List.Quantifiers.{position-Some}
use Rattle.std.proofs.lemmas.List.Sums.{position_or_len_is, fails_before_first}
use Rattle.std.proofs.lemmas.Option.{get_or_from_slice_get}
use Rattle.mgn_lots.specs.declared.lot.Lot.{Lot}
use Rattle.mgn_lots.specs.Lots.{numbers_of, place_of_lot, no_lot, has_number}
use Rattle.indexmap.specs.IndexSet.{insert_key}
use Rattle.mgn_lots.specs.Kept.{KeepsNumbers}

-- positions

module _ {X : Type 0} (p : X → Bool) (xs : List X) (d : X) where
  -- the first element that passes is where the search ends
  pub position-at : (i : ℕ) → i < length xs → ((k : ℕ) → k < i → p (get_or xs k d) ≡ false) → p (get_or xs i d) ≡ true → position p xs ≡ Some i
  position-at i inside before here =
      let at : position_or_len p xs ≡ i = position_or_len_is p xs i d (omega arith) before (λ _. here) in
      rw at (grind (arith, nat_tests))

  -- where none passes there is no place
  pub position-nowhere : ((k : ℕ) → k < length xs → p (get_or xs k d) ≡ false) → position p xs ≡ None
  position-nowhere fails =
      let at : position_or_len p xs ≡ length xs = position_or_len_is p xs (length xs) d (omega arith) fails (λ past. absurd (omega arith)) in
      rw at (grind (arith, nat_tests))

  -- and the converse
  pub position-None : position p xs ≡ None → (k : ℕ) → k < length xs → p (get_or xs k d) ≡ false
  position-None none k inside = fails_before_first p xs k d (grind (arith, nat_tests))

module _ {X : Type 0} (p : X → Bool) (xs : List X) (d : X) (r : ℕ) (within : r ≤ length xs) where
  -- what is found among the first is found
  pub position-front : (i : ℕ) → position p (take r xs) ≡ Some i → position p xs ≡ Some i
  position-front i found =
      let at = position-Some p (take r xs) i d found in
      let inside : i < r = omega (arith, at.0, length-take-le r xs within) in
      position-at p xs d i (omega (arith, inside, within))
      (λ k below. sym (ap p (get_or-take r xs k d (omega (arith, below, inside)))) ∙ at.2 k below)
      (sym (ap p (get_or-take r xs i d inside)) ∙ at.1)

  -- none among the first passes
  front-fails : position p (take r xs) ≡ None → (k : ℕ) → k < r → p (get_or xs k d) ≡ false
  front-fails none k below = sym (ap p (get_or-take r xs k d below)) ∙ position-None p (take r xs) d none k (omega (arith, below, length-take-le r xs within))

  -- the elements behind them
  behind-at : (k : ℕ) → r ≤ k → get_or (drop r xs) (k - r) d ≡ get_or xs k d
  behind-at k from = get_or-drop r xs (k - r) d ∙ ap (λ n. get_or xs n d) (omega (arith, from))

  -- what is not found among the first is found behind them
  pub position-behind : (i : ℕ) → position p (take r xs) ≡ None → position p (drop r xs) ≡ Some i → position p xs ≡ Some (r + i)
  position-behind i none found =
      let at = position-Some p (drop r xs) i d found in
      position-at p xs d (r + i) (omega (arith, at.0, length-drop r xs, within))
      (λ k below. ⊎_elim
      (λ low. front-fails none k low)
      (λ from. sym (ap p (behind-at k from)) ∙ at.2 (k - r) (omega (arith, below, from)))
      (cases_lt k r))
      (sym (ap p (get_or-drop r xs i d)) ∙ at.1)

  -- what is in neither part is nowhere
  pub position-neither : position p (take r xs) ≡ None → position p (drop r xs) ≡ None → position p xs ≡ None
  position-neither none none-behind = position-nowhere p xs d (λ k inside. ⊎_elim
      (λ low. front-fails none k low)
      (λ from. sym (ap p (behind-at k from)) ∙ position-None p (drop r xs) d none-behind (k - r) (omega (arith, inside, from, length-drop r xs)))
      (cases_lt k r))

-- there is a place exactly where an element passes
pub is_some-position : {X : Type 0} (p : X → Bool) (xs : List X) → is_some (position p xs) ≡ list_any p xs
is_some-position p [] = refl
is_some-position p (x ∷ xs) = grind (arith, nat_tests, is_some-position p xs)

-- numbers that rise

module _ (numbers : List ℕ) (rise : IsStrictlyIncreasing numbers) where
  -- a number above the last is above all
  pub above-last : (n : ℕ) → (0 < length numbers → get_or numbers (length numbers - 1) 0 < n) → All (λ x. x < n) numbers
  above-last n last k d inside =
      let below : get_or numbers k d ≤ get_or numbers (length numbers - 1) d =
      ⊎_elim
      (λ lower. let less = AllPairs-from_increasing numbers rise k (length numbers - 1) d lower (omega (arith, inside)) in omega (arith, less))
      (λ from. let same : k ≡ length numbers - 1 = omega (arith, from, inside) in omega (arith, ap (λ i. get_or numbers i d) same))
      (cases_lt k (length numbers - 1))
      in
      omega (arith, below, last (omega (arith, inside)), get_or_default_zero numbers (length numbers - 1) d (omega (arith, inside)))

  -- and is not among them
  pub position-above : (n : ℕ) → All (λ x. x < n) numbers → position (nat_eq n) numbers ≡ None
  position-above n above = position-nowhere (nat_eq n) numbers 0 (λ k inside. let less = above k 0 inside in grind (arith, nat_tests))

-- the last lot has the last number
pub last-number : (lots : List Lot) (x : Lot) → slice_get lots (length lots - 1) ≡ Some x
    → record { some : 0 < length (numbers_of lots); last : get_or (numbers_of lots) (length (numbers_of lots) - 1) 0 ≡ x.number }
last-number [] x got = absurd (cc)
last-number (y ∷ ys) x got =
    let lots = y ∷ ys in
    let number : Lot → ℕ = λ z. z.number in
    let long = length-map lots number in
    record {
      some = omega (arith, long);
      last =
          ap (λ i. get_or (numbers_of lots) i 0) (omega (arith, long))
          ∙ get_or-map number lots (length lots - 1) x 0 (omega arith)
          ∙ ap number (get_or_from_slice_get lots (length lots - 1) x x got);
    }

-- a binary search among lots whose numbers rise

module _ (lots : List Lot) (rise : IsStrictlyIncreasing (numbers_of lots)) (n : ℕ) where
  -- the number of the lot at a place
  number-at : (k : ℕ) (d : Lot) → k < length lots → (get_or lots k d).number ≡ get_or (numbers_of lots) k 0
  number-at k d inside = sym (get_or-map (λ (x : Lot). x.number) lots k d 0 inside)

  -- an earlier lot has a lower number
  lower-before : (i j : ℕ) → i < j → j < length lots → get_or (numbers_of lots) i 0 < get_or (numbers_of lots) j 0
  lower-before i j before inside = AllPairs-from_increasing (numbers_of lots) rise i j 0 before (omega (arith, inside, length-map lots (λ (x : Lot). x.number)))

  -- comparisons with a number rise with the numbers, as the search asks
  comparisons-rise : IsNonDecreasingBy (λ (x : Lot). ordering_index (nat_cmp x.number n)) lots
  comparisons-rise i j d order inside =
      let at-i = number-at i d (omega (arith, order, inside)) in
      let at-j = number-at j d inside in
      let less : (get_or lots i d).number ≤ (get_or lots j d).number =
      ⊎_elim
      (λ lower. let less = lower-before i j lower inside in omega (arith, less, at-i, at-j))
      (λ from. let same : i ≡ j = omega (arith, from, order) in omega (arith, ap (λ i. (get_or lots i d).number) same))
      (cases_lt i j)
      in
      grind (arith, nat_tests)

  -- it ends at the lot of that number, or there is none
  pub search-ends : (r : Result ℕ ℕ) → IsSearchInRange r (length lots) → IsBinarySearchResult (λ (x : Lot). nat_cmp x.number n) lots r → result_ok r ≡ place_of_lot lots n
  search-ends (Ok at) inside found =
      let here : get_or (numbers_of lots) at 0 ≡ n = sym (number-at at no_lot inside) ∙ ranked _ n _ (sym (found no_lot)) in
      sym (position-at (nat_eq n) (numbers_of lots) 0 at (omega (arith, inside, length-map lots (λ (x : Lot). x.number)))
      (λ k before. let less = lower-before k at before inside in grind (arith, nat_tests))
      (grind (arith, nat_tests)))
  search-ends (Err at) bound parted =
      let parts = parted comparisons-rise in
      sym (position-nowhere (nat_eq n) (numbers_of lots) 0 (λ k inside-map.
      let inside : k < length lots = omega (arith, inside-map, length-map lots (λ (x : Lot). x.number)) in
      let is = number-at k no_lot inside in
      ⊎_elim
      (λ low. let less = ranked _ n _ (sym (parts.0 k no_lot (omega arith) low)) in grind (arith, nat_tests))
      (λ from. let more = ranked _ n _ (sym (parts.1 k no_lot from inside)) in grind (arith, nat_tests))
      (cases_lt k at)))

-- lots of which the first so many rise

module _ (lots : List Lot) (rising : ℕ) (behind : List ℕ) (kept : KeepsNumbers (numbers_of lots) rising behind) where
  first-numbers : numbers_of (take rising lots) ≡ take rising (numbers_of lots)
  first-numbers = sym (take-map (λ (x : Lot). x.number) rising lots)

  pub first-rise : IsStrictlyIncreasing (numbers_of (take rising lots))
  first-rise = subst IsStrictlyIncreasing (sym first-numbers) kept.rise

  module _ (n : ℕ) where
    first-place : place_of_lot (take rising lots) n ≡ position (nat_eq n) (take rising (numbers_of lots))
    first-place = ap (position (nat_eq n)) first-numbers

    pub place-first : (i : ℕ) → place_of_lot (take rising lots) n ≡ Some i → place_of_lot lots n ≡ Some i
    place-first i found = position-front (nat_eq n) (numbers_of lots) 0 rising kept.within i (sym first-place ∙ found)

    pub place-behind : (i : ℕ) → place_of_lot (take rising lots) n ≡ None → position (nat_eq n) behind ≡ Some i → place_of_lot lots n ≡ Some (rising + i)
    place-behind i none found =
        position-behind (nat_eq n) (numbers_of lots) 0 rising kept.within i (sym first-place ∙ none) (ap (position (nat_eq n)) (sym kept.behind_are) ∙ found)

    pub place-neither : place_of_lot (take rising lots) n ≡ None → position (nat_eq n) behind ≡ None → place_of_lot lots n ≡ None
    place-neither none none-behind =
        position-neither (nat_eq n) (numbers_of lots) 0 rising kept.within (sym first-place ∙ none) (ap (position (nat_eq n)) (sym kept.behind_are) ∙ none-behind)

-- a number more

-- a number above all others may stand behind them
pub rise-push : (numbers : List ℕ) (n : ℕ) → IsStrictlyIncreasing numbers → All (λ x. x < n) numbers → IsStrictlyIncreasing (numbers ++ n ∷ [])
rise-push numbers n rise above k inside =
    let long = length-append numbers (n ∷ []) in
    let less = above k 0 (omega (arith, long, inside)) in
    ⊎_elim
    (λ lower. let before = rise k lower in grind (arith, common_steps))
    (λ from. let last : k + 1 ≡ length numbers = omega (arith, from, inside, long) in grind (arith, common_steps))
    (cases_lt (k + 1) (length numbers))

module _ (all : List ℕ) (rising : ℕ) (behind : List ℕ) (n : ℕ) (kept : KeepsNumbers all rising behind) where
  -- where none stands behind, one above all of them is one more that rises
  pub keeps-rising : rising ≡ length all → All (λ x. x < n) all → KeepsNumbers (all ++ n ∷ []) (rising + 1) behind
  keeps-rising full above =
      let whole : take rising all ≡ all = take_all rising all (omega (arith, full)) in
      let long = length-append all (n ∷ []) in
      record {
        within = omega (arith, full, long);
        rise = subst IsStrictlyIncreasing (sym (take_all (rising + 1) (all ++ n ∷ []) (omega (arith, full, long)))) (rise-push all n (subst IsStrictlyIncreasing whole kept.rise) above);
        behind_are = kept.behind_are ∙ drop_all rising all (omega (arith, full)) ∙ sym (drop_all (rising + 1) (all ++ n ∷ []) (omega (arith, full, long)));
      }

  -- any other stands behind
  pub keeps-behind : KeepsNumbers (all ++ n ∷ []) rising (behind ++ n ∷ [])
  keeps-behind = record {
    within = omega (arith, kept.within, length-append all (n ∷ []));
    rise = subst IsStrictlyIncreasing (sym (take-append-le rising all (n ∷ []) kept.within)) kept.rise;
    behind_are = ap (λ (xs : List ℕ). xs ++ n ∷ []) kept.behind_are ∙ sym (drop-append-le rising all (n ∷ []) kept.within);
  }

module _ (lots : List Lot) (rising : ℕ) (behind : List ℕ) (kept : KeepsNumbers (numbers_of lots) rising behind) (x : Lot) where
  numbers-push : numbers_of (lots ++ x ∷ []) ≡ numbers_of lots ++ x.number ∷ []
  numbers-push = map-append (λ (y : Lot). y.number) lots (x ∷ [])

  -- a lot above all others, behind which none stands
  pub more-rises : rising ≡ length lots → All (λ n. n < x.number) (numbers_of lots) → KeepsNumbers (numbers_of (lots ++ x ∷ [])) (rising + 1) behind
  more-rises full above =
      let kept-so = keeps-rising (numbers_of lots) rising behind x.number kept (omega (arith, full, length-map lots (λ (y : Lot). y.number))) above in
      subst (λ all. KeepsNumbers all (rising + 1) behind) (sym numbers-push) kept-so

  -- a lot of another new number
  pub more-behind : has_number lots x.number ≡ false → KeepsNumbers (numbers_of (lots ++ x ∷ [])) rising (insert_key nat_eq behind x.number)
  more-behind fresh =
      let p = nat_eq x.number in
      let parts : (list_any p (take rising (numbers_of lots)) || list_any p (drop rising (numbers_of lots))) ≡ false =
      sym (list_any-append p (take rising (numbers_of lots)) (drop rising (numbers_of lots))) ∙ ap (list_any p) (take-append-drop rising (numbers_of lots)) ∙ fresh
      in
      let new : list_any p behind ≡ false = ap (list_any p) kept.behind_are ∙ (grind (arith, parts)) in
      let inserted : insert_key nat_eq behind x.number ≡ behind ++ x.number ∷ [] = rw new refl in
      subst (λ all. KeepsNumbers all rising (insert_key nat_eq behind x.number)) (sym numbers-push)
      (subst (KeepsNumbers (numbers_of lots ++ x.number ∷ []) rising) (sym inserted) (keeps-behind (numbers_of lots) rising behind x.number kept))
