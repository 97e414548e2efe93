-- Holds whose orders rise: where one stands, and what `add` and `release` do to them.
use Rattle.std.proofs.Common.{◌≡◌, ℕ, ◌+◌, ◌-◌, ◌≤◌, ◌<◌, List, [], ◌∷◌, ◌++◌, length, get_or, Some, None, Result, Ok, Err, All, Bool, true, false, nat_eq, sym, ap, subst, ◌∙◌, arith, ⊎_elim}
use Rattle.std.specs.List.{slice_get, position, position_or_len, remove}
use Rattle.std.specs.Result.{result_ok}
use Rattle.std.specs.List.Sorted.{IsStrictlyIncreasing, IsNonDecreasingBy, IsSearchInRange, IsBinarySearchResult}
use Rattle.std.specs.Ordering.{nat_cmp, ordering_index}
use Rattle.std.proofs.lemmas.Bool.{cases_lt}
use Rattle.std.proofs.lemmas.Bool.Decides.{nat_tests}
use Rattle.std.proofs.lemmas.Cmp.{ranked}
use Rattle.std.proofs.lemmas.Grind.{common_steps, get_or_default_zero}
use Rattle.std.proofs.lemmas.List.{map-append, get_or-map, length-map, length-append}
use Rattle.std.proofs.lemmas.List.Edits.{length-remove, get_or-remove_below, get_or-remove_above}
use Rattle.std.proofs.lemmas.List.Kept.{AllPairs-from_increasing}
use Rattle.std.proofs.lemmas.List.Sums.{position_or_len_is}
use Rattle.std.proofs.lemmas.Option.{get_or_from_slice_get}
use Rattle.mgn_holds.specs.declared.held.Held.{Held}
use Rattle.mgn_holds.specs.Holds.{orders_of, place_of_order, no_hold}
use Rattle.mgn_holds.proofs.Orders.{orders_of-remove}

-- positions

module _ {X : Type 0} (p : X → Bool) (xs : List X) (d : X) where
  -- the first element that passes is where the search ends
  position-at : (i : ℕ) → i < length xs → ((k : ℕ) → k < i → p (get_or xs k d) ≡ false) → p (get_or xs i d) ≡ true → position p xs ≡ Some i
  position-at i inside before here =
      let at : position_or_len p xs ≡ i = position_or_len_is p xs i d (omega arith) before (λ _. here) in
      rw at (grind (arith, nat_tests))

  -- where none passes there is no place
  position-nowhere : ((k : ℕ) → k < length xs → p (get_or xs k d) ≡ false) → position p xs ≡ None
  position-nowhere fails =
      let at : position_or_len p xs ≡ length xs = position_or_len_is p xs (length xs) d (omega arith) fails (λ past. absurd (omega arith)) in
      rw at (grind (arith, nat_tests))

-- numbers that rise

module _ (numbers : List ℕ) (rise : IsStrictlyIncreasing numbers) where
  -- a number above the last is above all
  pub above-last : (n : ℕ) → (0 < length numbers → get_or numbers (length numbers - 1) 0 < n) → All (λ x. x < n) numbers
  above-last n last k d inside =
      let below : get_or numbers k d ≤ get_or numbers (length numbers - 1) d =
      ⊎_elim
      (λ lower. let less = AllPairs-from_increasing numbers rise k (length numbers - 1) d lower (omega (arith, inside)) in omega (arith, less))
      (λ from. let same : k ≡ length numbers - 1 = omega (arith, from, inside) in omega (arith, ap (λ i. get_or numbers i d) same))
      (cases_lt k (length numbers - 1))
      in
      omega (arith, below, last (omega (arith, inside)), get_or_default_zero numbers (length numbers - 1) d (omega (arith, inside)))

  -- and may stand behind them
  rise-push : (n : ℕ) → All (λ x. x < n) numbers → IsStrictlyIncreasing (numbers ++ n ∷ [])
  rise-push n above k inside =
      let long = length-append numbers (n ∷ []) in
      let less = above k 0 (omega (arith, long, inside)) in
      ⊎_elim
      (λ lower. let before = rise k lower in grind (arith, common_steps))
      (λ from. let last : k + 1 ≡ length numbers = omega (arith, from, inside, long) in grind (arith, common_steps))
      (cases_lt (k + 1) (length numbers))

  -- where one is taken out the others still rise
  rise-remove : (i : ℕ) → i < length numbers → IsStrictlyIncreasing (remove numbers i)
  rise-remove i within k inside =
      let long = length-remove numbers i within in
      ⊎_elim
      (λ low.
      let less = rise k (omega (arith, low, within)) in
      omega (arith, less, get_or-remove_below numbers i 0 k (omega (arith, low)) within, get_or-remove_below numbers i 0 (k + 1) low within))
      (λ from.
      let next = get_or-remove_above numbers i 0 (k + 1) from within in
      ⊎_elim
      (λ low.
      let less = AllPairs-from_increasing numbers rise k ((k + 1) + 1) 0 (omega arith) (omega (arith, inside, long)) in
      omega (arith, less, next, get_or-remove_below numbers i 0 k low within))
      (λ high.
      let less = rise (k + 1) (omega (arith, inside, long)) in
      omega (arith, less, next, get_or-remove_above numbers i 0 k high within))
      (cases_lt k i))
      (cases_lt (k + 1) i)

-- the last hold has the last order
pub last-order : (holds : List Held) (x : Held) → slice_get holds (length holds - 1) ≡ Some x
    → record { some : 0 < length (orders_of holds); last : get_or (orders_of holds) (length (orders_of holds) - 1) 0 ≡ x.order }
last-order [] x got = absurd (cc)
last-order (y ∷ ys) x got =
    let holds = y ∷ ys in
    let order : Held → ℕ = λ z. z.order in
    let long = length-map holds order in
    record {
      some = omega (arith, long);
      last =
          ap (λ i. get_or (orders_of holds) i 0) (omega (arith, long))
          ∙ get_or-map order holds (length holds - 1) x 0 (omega arith)
          ∙ ap order (get_or_from_slice_get holds (length holds - 1) x x got);
    }

-- the order of the hold at a place
order-at : (holds : List Held) (k : ℕ) (d : Held) → k < length holds → (get_or holds k d).order ≡ get_or (orders_of holds) k 0
order-at holds k d inside = sym (get_or-map (λ (x : Held). x.order) holds k d 0 inside)

-- an order above all others is not among them
pub place-above : (holds : List Held) (n : ℕ) → All (λ x. x < n) (orders_of holds) → place_of_order holds n ≡ None
place-above holds n above =
    position-nowhere (λ (x : Held). nat_eq x.order n) holds no_hold (λ k inside.
    let less = above k 0 (omega (arith, inside, length-map holds (λ (x : Held). x.order))) in
    let is = order-at holds k no_hold inside in
    grind (arith, nat_tests))

-- a binary search among holds whose orders rise

module _ (holds : List Held) (rise : IsStrictlyIncreasing (orders_of holds)) (n : ℕ) where
  -- an earlier hold has a lower order
  lower-before : (i j : ℕ) (d : Held) → i < j → j < length holds → (get_or holds i d).order < (get_or holds j d).order
  lower-before i j d before inside =
      let less = AllPairs-from_increasing (orders_of holds) rise i j 0 before (omega (arith, inside, length-map holds (λ (x : Held). x.order))) in
      omega (arith, less, order-at holds i d (omega (arith, before, inside)), order-at holds j d inside)

  -- comparisons with an order rise with the orders, as the search asks
  comparisons-rise : IsNonDecreasingBy (λ (x : Held). ordering_index (nat_cmp x.order n)) holds
  comparisons-rise i j d order inside =
      let less : (get_or holds i d).order ≤ (get_or holds j d).order =
      ⊎_elim
      (λ lower. let less = lower-before i j d lower inside in omega (arith, less))
      (λ from. let same : i ≡ j = omega (arith, from, order) in omega (arith, ap (λ i. (get_or holds i d).order) same))
      (cases_lt i j)
      in
      grind (arith, nat_tests)

  -- it ends at the hold of that order, or there is none
  pub search-ends : (r : Result ℕ ℕ) → IsSearchInRange r (length holds) → IsBinarySearchResult (λ (x : Held). nat_cmp x.order n) holds r → result_ok r ≡ place_of_order holds n
  search-ends (Ok at) inside found =
      let here : (get_or holds at no_hold).order ≡ n = ranked _ n _ (sym (found no_hold)) in
      sym (position-at (λ (x : Held). nat_eq x.order n) holds no_hold at inside
      (λ k before. let less = lower-before k at no_hold before inside in grind (arith, nat_tests))
      (grind (arith, nat_tests)))
  search-ends (Err at) bound parted =
      let parts = parted comparisons-rise in
      sym (position-nowhere (λ (x : Held). nat_eq x.order n) holds no_hold (λ k inside.
      ⊎_elim
      (λ low. let less = ranked _ n _ (sym (parts.0 k no_hold (omega arith) low)) in grind (arith, nat_tests))
      (λ from. let more = ranked _ n _ (sym (parts.1 k no_hold from inside)) in grind (arith, nat_tests))
      (cases_lt k at)))

-- a hold more, a hold less

module _ (holds : List Held) (rise : IsStrictlyIncreasing (orders_of holds)) where
  pub orders-push : (x : Held) → All (λ n. n < x.order) (orders_of holds) → IsStrictlyIncreasing (orders_of (holds ++ x ∷ []))
  orders-push x above = subst IsStrictlyIncreasing (sym (map-append (λ (y : Held). y.order) holds (x ∷ []))) (rise-push (orders_of holds) rise x.order above)

  pub orders-remove : (i : ℕ) → i < length holds → IsStrictlyIncreasing (orders_of (remove holds i))
  orders-remove i inside =
      subst IsStrictlyIncreasing (sym (orders_of-remove holds i)) (rise-remove (orders_of holds) rise i (omega (arith, inside, length-map holds (λ (x : Held). x.order))))
