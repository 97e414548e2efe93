-- The places of the spreads that credit something else, exact and in order: what `refresh` tells.
use Rattle.std.proofs.Common.{◌≡◌, ◌≢◌, ℕ, zero, suc, ◌+◌, ◌-◌, ◌<◌, ◌≤◌, Bool, true, false, List, [], ◌∷◌, ◌++◌, length, ap, ◌∙◌, sym, subst, arith, refl, ⊎_elim, All, length-append}
use Rattle.std.specs.Prelude.{if◌then◌else◌, not, ◌↔◌}
use Rattle.std.specs.Str.{bytes_eq}
use Rattle.std.specs.List.{Contains}
use Rattle.std.specs.List.Sorted.{IsStrictlyIncreasing}
use Rattle.std.proofs.lemmas.Bool.{cases_Bool, cases_eq, cases_lt, true≢false}
use Rattle.std.proofs.lemmas.Slice.Eq.{bytes_eq-Decides}
use Rattle.std.proofs.lemmas.List.Elements.{All-nil, All-push, All-weaker, All-get_or, Contains-append_left, Contains-push, Contains-push_cases}
use Rattle.std.proofs.lemmas.Grind.{common_steps}
use Rattle.mgn_inter.specs.declared.spread_state.SpreadState.{SpreadState}
use Rattle.mgn_inter.specs.Rows.{kept_at}
use Rattle.mgn_inter.specs.Told.{credits_at, credits_else, places_where, told_of}

-- the second of a choice by a Bool
pub if_false : {X : Type 0} (b : Bool) (x y : X) → b ≡ false → (if b then x else y) ≡ y
if_false b x y h = rw h refl

-- tests that agree below a number have the same places there
pub places_same : (p q : ℕ → Bool) (n : ℕ) → ((i : ℕ) → i < n → p i ≡ q i) → places_where p n ≡ places_where q n
places_same p q zero same = refl
places_same p q (suc n) same =
    let before = places_same p q n (λ i low. same i (omega arith)) in
    rw (before, same n (omega arith)) refl

pub places_more : (p : ℕ → Bool) (i n : ℕ) → ((k : ℕ) → i ≤ k → k < i + n → p k ≡ false) → places_where p (i + n) ≡ places_where p i
places_more p i zero none = ap (λ (m : ℕ). places_where p m) (omega arith)
places_more p i (suc n) none =
    let there : i + suc n ≡ suc (i + n) = omega arith in
    ap (λ (m : ℕ). places_where p m) there
    ∙ if_false (p (i + n)) (places_where p (i + n) ++ (i + n) ∷ []) (places_where p (i + n)) (none (i + n) (omega arith) (omega arith))
    ∙ places_more p i n (λ k from low. none k from (omega arith))

pub places_below : (p : ℕ → Bool) (n : ℕ) → All (λ k. k < n) (places_where p n)
places_below p zero = All-nil (λ (k : ℕ). k < 0)
places_below p (suc n) =
    let before : All (λ k. k < suc n) (places_where p n) = All-weaker (λ (k : ℕ). k < n) (λ (k : ℕ). k < suc n) (λ k low. omega arith) (places_where p n) (places_below p n) in
    ⊎_elim
    (λ (yes : p n ≡ true). rw yes (All-push (λ (k : ℕ). k < suc n) (places_where p n) n before (omega arith)))
    (λ (no : p n ≡ false). rw no before)
    (cases_Bool (p n))

rising_push : (xs : List ℕ) (n : ℕ) → All (λ k. k < n) xs → IsStrictlyIncreasing xs → IsStrictlyIncreasing (xs ++ n ∷ [])
rising_push xs n below rising =
    λ k inside.
    let long : length (xs ++ n ∷ []) ≡ length xs + 1 = length-append xs (n ∷ []) in
    ⊎_elim
    (λ (low : k + 1 < length xs). grind (arith, common_steps, rising k low))
    (λ (last : length xs ≤ k + 1). grind (arith, common_steps, All-get_or (λ (m : ℕ). m < n) xs k 0 (omega arith) below))
    (cases_lt (k + 1) (length xs))

pub places_rise : (p : ℕ → Bool) (n : ℕ) → IsStrictlyIncreasing (places_where p n)
places_rise p zero = λ k inside. absurd (omega arith)
places_rise p (suc n) =
    ⊎_elim
    (λ (yes : p n ≡ true). rw yes (rising_push (places_where p n) n (places_below p n) (places_rise p n)))
    (λ (no : p n ≡ false). rw no (places_rise p n))
    (cases_Bool (p n))

pub places_have : (p : ℕ → Bool) (n i : ℕ) → i < n → p i ≡ true → Contains (places_where p n) i
places_have p zero i low is = absurd (omega arith)
places_have p (suc n) i low is =
    ⊎_elim
    (λ (own : i ≡ n). rw (sym own, is) (Contains-push (places_where p i) i))
    (λ (other : i ≢ n).
    let before = places_have p n i (omega arith) is in
    ⊎_elim
    (λ (yes : p n ≡ true). rw yes (Contains-append_left (places_where p n) (n ∷ []) i before))
    (λ (no : p n ≡ false). rw no before)
    (cases_Bool (p n)))
    (cases_eq i n)

pub places_only : (p : ℕ → Bool) (n i : ℕ) → Contains (places_where p n) i → p i ≡ true
places_only p zero i there = absurd (omega (arith, there.1))
places_only p (suc n) i there =
    ⊎_elim
    (λ (yes : p n ≡ true).
    ⊎_elim
    (λ (before : Contains (places_where p n) i). places_only p n i before)
    (λ (own : n ≡ i). ap p (sym own) ∙ yes)
    (Contains-push_cases (places_where p n) n i (rw yes at there)))
    (λ (no : p n ≡ false). places_only p n i (rw no at there))
    (cases_Bool (p n))

-- whether a spread credits something else
pub else_not : (was now : List SpreadState) (i : ℕ) → credits_at now i ≡ credits_at was i → credits_else was now i ≡ false
else_not was now i same = ap not ((bytes_eq-Decides (credits_at was i) (credits_at now i)).1 (sym same))

not_no : (b : Bool) → not b ≡ false → b ≡ true
not_no true h = refl
not_no false h = sym h

else_yes : (was now : List SpreadState) (i : ℕ) → credits_at now i ≢ credits_at was i → credits_else was now i ≡ true
else_yes was now i other =
    ⊎_elim
    (λ (yes : credits_else was now i ≡ true). yes)
    (λ (no : credits_else was now i ≡ false). absurd (other (sym ((bytes_eq-Decides (credits_at was i) (credits_at now i)).0 (not_no (bytes_eq (credits_at was i) (credits_at now i)) no)))))
    (cases_Bool (credits_else was now i))

pub told_exact : (was now : List SpreadState) (count i : ℕ) → i < count → Contains (told_of was now count) i ↔ (credits_at now i ≢ credits_at was i)
told_exact was now count i low = (
  λ there same. true≢false (sym (places_only (credits_else was now) count i there) ∙ else_not was now i same),
  λ other. places_have (credits_else was now) count i low (else_yes was now i other),
)

pub told_once : (was now : List SpreadState) (count : ℕ) (places : List ℕ) → places ≡ told_of was now count → IsStrictlyIncreasing places
told_once was now count places is =
    subst (λ (xs : List ℕ). IsStrictlyIncreasing xs) (sym is) (places_rise (credits_else was now) count)

pub told_are : (was now : List SpreadState) (count : ℕ) (places : List ℕ) → places ≡ told_of was now count → (i : ℕ) → i < count → Contains places i ↔ (credits_at now i ≢ credits_at was i)
told_are was now count places is i low =
    subst (λ (xs : List ℕ). Contains xs i ↔ (credits_at now i ≢ credits_at was i)) (sym is) (told_exact was now count i low)

-- no place, where nothing has changed
pub told_none : (kept : List SpreadState) (count : ℕ) → [] ≡ told_of kept kept count
told_none kept count =
    let none = places_more (credits_else kept kept) 0 count (λ k from low. else_not kept kept k refl) in
    sym (ap (λ (m : ℕ). told_of kept kept m) (omega arith) ∙ none)

pub told_alike : (was now : List SpreadState) (count : ℕ) → ((j : ℕ) → credits_at now j ≡ credits_at was j) → [] ≡ told_of was now count
told_alike was now count same =
    let none = places_more (credits_else was now) 0 count (λ k from low. else_not was now k (same k)) in
    sym (ap (λ (m : ℕ). told_of was now m) (omega arith) ∙ none)

-- the places after one more spread, and those behind it that stay as they were
pub told_next : (was old now : List SpreadState) (i next : ℕ) (places more : List ℕ) → i + 1 ≤ next → ((j : ℕ) → i ≤ j → kept_at old j ≡ kept_at was j) → ((j : ℕ) → j ≢ i → kept_at now j ≡ kept_at old j) → places ≡ told_of was old i → more ≡ (if credits_else old now i then places ++ i ∷ [] else places) → more ≡ told_of was now next
told_next was old now i next places more behind left others are is =
    let before : told_of was now i ≡ places =
    places_same (credits_else was now) (credits_else was old) i (λ k low. ap (λ (x : SpreadState). not (bytes_eq (credits_at was k) x.credits)) (others k (λ e. omega (arith, e, low)))) ∙ sym are in
    let own : credits_else was now i ≡ credits_else old now i =
    ap (λ (x : SpreadState). not (bytes_eq x.credits (credits_at now i))) (sym (left i (omega arith))) in
    let here : told_of was now (suc i) ≡ more =
    rw (before, own) (sym is) in
    let there : suc i + (next - suc i) ≡ next = omega (arith, behind) in
    let rest = places_more (credits_else was now) (suc i) (next - suc i) (λ k from low. else_not was now k (ap (λ (x : SpreadState). x.credits) (others k (λ e. omega (arith, e, from)) ∙ left k (omega (arith, from))))) in
    sym here ∙ sym rest ∙ ap (λ (m : ℕ). told_of was now m) there
