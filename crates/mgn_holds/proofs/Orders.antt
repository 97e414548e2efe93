-- The orders of the holds are distinct, so that `at` and `release` find each hold by its own.
use Rattle.std.proofs.Common.{◌≡◌, ℕ, zero, suc, ◌<◌, ◌≤◌, List, [], ◌∷◌, length, get_or, refl, sym, ap, ◌∙◌, arith, true, false, Bool, Some, None, nat_eq, cond}
use Rattle.std.specs.Prelude.{remove, nat_lt}
use Rattle.std.specs.List.{list_any, position_or_len, IsDistinct, AllByRecursion}
use Rattle.std.proofs.lemmas.Cmp.{nat_eq_equiv}
use Rattle.std.proofs.lemmas.Bool.Decides.{nat_tests}
use Rattle.std.proofs.lemmas.List.{get_or-map, length-map}
use Rattle.std.proofs.lemmas.List.Sums.{position_or_len_is, fails_before_first}
use Rattle.std.proofs.lemmas.Map.Keys.{IsDistinct-head, IsDistinct-tail, IsDistinct-cons, apart_from_distinct}
use Rattle.mgn_holds.specs.declared.held.Held.{Held}
use Rattle.mgn_holds.specs.Holds.{orders_of, place_of_order, has_order}

-- one hold less

all-remove : (P : ℕ → Type 0) (ks : List ℕ) (i : ℕ) → AllByRecursion P ks → AllByRecursion P (remove ks i)
all-remove P [] zero all = all
all-remove P [] (suc i) all = all
all-remove P (k ∷ ks) zero all = all.1
all-remove P (k ∷ ks) (suc i) all = (all.0, all-remove P ks i all.1)

pub IsDistinct-remove : (ks : List ℕ) (i : ℕ) → IsDistinct nat_eq ks → IsDistinct nat_eq (remove ks i)
IsDistinct-remove [] zero apart = apart
IsDistinct-remove [] (suc i) apart = apart
IsDistinct-remove (k ∷ ks) zero apart = IsDistinct-tail nat_eq k ks apart
IsDistinct-remove (k ∷ ks) (suc i) apart =
    IsDistinct-cons nat_eq k (remove ks i) (all-remove (λ y. nat_eq k y ≡ false) ks i (IsDistinct-head nat_eq k ks apart)) (IsDistinct-remove ks i (IsDistinct-tail nat_eq k ks apart))

pub orders_of-remove : (holds : List Held) (i : ℕ) → orders_of (remove holds i) ≡ remove (orders_of holds) i
orders_of-remove [] zero = refl
orders_of-remove [] (suc i) = refl
orders_of-remove (x ∷ holds) zero = refl
orders_of-remove (x ∷ holds) (suc i) = ap (λ (ks : List ℕ). x.order ∷ ks) (orders_of-remove holds i)

-- one hold more

none-is : (order : ℕ) (holds : List Held) (d : Held) → ((k : ℕ) → k < length holds → nat_eq (get_or holds k d).order order ≡ false) → list_any (nat_eq order) (orders_of holds) ≡ false
none-is order [] d apart = refl
none-is order (x ∷ holds) d apart =
    rw (nat_eq_equiv.symm order x.order ∙ apart 0 (omega arith)) (none-is order holds d (λ k inside. apart (suc k) (omega arith)))

pub absent-order : (holds : List Held) (order : ℕ) (d : Held) → has_order holds order ≡ false → list_any (nat_eq order) (orders_of holds) ≡ false
absent-order holds order d absent =
    none-is order holds d (λ k inside. fails_before_first test holds k d (omega (arith, inside, all (nat_lt (position_or_len test holds) (length holds)) refl)))
  where
    test : Held → Bool
    test x = nat_eq x.order order

    all : (b : Bool) → nat_lt (position_or_len test holds) (length holds) ≡ b → length holds ≤ position_or_len test holds
    all true e = absurd (cc (e, absent))
    all false e = grind (arith, nat_tests)

-- the place of a hold

pub place_of_order-own : (holds : List Held) (i : ℕ) (d : Held) → IsDistinct nat_eq (orders_of holds) → i < length holds → place_of_order holds (get_or holds i d).order ≡ Some i
place_of_order-own holds i d distinct inside =
    ap (λ (n : ℕ). cond (nat_lt n (length holds)) (Some n) None) first ∙ rw (low) refl
  where
    test : Held → Bool
    test x = nat_eq x.order (get_or holds i d).order

    low : nat_lt i (length holds) ≡ true
    low = grind (arith, nat_tests)

    order_at : (k : ℕ) → k < length holds → get_or (orders_of holds) k 0 ≡ (get_or holds k d).order
    order_at k here = get_or-map (λ (x : Held). x.order) holds k d 0 here

    first : position_or_len test holds ≡ i
    first =
        position_or_len_is test holds i d (omega arith)
        (λ k below.
        sym (λ j. nat_eq (order_at k (omega arith) j) (order_at i inside j)) ∙ apart_from_distinct nat_eq (orders_of holds) k i 0 distinct below (omega (arith, length-map holds (λ (x : Held). x.order))))
        (λ _. nat_eq_equiv.refl (get_or holds i d).order)
