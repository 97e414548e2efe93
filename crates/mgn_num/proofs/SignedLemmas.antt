-- Laws of sums and products of signed numbers, for the loops that add them up and for changes of one item.
use Rattle.std.proofs.Common.{◌+◌, add-one, refl, ◌≡◌, ℕ, zero, suc, ◌*◌, ◌<◌, ◌≤◌, List, [], ◌∷◌, length, set, get_or, ◌∙◌, sym, ap, arith, fold}
use Rattle.std.specs.Prelude.{ℤ, pos, negsuc, ◌+ℤ◌, ◌-ℤ◌, ◌*ℤ◌, unsigned_abs}
use Rattle.std.proofs.Math.IntN.{pred_ℤ, suc_ℤ-*ℤ, pred_ℤ-*ℤ, +ℤ_idr, zero-*ℤ, +ℤ_assoc, +ℤ-suc_ℤ, +ℤ-pred_ℤ}
use Rattle.std.proofs.lemmas.Int.{ints, unsigned_abs-mul}
use Rattle.std.proofs.Math.Nat.{mul-le-mul}
use Rattle.mgn_num.specs.Signed.{signed_sum_by, signed_sum_below, sum_below}

-- sums, item by item

-- a sum that starts at another number
pub signed_sum_by_from : {X : Type 0} (f : X → ℤ) → (start : ℤ) (xs : List X) → fold (λ total x. total +ℤ f x) start xs ≡ start +ℤ signed_sum_by f xs
signed_sum_by_from f start [] = omega (arith, ints)
signed_sum_by_from f start (x ∷ xs) =
    omega (arith, ints, signed_sum_by_from f (start +ℤ f x) xs, signed_sum_by_from f (pos 0 +ℤ f x) xs)

-- the first item counts beside the others
pub signed_sum_by-cons : {X : Type 0} (f : X → ℤ) → (x : X) (xs : List X) → signed_sum_by f (x ∷ xs) ≡ f x +ℤ signed_sum_by f xs
signed_sum_by-cons f x xs = omega (arith, ints, signed_sum_by_from f (pos 0 +ℤ f x) xs)

-- where one item is written, the sum changes by the difference of the two counts
pub signed_sum_by-set : {X : Type 0} (f : X → ℤ) → (xs : List X) (i : ℕ) (y d : X) → i < length xs → signed_sum_by f (set xs i y) +ℤ f (get_or xs i d) ≡ signed_sum_by f xs +ℤ f y
signed_sum_by-set f [] i y d inside = absurd (omega arith)
signed_sum_by-set f (x ∷ xs) zero y d inside =
    omega (arith, ints, signed_sum_by-cons f x xs, signed_sum_by-cons f y xs)
signed_sum_by-set f (x ∷ xs) (suc i) y d inside =
    omega (arith, ints, signed_sum_by-cons f x xs, signed_sum_by-cons f x (set xs i y), signed_sum_by-set f xs i y d (omega arith))

-- sums over numbers below a bound, one number further
pub signed_sum_below_more : (f : ℕ → ℤ) (n : ℕ) → signed_sum_below f (n + 1) ≡ signed_sum_below f n +ℤ f n
signed_sum_below_more f n = rw add-one refl

pub sum_below_more : (f : ℕ → ℕ) (n : ℕ) → sum_below f (n + 1) ≡ sum_below f n + f n
sum_below_more f n = rw add-one refl

-- products

-- a sum times a number
pub sum-*ℤ : (a b c : ℤ) → (a +ℤ b) *ℤ c ≡ a *ℤ c +ℤ b *ℤ c
sum-*ℤ a (pos zero) c =
    ap (λ x. x *ℤ c) (+ℤ_idr a) ∙ sym (ap (λ x. a *ℤ c +ℤ x) (zero-*ℤ c) ∙ +ℤ_idr (a *ℤ c))
sum-*ℤ a (pos (suc n)) c =
    ap (λ x. x *ℤ c) (+ℤ-suc_ℤ a (pos n)) ∙ suc_ℤ-*ℤ (a +ℤ pos n) c ∙ ap (λ x. x +ℤ c) (sum-*ℤ a (pos n) c) ∙ +ℤ_assoc (a *ℤ c) (pos n *ℤ c) c ∙ ap (λ x. a *ℤ c +ℤ x) (sym (suc_ℤ-*ℤ (pos n) c))
sum-*ℤ a (negsuc zero) c =
    ap (λ x. x *ℤ c) (+ℤ-pred_ℤ a (pos 0) ∙ ap pred_ℤ (+ℤ_idr a)) ∙ pred_ℤ-*ℤ a c ∙ sym (ap (λ x. a *ℤ c +ℤ x) (pred_ℤ-*ℤ (pos 0) c ∙ ap (λ x. x -ℤ c) (zero-*ℤ c)) ∙ omega (arith, ints))
sum-*ℤ a (negsuc (suc n)) c =
    ap (λ x. x *ℤ c) (+ℤ-pred_ℤ a (negsuc n)) ∙ pred_ℤ-*ℤ (a +ℤ negsuc n) c ∙ ap (λ x. x -ℤ c) (sum-*ℤ a (negsuc n) c) ∙ sym (ap (λ x. a *ℤ c +ℤ x) (pred_ℤ-*ℤ (negsuc n) c) ∙ omega (arith, ints))

-- a product of two numbers of bounded size
pub size-*ℤ-le : (a b : ℤ) (m n : ℕ) → unsigned_abs a ≤ m → unsigned_abs b ≤ n → unsigned_abs (a *ℤ b) ≤ m * n
size-*ℤ-le a b m n first second = rw (unsigned_abs-mul a b) (mul-le-mul first second)
