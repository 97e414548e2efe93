-- Sums of signed numbers, one item more or less, and their size: for nets, and for rows of units.
use Rattle.std.proofs.Common.{◌≡◌, ℕ, zero, suc, ◌≤◌, ◌<◌, List, [], ◌∷◌, ◌++◌, length, get_or, arith}
use Rattle.std.specs.Prelude.{ℤ, pos, ◌+ℤ◌, unsigned_abs, remove}
use Rattle.std.specs.List.{sum_by}
use Rattle.std.proofs.lemmas.Int.{ints}
use Rattle.std.proofs.lemmas.List.Sums.{fold-append, sum_by-cons}
use Rattle.mgn_num.specs.Signed.{signed_sum_by}
use Rattle.mgn_num.proofs.SignedLemmas.{signed_sum_by-cons}

-- one item more
pub signed_sum_by-push : {X : Type 0} (f : X → ℤ) → (xs : List X) (y : X) → signed_sum_by f (xs ++ y ∷ []) ≡ signed_sum_by f xs +ℤ f y
signed_sum_by-push f xs y = fold-append (λ total x. total +ℤ f x) (pos 0) xs (y ∷ [])

-- one item less
pub signed_sum_by-remove : {X : Type 0} (f : X → ℤ) → (xs : List X) (i : ℕ) (d : X) → i < length xs → signed_sum_by f (remove xs i) +ℤ f (get_or xs i d) ≡ signed_sum_by f xs
signed_sum_by-remove f [] i d inside = absurd (omega arith)
signed_sum_by-remove f (x ∷ xs) zero d inside = omega (arith, ints, signed_sum_by-cons f x xs)
signed_sum_by-remove f (x ∷ xs) (suc i) d inside =
    omega (arith, ints, signed_sum_by-cons f x xs, signed_sum_by-cons f x (remove xs i), signed_sum_by-remove f xs i d (omega arith))

-- a sum is no larger than the sum of the sizes
pub size-signed_sum_by : {X : Type 0} (f : X → ℤ) → (xs : List X) → unsigned_abs (signed_sum_by f xs) ≤ sum_by (λ x. unsigned_abs (f x)) xs
size-signed_sum_by f [] = omega arith
size-signed_sum_by f (x ∷ xs) =
    omega (arith, ints, signed_sum_by-cons f x xs, sum_by-cons (λ x. unsigned_abs (f x)) x xs, size-signed_sum_by f xs)
