-- What single lots count for, and what a change of one does to the net and the gross of a contract: for rows.
use Rattle.std.proofs.Common.{◌≡◌, ℕ, zero, suc, ◌+◌, ◌≤◌, ◌<◌, List, [], ◌∷◌, ◌++◌, length, set, get_or, refl, ap, ◌∙◌, arith, true, false, Bool}
use Rattle.std.specs.Prelude.{pos, ◌+ℤ◌, unsigned_abs}
use Rattle.std.specs.Str.{bytes_eq}
use Rattle.std.specs.List.{sum_by}
use Rattle.std.proofs.lemmas.Int.{ints}
use Rattle.std.proofs.lemmas.List.Sums.{sum_by-cons, sum_by_push, sum_by-set}
use Rattle.std.proofs.lemmas.Slice.Eq.{bytes_eq-Decides}
use Rattle.mgn_num.proofs.SignedLemmas.{signed_sum_by-set}
use Rattle.mgn_num.proofs.SignedEdits.{signed_sum_by-push, size-signed_sum_by}
use Rattle.mgn_lots.specs.declared.lot.Lot.{Lot}
use Rattle.mgn_lots.specs.Lots.{is_live, live_quantity, lot_share, net, gross, busted}

-- sums

-- an item is no larger than the sum of all
pub item-le-sum_by : {X : Type 0} (f : X → ℕ) → (xs : List X) (i : ℕ) (d : X) → i < length xs → f (get_or xs i d) ≤ sum_by f xs
item-le-sum_by f [] i d inside = absurd (omega arith)
item-le-sum_by f (x ∷ xs) zero d inside = omega (arith, sum_by-cons f x xs)
item-le-sum_by f (x ∷ xs) (suc i) d inside = omega (arith, sum_by-cons f x xs, item-le-sum_by f xs i d (omega arith))

-- one lot

-- bytes are the same as themselves
pub bytes_eq-same : (xs : List ℕ) → bytes_eq xs xs ≡ true
bytes_eq-same xs = (bytes_eq-Decides xs xs).1 refl

pub live_quantity-le : (x : Lot) → unsigned_abs (live_quantity x) ≤ unsigned_abs x.quantity
live_quantity-le x = by (is_live x.mark) refl
  where
    by : (b : Bool) → is_live x.mark ≡ b → unsigned_abs (live_quantity x) ≤ unsigned_abs x.quantity
    by true e = rw e (omega arith)
    by false e = rw e (omega arith)

pub lot_share-own : (x : Lot) → lot_share x.contract x ≡ live_quantity x
lot_share-own x = rw (bytes_eq-same x.contract) refl

pub lot_share-busted : (contract : List ℕ) (x : Lot) → lot_share contract (busted x) ≡ pos 0
lot_share-busted contract x = by (bytes_eq x.contract contract) refl
  where
    by : (b : Bool) → bytes_eq x.contract contract ≡ b → lot_share contract (busted x) ≡ pos 0
    by true e = rw e refl
    by false e = rw e refl

-- the lots

-- the net of a contract is no larger than its gross
pub net-le-gross : (contract : List ℕ) (lots : List Lot) → unsigned_abs (net contract lots) ≤ gross contract lots
net-le-gross contract lots = size-signed_sum_by (lot_share contract) lots

-- a lot more
pub net-push : (contract : List ℕ) (lots : List Lot) (x : Lot) → net contract (lots ++ x ∷ []) ≡ net contract lots +ℤ lot_share contract x
net-push contract lots x = signed_sum_by-push (lot_share contract) lots x

pub gross-push : (contract : List ℕ) (lots : List Lot) (x : Lot) → gross contract (lots ++ x ∷ []) ≡ gross contract lots + unsigned_abs (lot_share contract x)
gross-push contract lots x = sum_by_push (λ (x : Lot). unsigned_abs (lot_share contract x)) lots x

-- a lot that is busted
pub net-busted : (contract : List ℕ) (lots : List Lot) (i : ℕ) (x : Lot) → i < length lots → x ≡ get_or lots i x → net contract (set lots i (busted x)) +ℤ lot_share contract x ≡ net contract lots
net-busted contract lots i x inside is =
    let moved : net contract (set lots i (busted x)) +ℤ lot_share contract (get_or lots i x) ≡ net contract lots +ℤ lot_share contract (busted x) =
    signed_sum_by-set (lot_share contract) lots i (busted x) x inside
    in
    omega (arith, ints, moved, ap (lot_share contract) is, lot_share-busted contract x)

pub gross-busted : (contract : List ℕ) (lots : List Lot) (i : ℕ) (x : Lot) → i < length lots → x ≡ get_or lots i x
    → gross contract (set lots i (busted x)) + unsigned_abs (lot_share contract x) ≡ gross contract lots
gross-busted contract lots i x inside is =
    let size : Lot → ℕ = λ x. unsigned_abs (lot_share contract x) in
    let moved : gross contract (set lots i (busted x)) + unsigned_abs (lot_share contract (get_or lots i x)) ≡ gross contract lots + unsigned_abs (lot_share contract (busted x)) =
    sum_by-set size lots i (busted x) x inside
    in
    omega (arith, moved, ap size is, ap unsigned_abs (lot_share-busted contract x))

pub gross-holds : (lots : List Lot) (i : ℕ) (x : Lot) → i < length lots → x ≡ get_or lots i x → is_live x.mark ≡ true → unsigned_abs x.quantity ≤ gross x.contract lots
gross-holds lots i x inside is live =
    let size : Lot → ℕ = λ y. unsigned_abs (lot_share x.contract y) in
    let own : lot_share x.contract x ≡ x.quantity = lot_share-own x ∙ (rw live refl) in
    omega (arith, item-le-sum_by size lots i x inside, ap size is, ap unsigned_abs own)
