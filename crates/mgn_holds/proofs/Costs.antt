-- A hold of which a part is filled, and what its side may cost then: for `lessen`, and for fills of a row.
use Rattle.std.proofs.Common.{◌≡◌, ◌≢◌, ℕ, ◌≤◌, ◌<◌, List, length, set, get_or, refl, sym, ap, ◌∙◌, arith, true, false, Bool}
use Rattle.std.specs.Prelude.{ℤ, pos, ◌+ℤ◌, ◌-ℤ◌, unsigned_abs, not}
use Rattle.std.proofs.lemmas.Int.{ints}
use Rattle.mgn_num.proofs.SignedLemmas.{signed_sum_by-set, sum-*ℤ}
use Rattle.mgn_holds.specs.declared.side.Side.{Side}
use Rattle.mgn_holds.specs.declared.side.Side.TheVariants.{Buys, Sales}
use Rattle.mgn_holds.specs.declared.held.Held.{Held}
use Rattle.mgn_holds.specs.Holds.{IsHeld, is_buy, is_on, cost_on, held_cost, covers, premium, lessened}

-- fills of a part

-- what is filled and what is left are on the hold's side
pub same-side : (x : Held) (q : ℤ) → covers x q ≡ true → q ≢ x.quantity → (is_buy q ≡ is_buy x.quantity) × (is_buy (x.quantity -ℤ q) ≡ is_buy x.quantity)
same-side x q = by (is_buy x.quantity) refl
  where
    by : (b : Bool) → is_buy x.quantity ≡ b → covers x q ≡ true → q ≢ x.quantity → (is_buy q ≡ is_buy x.quantity) × (is_buy (x.quantity -ℤ q) ≡ is_buy x.quantity)
    by true e c part = (grind (arith, ints), grind (arith, ints))
    by false e c part = (grind (arith, ints), grind (arith, ints))

-- and smaller in size
pub part-le : (x : Held) (q : ℤ) → covers x q ≡ true → q ≢ x.quantity → (unsigned_abs q ≤ unsigned_abs x.quantity) × (unsigned_abs (x.quantity -ℤ q) ≤ unsigned_abs x.quantity) × (1 ≤ unsigned_abs (x.quantity -ℤ q))
part-le x q = by (is_buy x.quantity) refl
  where
    by : (b : Bool) → is_buy x.quantity ≡ b → covers x q ≡ true → q ≢ x.quantity → (unsigned_abs q ≤ unsigned_abs x.quantity) × (unsigned_abs (x.quantity -ℤ q) ≤ unsigned_abs x.quantity) × (1 ≤ unsigned_abs (x.quantity -ℤ q))
    by true e c part = (grind (arith, ints), grind (arith, ints), grind (arith, ints))
    by false e c part = (grind (arith, ints), grind (arith, ints), grind (arith, ints))

-- the costs of two quantities of one side are the cost of their sum
pub cost_on-split : (side : Side) (a b : ℤ) (limit : ℕ) → is_on side a ≡ is_on side (b +ℤ a) → is_on side b ≡ is_on side (b +ℤ a) → cost_on side (b +ℤ a) limit ≡ cost_on side a limit +ℤ cost_on side b limit
cost_on-split side a b limit = by (is_on side (b +ℤ a)) refl
  where
    by : (c : Bool) → is_on side (b +ℤ a) ≡ c → is_on side a ≡ is_on side (b +ℤ a) → is_on side b ≡ is_on side (b +ℤ a) → cost_on side (b +ℤ a) limit ≡ cost_on side a limit +ℤ cost_on side b limit
    by true e f g = rw (e, f ∙ e, g ∙ e) (omega (arith, ints, sum-*ℤ b a (pos limit)))
    by false e f g = rw (e, f ∙ e, g ∙ e) (omega (arith, ints))

is_on-same : (side : Side) (a b : ℤ) → is_buy a ≡ is_buy b → is_on side a ≡ is_on side b
is_on-same Buys a b e = e
is_on-same Sales a b e = ap not e

pub cost_on-part : (side : Side) (x : Held) (q : ℤ) → covers x q ≡ true → q ≢ x.quantity → held_cost side x ≡ cost_on side q x.limit +ℤ held_cost side (lessened x q)
cost_on-part side x q c part =
    let sum : (x.quantity -ℤ q) +ℤ q ≡ x.quantity = omega (arith, ints) in
    let sides = same-side x q c part in
    ap (λ (z : ℤ). cost_on side z x.limit) (sym sum)
    ∙ cost_on-split side q (x.quantity -ℤ q) x.limit (is_on-same side q ((x.quantity -ℤ q) +ℤ q) (sides.0 ∙ ap is_buy (sym sum))) (is_on-same side (x.quantity -ℤ q) ((x.quantity -ℤ q) +ℤ q) (sides.1 ∙ ap is_buy (sym sum)))

pub premium-lessened : (side : Side) (holds : List Held) (i : ℕ) (x : Held) (q : ℤ) → i < length holds → x ≡ get_or holds i x → covers x q ≡ true → q ≢ x.quantity
    → premium side (set holds i (lessened x q)) ≡ premium side holds -ℤ cost_on side q x.limit
premium-lessened side holds i x q inside is c part =
    omega (arith, ints, signed_sum_by-set (held_cost side) holds i (lessened x q) x inside, ap (held_cost side) is, cost_on-part side x q c part)

-- a hold of which a part is filled is within the limits
pub lessened-IsHeld : (x : Held) (q : ℤ) → IsHeld x → covers x q ≡ true → q ≢ x.quantity → IsHeld (lessened x q)
lessened-IsHeld x q limits c part =
    let sizes = part-le x q c part in
    record { some = sizes.2; most = omega (arith, sizes.1, limits.most); limit = limits.limit }
