-- What a fill does to one account, as a change of the rows: for fills of a register.
use Rattle.std.proofs.Common.{◌≡◌, ◌≢◌, ℕ, ◌+◌, ◌<◌, ◌≤◌, List, [], ◌∷◌, length, set, get_or, Bool, true, false, refl, sym, ap, ◌∙◌, subst, arith, length-append, length-set, All}
use Rattle.std.specs.Prelude.{ℤ, pos, neg_ℤ, ◌+ℤ◌, ◌-ℤ◌, ◌*ℤ◌, if◌then◌else◌, unsigned_abs, remove}
use Rattle.std.specs.Ordering.{int_eq}
use Rattle.std.specs.Str.{bytes_eq}
use Rattle.std.proofs.lemmas.Bool.Decides.{Decides-int_eq}
use Rattle.std.proofs.lemmas.Int.{ints}
use Rattle.std.proofs.lemmas.List.{get_or_default}
use Rattle.std.proofs.lemmas.List.Edits.{length-remove}
use Rattle.std.proofs.lemmas.List.Elements.{All-push, All-set, All-get_or}
use Rattle.std.proofs.lemmas.List.Sums.{sum_by-set}
use Rattle.mgn_num.proofs.SignedLemmas.{signed_sum_by-set}
use Rattle.mgn_params.specs.Tables.{Tables}
use Rattle.mgn_lots.specs.Lots.{IsLot}
use Rattle.mgn_holds.specs.declared.held.Held.{Held}
use Rattle.mgn_holds.specs.declared.side.Side.{Side}
use Rattle.mgn_holds.specs.declared.side.Side.TheVariants.{Buys, Sales}
use Rattle.mgn_holds.specs.Holds.{IsHeld, is_buy, held_share, hold_at, no_hold, lessened, filled_at, cost_on, covers}
use Rattle.mgn_holds.proofs.Costs.{same-side, premium-lessened, lessened-IsHeld}
use Rattle.mgn_unit.specs.declared.change.Change.{Change}
use Rattle.mgn_machine.specs.State.{AccountState, IsAccount, traded_lot}
use Rattle.mgn_unit.specs.Changes.{held_change, fill_change, Moves, gain, gain_of, lot_change}
use Rattle.mgn_machine.specs.declared.command.Fill.{Fill}
use Rattle.mgn_machine.specs.Holding.{fill_of}
use Rattle.mgn_machine.specs.Portfolios.{Portfolio, OnlyLots, WithBuys, WithSales, WithAll, account_net, account_worth}
use Rattle.mgn_unit.proofs.AccountMoves.{traded-moves}
use Rattle.mgn_unit.proofs.HoldMoves.{HoldsMove, side_is, size_in, holds-moves, remove-moves, All-removed, negated-if, negated-if_both}

-- A part of a hold.

split : (b t : Bool) (z q : ℤ) → (if b then (if t then z else pos 0) else pos 0) ≡ (if b then (if t then q else pos 0) else pos 0) +ℤ (if b then (if t then z -ℤ q else pos 0) else pos 0)
split true true z q = omega (arith, ints)
split true false z q = refl
split false t z q = refl

share-part : (side : Side) (c : List ℕ) (x : Held) (q : ℤ) → is_buy q ≡ is_buy x.quantity → is_buy (x.quantity -ℤ q) ≡ is_buy x.quantity → held_share side c x ≡ (if bytes_eq x.contract c then (if side_is side (is_buy q) then q else pos 0) else pos 0) +ℤ held_share side c (lessened x q)
share-part Buys c x q part rest =
    split (bytes_eq x.contract c) (is_buy x.quantity) x.quantity q
    ∙ (λ i. (if bytes_eq x.contract c then (if sym part i then q else pos 0) else pos 0) +ℤ (if bytes_eq x.contract c then (if sym rest i then x.quantity -ℤ q else pos 0) else pos 0))
share-part Sales c x q part rest =
    split (bytes_eq x.contract c) (side_is Sales (is_buy x.quantity)) x.quantity q
    ∙ (λ i. (if bytes_eq x.contract c then (if side_is Sales (sym part i) then q else pos 0) else pos 0) +ℤ (if bytes_eq x.contract c then (if side_is Sales (sym rest i) then x.quantity -ℤ q else pos 0) else pos 0))

size-part : (x : Held) (q : ℤ) → covers x q ≡ true → unsigned_abs x.quantity ≡ unsigned_abs q + unsigned_abs (x.quantity -ℤ q)
size-part x q = by (is_buy x.quantity) refl
  where
    by : (b : Bool) → is_buy x.quantity ≡ b → covers x q ≡ true → unsigned_abs x.quantity ≡ unsigned_abs q + unsigned_abs (x.quantity -ℤ q)
    by true e c = grind (arith, ints)
    by false e c = grind (arith, ints)

cost-by : (side : Side) (q : ℤ) (limit : ℕ) → cost_on side q limit ≡ (if side_is side (is_buy q) then q *ℤ pos limit else pos 0)
cost-by Buys q limit = refl
cost-by Sales q limit = refl

counted-part : (b : Bool) (whole part rest : ℕ) → whole ≡ part + rest → pos (if b then whole else 0) ≡ (if b then pos part else pos 0) +ℤ pos (if b then rest else 0)
counted-part true whole part rest e = omega (arith, ints, e)
counted-part false whole part rest e = omega (arith, ints)

-- part of a hold less
lessen-moves : (old : List Held) (j : ℕ) (x : Held) (q : ℤ) → j < length old → x ≡ get_or old j x → covers x q ≡ true → q ≢ x.quantity → HoldsMove x.contract (is_buy q) (neg_ℤ q) (q *ℤ pos x.limit) (neg_ℤ (pos (unsigned_abs q))) old (set old j (lessened x q))
lessen-moves old j x q inside is c part = record {
  net = λ side d.
      omega (
        arith,
        ints,
        signed_sum_by-set (held_share side d) old j (lessened x q) x inside,
        ap (held_share side d) is,
        share-part side d x q (same-side x q c part).0 (same-side x q c part).1,
        negated-if_both (bytes_eq x.contract d) (side_is side (is_buy q)) q,
      );
  premium_is = λ side. omega (arith, ints, premium-lessened side old j x q inside is c part, cost-by side q x.limit);
  size_is = λ d.
      omega (
        arith,
        ints,
        sum_by-set (size_in d) old j (lessened x q) x inside,
        ap (size_in d) is,
        counted-part (bytes_eq x.contract d) (unsigned_abs x.quantity) (unsigned_abs q) (unsigned_abs (x.quantity -ℤ q)) (size-part x q c),
        negated-if (bytes_eq x.contract d) (pos (unsigned_abs q)),
      );
}

-- a fill takes as much off the holds
filled-moves : (old : List Held) (j : ℕ) (q : ℤ) → j < length old → covers (hold_at old j) q ≡ true → HoldsMove (hold_at old j).contract (is_buy q) (neg_ℤ q) (q *ℤ pos (hold_at old j).limit) (neg_ℤ (pos (unsigned_abs q))) old (filled_at old j q)
filled-moves old j q inside c = by (int_eq q x.quantity) refl
  where
    x : Held
    x = hold_at old j

    is : x ≡ get_or old j x
    is = sym (get_or_default old j x no_hold inside)

    by : (b : Bool) → int_eq q x.quantity ≡ b → HoldsMove x.contract (is_buy q) (neg_ℤ q) (q *ℤ pos x.limit) (neg_ℤ (pos (unsigned_abs q))) old (if b then remove old j else set old j (lessened x q))
    by true e =
        subst (λ (z : ℤ). HoldsMove x.contract (is_buy z) (neg_ℤ z) (z *ℤ pos x.limit) (neg_ℤ (pos (unsigned_abs z))) old (remove old j)) (sym ((Decides-int_eq q x.quantity).0 e))
        (remove-moves old j x inside is)
    by false e = lessen-moves old j x q inside is c (λ (same : q ≡ x.quantity). let yes = (Decides-int_eq q x.quantity).1 same in cc)

-- FILL

pub fill-moves : (set' : Tables) (a : AccountState) (i j : ℕ) (f : Fill) → j < length a.holds → covers (hold_at a.holds j) f.quantity ≡ true → Moves set' (hold_at a.holds j).contract (fill_change i f.quantity (hold_at a.holds j).limit f.premium) a (fill_of a j f)
fill-moves set' a i j f inside c = record {
  unit = refl;
  size = λ d. omega (arith, ints, off.size d, on.size d, negated-if (bytes_eq x.contract d) (pos (unsigned_abs f.quantity)), none (bytes_eq x.contract d));
  net = λ p d. nets p d (is_buy f.quantity) (bytes_eq x.contract d) (off.net p d) (on.net p d);
  worth = λ p. worths p (is_buy f.quantity) (off.worth p) (on.worth p);
}
  where
    x : Held
    x = hold_at a.holds j

    between : AccountState
    between = record a { holds = filled_at a.holds j f.quantity }

    after : AccountState
    after = fill_of a j f

    paid : ℤ
    paid = neg_ℤ (f.quantity *ℤ pos f.premium)

    less : Bool → Change
    less t = held_change i (neg_ℤ (pos (unsigned_abs f.quantity))) t (gain (pos 0) (pos 0)) (gain (neg_ℤ f.quantity) (f.quantity *ℤ pos x.limit))

    whole : Bool → Change
    whole t = held_change i (pos 0) t (gain f.quantity paid) (gain (pos 0) (paid +ℤ f.quantity *ℤ pos x.limit))

    off : Moves set' x.contract (held_change i (neg_ℤ (pos (unsigned_abs f.quantity))) (is_buy f.quantity) (gain (pos 0) (pos 0)) (gain (neg_ℤ f.quantity) (f.quantity *ℤ pos x.limit))) a between
    off = holds-moves set' a x.contract i (is_buy f.quantity) (neg_ℤ f.quantity) (f.quantity *ℤ pos x.limit) (neg_ℤ (pos (unsigned_abs f.quantity))) (filled_at a.holds j f.quantity) (filled-moves a.holds j f.quantity inside c)

    on : Moves set' x.contract (lot_change i f.quantity f.premium) between after
    on = traded-moves set' between f.lot x.contract i f.quantity f.premium

    none : (b : Bool) → (if b then pos 0 else pos 0) ≡ pos 0
    none true = refl
    none false = refl

    sum-by : (b : Bool) (e f g : ℤ) → g ≡ e +ℤ f → (if b then g else pos 0) ≡ (if b then e else pos 0) +ℤ (if b then f else pos 0)
    sum-by true e f g is = is
    sum-by false e f g is = refl

    each : (p : Portfolio) (t : Bool) → (gain_of (whole t) p).quantity ≡ (gain_of (less t) p).quantity +ℤ (gain_of (lot_change i f.quantity f.premium) p).quantity
    each OnlyLots t = omega (arith, ints)
    each WithBuys true = omega (arith, ints)
    each WithBuys false = omega (arith, ints)
    each WithSales true = omega (arith, ints)
    each WithSales false = omega (arith, ints)
    each WithAll t = omega (arith, ints)

    each-worth : (p : Portfolio) (t : Bool) → (gain_of (whole t) p).worth ≡ (gain_of (less t) p).worth +ℤ (gain_of (lot_change i f.quantity f.premium) p).worth
    each-worth OnlyLots t = omega (arith, ints)
    each-worth WithBuys true = omega (arith, ints)
    each-worth WithBuys false = omega (arith, ints)
    each-worth WithSales true = omega (arith, ints)
    each-worth WithSales false = omega (arith, ints)
    each-worth WithAll t = omega (arith, ints)

    nets : (p : Portfolio) (d : List ℕ) (t b : Bool) → account_net p d between ≡ account_net p d a +ℤ (if b then (gain_of (less t) p).quantity else pos 0) → account_net p d after ≡ account_net p d between +ℤ (if b then (gain_of (lot_change i f.quantity f.premium) p).quantity else pos 0)
        → account_net p d after ≡ account_net p d a +ℤ (if b then (gain_of (whole t) p).quantity else pos 0)
    nets p d t b first second = omega (arith, ints, first, second, sum-by b (gain_of (less t) p).quantity (gain_of (lot_change i f.quantity f.premium) p).quantity (gain_of (whole t) p).quantity (each p t))

    worths : (p : Portfolio) (t : Bool) → account_worth set' p between ≡ account_worth set' p a +ℤ (gain_of (less t) p).worth → account_worth set' p after ≡ account_worth set' p between +ℤ (gain_of (lot_change i f.quantity f.premium) p).worth
        → account_worth set' p after ≡ account_worth set' p a +ℤ (gain_of (whole t) p).worth
    worths p t first second = omega (arith, ints, first, second, each-worth p t)

-- what holds of all holds, and of the part that is left, of all holds after a fill
pub All-filled : (P : Held → Type 0) (holds : List Held) (j : ℕ) (q : ℤ) → All P holds → (q ≢ (hold_at holds j).quantity → P (lessened (hold_at holds j) q)) → All P (filled_at holds j q)
All-filled P holds j q all left = by (int_eq q (hold_at holds j).quantity) refl
  where
    by : (b : Bool) → int_eq q (hold_at holds j).quantity ≡ b → All P (if b then remove holds j else set holds j (lessened (hold_at holds j) q))
    by true e = All-removed P holds j all
    by false e = All-set P holds j (lessened (hold_at holds j) q) (left (λ (same : q ≡ (hold_at holds j).quantity). let yes = (Decides-int_eq q (hold_at holds j).quantity).1 same in cc)) all

few-filled : (holds : List Held) (j : ℕ) (q : ℤ) → j < length holds → length (filled_at holds j q) ≤ length holds
few-filled holds j q inside = by (int_eq q (hold_at holds j).quantity)
  where
    by : (b : Bool) → length (if b then remove holds j else set holds j (lessened (hold_at holds j) q)) ≤ length holds
    by true = omega (arith, length-remove holds j inside)
    by false = omega (arith, length-set holds j (lessened (hold_at holds j) q))

pub fill-limits : (a : AccountState) (j : ℕ) (f : Fill) → IsAccount a → j < length a.holds → covers (hold_at a.holds j) f.quantity ≡ true → IsLot (traded_lot f.lot (hold_at a.holds j).contract f.quantity f.premium) → length a.lots < 65536 → IsAccount (fill_of a j f)
fill-limits a j f limits inside c is few = record {
  collateral = limits.collateral;
  lots = All-push IsLot a.lots (traded_lot f.lot (hold_at a.holds j).contract f.quantity f.premium) limits.lots is;
  few_lots = omega (arith, length-append a.lots (traded_lot f.lot (hold_at a.holds j).contract f.quantity f.premium ∷ []));
  holds = All-filled IsHeld a.holds j f.quantity limits.holds (λ part. lessened-IsHeld (hold_at a.holds j) f.quantity (All-get_or IsHeld a.holds j no_hold inside limits.holds) c part);
  few_holds = omega (arith, limits.few_holds, few-filled a.holds j f.quantity inside);
}
