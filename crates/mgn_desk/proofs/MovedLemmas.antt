-- Nets that are moved and moved back, for `follow` and `take_back`.
use Rattle.std.proofs.Common.{◌≡◌, ℕ, zero, suc, ◌+◌, List, [], ◌∷◌, set, pos, ℤ, unsigned_abs, ap, ◌∙◌, sym, arith, refl, Option, Some, None}
use Rattle.std.specs.Prelude.{◌+ℤ◌, neg_ℤ}
use Rattle.std.proofs.lemmas.Int.{ints}
use Rattle.std.proofs.lemmas.List.{set-get_or}
use Rattle.mgn_span.specs.Scan.{value_at}
use Rattle.mgn_nets.specs.Portfolios.{UnitNets}
use Rattle.mgn_desk.specs.declared.desk.Marked.{Marked}
use Rattle.mgn_desk.specs.declared.moves.Moves.{Moves}
use Rattle.mgn_desk.specs.Desks.{MarkedNets, Shown, StaysTogether, moved_desk, moved_marked}
use Rattle.mgn_desk.specs.Moved.{counted, more_of}
use Rattle.mgn_desk.specs.Portfolios.{arrays_of, moved_by, opposite}

-- nothing more
pub more_of_none : (nets : List ℤ) (i : ℕ) → nets ≡ more_of nets i (pos 0)
more_of_none nets i =
    let same : value_at nets i +ℤ pos 0 ≡ value_at nets i = omega (arith, ints) in
    sym (ap (λ (n : ℤ). set nets i n) same ∙ set-get_or nets i (pos 0))

-- a quantity more and as much less
more_of_back : (nets : List ℤ) (i : ℕ) (q : ℤ) → more_of (more_of nets i q) i (neg_ℤ q) ≡ nets
more_of_back [] i q = refl
more_of_back (n ∷ ns) zero q =
    let back : n +ℤ q +ℤ neg_ℤ q ≡ n = omega (arith, ints) in
    ap (λ (x : ℤ). x ∷ ns) back
more_of_back (n ∷ ns) (suc i) q = ap (λ (xs : List ℤ). n ∷ xs) (more_of_back ns i q)

moved_back : (m : Moves) (n : UnitNets) → moved_by (opposite m) (moved_by m n) ≡ n
moved_back m n =
    rw (more_of_back n.lots m.contract m.lots, more_of_back n.buys m.contract m.buys, more_of_back n.sales m.contract m.sales, more_of_back n.all m.contract m.all) refl

marked_back : (m : Moves) (marked : Option MarkedNets) → moved_marked (opposite m) (moved_marked m marked) ≡ marked
marked_back m None = refl
marked_back m (Some n) =
    ap (λ (nets : UnitNets). Some (let back : MarkedNets = record { version = n.version; nets = nets } in back)) (moved_back m n.nets)

-- a desk that is moved and moved back shows what it showed
pub desk_back : (m : Moves) (d : Shown) → moved_desk (opposite m) (moved_desk m d) ≡ d
desk_back m d =
    ap (λ (marked : Option MarkedNets). let back : Shown = record { unit = d.unit; marked = marked } in back) (marked_back m d.marked)

-- the opposite moves read as many arrays
same_size : (q : ℤ) → unsigned_abs (neg_ℤ q) ≡ unsigned_abs q
same_size q = omega (arith, ints)

pub arrays_of_opposite : (m : Moves) → arrays_of (opposite m) ≡ arrays_of m
arrays_of_opposite m = rw (same_size m.lots, same_size m.buys, same_size m.sales, same_size m.all) refl

-- counts add up
zero_plus : (n : ℕ) → 0 + n ≡ n
zero_plus n = omega arith

plus_zero : (n : ℕ) → n + 0 ≡ n
plus_zero n = omega arith

pub counted_more : (arrays a b : ℕ) → counted (counted arrays a) b ≡ counted arrays (a + b)
counted_more arrays zero b = rw (zero_plus b) refl
counted_more arrays (suc a) zero = rw (plus_zero (suc a)) refl
counted_more arrays (suc a) (suc b) =
    let e : suc a + suc b ≡ suc (a + suc b) = omega arith in
    rw e (omega arith)

-- portfolios that move back as the lots do move as they do
pub stays_back : (m : Moves) (old new : Option Marked) → StaysTogether (opposite m) old new → StaysTogether m old new
stays_back m None new h = tt
stays_back m (Some old) None h = absurd h
stays_back m (Some old) (Some new) h = record {
  buys = λ e. h.buys (ap neg_ℤ e);
  sales = λ e. h.sales (ap neg_ℤ e);
  all = λ e. h.all (ap neg_ℤ e);
}
