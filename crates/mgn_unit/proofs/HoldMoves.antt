-- What happens to the holds of one account, as a change of the rows: for holds, fills and releases.
use Rattle.std.proofs.Common.{◌≡◌, ℕ, suc, ◌<◌, List, [], ◌∷◌, ◌++◌, length, get_or, take, drop, Bool, true, false, not, refl, ap, ◌∙◌, arith, length-append, All}
use Rattle.std.specs.Prelude.{ℤ, pos, neg_ℤ, ◌+ℤ◌, ◌-ℤ◌, ◌*ℤ◌, if◌then◌else◌, unsigned_abs, remove}
use Rattle.std.specs.Str.{bytes_eq}
use Rattle.std.proofs.lemmas.Int.{ints}
use Rattle.std.proofs.lemmas.List.Edits.{length-remove}
use Rattle.std.proofs.lemmas.List.Elements.{All-push, All-append, All-take, All-drop}
use Rattle.std.proofs.lemmas.List.Sums.{sum_by_push, sum_by-remove}
use Rattle.mgn_num.proofs.SignedEdits.{signed_sum_by-push, signed_sum_by-remove}
use Rattle.mgn_params.specs.Tables.{Tables}
use Rattle.mgn_holds.specs.declared.held.Held.{Held}
use Rattle.mgn_holds.specs.declared.side.Side.{Side}
use Rattle.mgn_holds.specs.declared.side.Side.TheVariants.{Buys, Sales}
use Rattle.mgn_holds.specs.Holds.{IsHeld, is_buy, held_cost, held_share, held_net, premium}
use Rattle.mgn_machine.specs.State.{AccountState, IsAccount}
use Rattle.mgn_unit.specs.Changes.{held_change, hold_change, release_change, Moves, gain, gain_of}
use Rattle.mgn_machine.specs.declared.command.Hold.{Hold}
use Rattle.mgn_machine.specs.Holding.{with_hold, without_hold, new_hold}
use Rattle.mgn_machine.specs.Portfolios.{Portfolio, OnlyLots, WithBuys, WithSales, WithAll, held_size, account_net, account_worth}

-- a side by whether it is that of the buys
abbrev pub side_is : Side → Bool → Bool
side_is Buys buys = buys
side_is Sales buys = not buys

-- what one hold counts for in size
abbrev pub size_in : List ℕ → Held → ℕ
size_in c x = if bytes_eq x.contract c then unsigned_abs x.quantity else 0

-- holds of which one side has a quantity more of a contract, at a worth more
pub record HoldsMove (contract : List ℕ) (buys : Bool) (quantity worth size : ℤ) (old new : List Held) : Type 0 where
  pub net : (side : Side) (c : List ℕ) → held_net side c new ≡ held_net side c old +ℤ (if bytes_eq contract c then (if side_is side buys then quantity else pos 0) else pos 0)
  pub premium_is : (side : Side) → premium side new ≡ premium side old -ℤ (if side_is side buys then worth else pos 0)
  pub size_is : (c : List ℕ) → pos (held_size c new) ≡ pos (held_size c old) +ℤ (if bytes_eq contract c then size else pos 0)

nothing_is : (b : Bool) → (if b then pos 0 else pos 0) ≡ pos 0
nothing_is true = refl
nothing_is false = refl

-- such a change of the holds is one of the account
pub holds-moves : (set' : Tables) (a : AccountState) (contract : List ℕ) (i : ℕ) (buys : Bool) (quantity worth size : ℤ) (new : List Held) → HoldsMove contract buys quantity worth size a.holds new → Moves set' contract (held_change i size buys (gain (pos 0) (pos 0)) (gain quantity worth)) a (record a { holds = new })
holds-moves set' a contract i true quantity worth size new moves = record {
  unit = refl;
  size = λ c. omega (arith, ints, moves.size_is c);
  net = λ p c. net p c (bytes_eq contract c) (moves.net Buys c) (moves.net Sales c);
  worth = worths;
}
  where
    buys_are : premium Buys new ≡ premium Buys a.holds -ℤ worth
    buys_are = moves.premium_is Buys

    sales_are : premium Sales new ≡ premium Sales a.holds -ℤ pos 0
    sales_are = moves.premium_is Sales

    net : (p : Portfolio) (c : List ℕ) (b : Bool) → held_net Buys c new ≡ held_net Buys c a.holds +ℤ (if b then quantity else pos 0) → held_net Sales c new ≡ held_net Sales c a.holds +ℤ (if b then pos 0 else pos 0)
        → account_net p c (record a { holds = new }) ≡ account_net p c a +ℤ (if b then (gain_of (held_change i size true (gain (pos 0) (pos 0)) (gain quantity worth)) p).quantity else pos 0)
    net OnlyLots c b e f = omega (arith, ints, nothing_is b)
    net WithBuys c b e f = omega (arith, ints, e)
    net WithSales c b e f = omega (arith, ints, f)
    net WithAll c b e f = omega (arith, ints, e, f, nothing_is b)

    worths : (p : Portfolio) → account_worth set' p (record a { holds = new }) ≡ account_worth set' p a +ℤ (gain_of (held_change i size true (gain (pos 0) (pos 0)) (gain quantity worth)) p).worth
    worths OnlyLots = omega (arith, ints)
    worths WithBuys = omega (arith, ints, buys_are)
    worths WithSales = omega (arith, ints, sales_are)
    worths WithAll = omega (arith, ints, buys_are, sales_are)
holds-moves set' a contract i false quantity worth size new moves = record {
  unit = refl;
  size = λ c. omega (arith, ints, moves.size_is c);
  net = λ p c. net p c (bytes_eq contract c) (moves.net Buys c) (moves.net Sales c);
  worth = worths;
}
  where
    buys_are : premium Buys new ≡ premium Buys a.holds -ℤ pos 0
    buys_are = moves.premium_is Buys

    sales_are : premium Sales new ≡ premium Sales a.holds -ℤ worth
    sales_are = moves.premium_is Sales

    net : (p : Portfolio) (c : List ℕ) (b : Bool) → held_net Buys c new ≡ held_net Buys c a.holds +ℤ (if b then pos 0 else pos 0) → held_net Sales c new ≡ held_net Sales c a.holds +ℤ (if b then quantity else pos 0)
        → account_net p c (record a { holds = new }) ≡ account_net p c a +ℤ (if b then (gain_of (held_change i size false (gain (pos 0) (pos 0)) (gain quantity worth)) p).quantity else pos 0)
    net OnlyLots c b e f = omega (arith, ints, nothing_is b)
    net WithBuys c b e f = omega (arith, ints, e)
    net WithSales c b e f = omega (arith, ints, f)
    net WithAll c b e f = omega (arith, ints, e, f, nothing_is b)

    worths : (p : Portfolio) → account_worth set' p (record a { holds = new }) ≡ account_worth set' p a +ℤ (gain_of (held_change i size false (gain (pos 0) (pos 0)) (gain quantity worth)) p).worth
    worths OnlyLots = omega (arith, ints)
    worths WithBuys = omega (arith, ints, buys_are)
    worths WithSales = omega (arith, ints, sales_are)
    worths WithAll = omega (arith, ints, buys_are, sales_are)

-- what a hold counts for, by the side that it is on
share-is : (side : Side) (x : Held) (c : List ℕ) → held_share side c x ≡ (if bytes_eq x.contract c then (if side_is side (is_buy x.quantity) then x.quantity else pos 0) else pos 0)
share-is Buys x c = refl
share-is Sales x c = refl

cost-is : (side : Side) (x : Held) → held_cost side x ≡ (if side_is side (is_buy x.quantity) then x.quantity *ℤ pos x.limit else pos 0)
cost-is Buys x = refl
cost-is Sales x = refl

pub negated-if : (b : Bool) (z : ℤ) → (if b then neg_ℤ z else pos 0) ≡ neg_ℤ (if b then z else pos 0)
negated-if true z = refl
negated-if false z = omega (arith, ints)

pub negated-if_both : (b t : Bool) (z : ℤ) → (if b then (if t then neg_ℤ z else pos 0) else pos 0) ≡ neg_ℤ (if b then (if t then z else pos 0) else pos 0)
negated-if_both true t z = negated-if t z
negated-if_both false t z = omega (arith, ints)

counted : (b : Bool) (z : ℤ) → pos (if b then unsigned_abs z else 0) ≡ (if b then pos (unsigned_abs z) else pos 0)
counted true z = refl
counted false z = refl

-- a hold more
pub push-moves : (old : List Held) (x : Held) → HoldsMove x.contract (is_buy x.quantity) x.quantity (neg_ℤ (x.quantity *ℤ pos x.limit)) (pos (unsigned_abs x.quantity)) old (old ++ x ∷ [])
push-moves old x = record {
  net = λ side c. signed_sum_by-push (held_share side c) old x ∙ ap (λ (z : ℤ). held_net side c old +ℤ z) (share-is side x c);
  premium_is = λ side. omega (arith, ints, signed_sum_by-push (held_cost side) old x, cost-is side x, negated-if (side_is side (is_buy x.quantity)) (x.quantity *ℤ pos x.limit));
  size_is = λ c. omega (arith, ints, sum_by_push (size_in c) old x, counted (bytes_eq x.contract c) x.quantity);
}

-- a hold less
pub remove-moves : (old : List Held) (j : ℕ) (x : Held) → j < length old → x ≡ get_or old j x → HoldsMove x.contract (is_buy x.quantity) (neg_ℤ x.quantity) (x.quantity *ℤ pos x.limit) (neg_ℤ (pos (unsigned_abs x.quantity))) old (remove old j)
remove-moves old j x inside is = record {
  net = λ side c.
      omega (arith, ints, signed_sum_by-remove (held_share side c) old j x inside, ap (held_share side c) is, share-is side x c, negated-if_both (bytes_eq x.contract c) (side_is side (is_buy x.quantity)) x.quantity);
  premium_is = λ side. omega (arith, ints, signed_sum_by-remove (held_cost side) old j x inside, ap (held_cost side) is, cost-is side x);
  size_is = λ c.
      omega (arith, ints, sum_by-remove (size_in c) old j x inside, ap (size_in c) is, counted (bytes_eq x.contract c) x.quantity, negated-if (bytes_eq x.contract c) (pos (unsigned_abs x.quantity)));
}

-- The commands.

pub hold-moves : (set' : Tables) (a : AccountState) (i : ℕ) (h : Hold) → Moves set' h.contract (hold_change i h.quantity h.limit) a (with_hold a (new_hold h))
hold-moves set' a i h =
    holds-moves set' a h.contract i (is_buy h.quantity) h.quantity (neg_ℤ (h.quantity *ℤ pos h.limit)) (pos (unsigned_abs h.quantity)) (a.holds ++ new_hold h ∷ [])
    (push-moves a.holds (new_hold h))

pub release-moves : (set' : Tables) (a : AccountState) (i j : ℕ) (x : Held) → j < length a.holds → x ≡ get_or a.holds j x → Moves set' x.contract (release_change i x.quantity x.limit) a (without_hold a j)
release-moves set' a i j x inside is =
    holds-moves set' a x.contract i (is_buy x.quantity) (neg_ℤ x.quantity) (x.quantity *ℤ pos x.limit) (neg_ℤ (pos (unsigned_abs x.quantity))) (remove a.holds j) (remove-moves a.holds j x inside is)

-- The limits of an account.

pub hold-limits : (a : AccountState) (x : Held) → IsAccount a → IsHeld x → length a.holds < 256 → IsAccount (with_hold a x)
hold-limits a x limits held few = record {
  collateral = limits.collateral;
  lots = limits.lots;
  few_lots = limits.few_lots;
  holds = All-push IsHeld a.holds x limits.holds held;
  few_holds = omega (arith, length-append a.holds (x ∷ []));
}

-- what holds of all holds of all but one
pub All-removed : (P : Held → Type 0) (holds : List Held) (j : ℕ) → All P holds → All P (remove holds j)
All-removed P holds j all = All-append P (take j holds) (drop (suc j) holds) (All-take P j holds all) (All-drop P (suc j) holds all)

pub release-limits : (a : AccountState) (j : ℕ) → IsAccount a → j < length a.holds → IsAccount (without_hold a j)
release-limits a j limits inside = record {
  collateral = limits.collateral;
  lots = limits.lots;
  few_lots = limits.few_lots;
  holds = All-removed IsHeld a.holds j limits.holds;
  few_holds = omega (arith, limits.few_holds, length-remove a.holds j inside);
}
