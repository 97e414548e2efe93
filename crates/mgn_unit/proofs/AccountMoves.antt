-- What happens to one account, as a change of the rows: for trades, busts and postings.
use Rattle.std.proofs.Common.{◌≡◌, ℕ, ◌+◌, ◌<◌, List, [], ◌∷◌, length, Bool, true, false, set, get_or, refl, sym, ap, ◌∙◌, arith, length-append}
use Rattle.std.specs.Prelude.{ℤ, pos, neg_ℤ, ◌+ℤ◌, ◌*ℤ◌, if◌then◌else◌, unsigned_abs}
use Rattle.std.specs.Str.{bytes_eq}
use Rattle.std.proofs.lemmas.Int.{ints}
use Rattle.std.proofs.lemmas.List.Elements.{All-push, All-set, All-get_or}
use Rattle.mgn_params.specs.Tables.{Tables}
use Rattle.mgn_coll.specs.Posted.{IsPosted, value}
use Rattle.mgn_lots.specs.declared.lot.Lot.{Lot}
use Rattle.mgn_lots.specs.Lots.{net, gross, cost, no_lot, lot_at, busted, IsLot, is_live, lot_share, lot_cost}
use Rattle.mgn_num.proofs.SignedEdits.{signed_sum_by-push}
use Rattle.mgn_lots.proofs.Shares.{net-push, gross-push, net-busted, gross-busted}
use Rattle.mgn_num.proofs.SignedLemmas.{signed_sum_by-set}
use Rattle.std.proofs.Math.IntN.{zero-*ℤ}
use Rattle.std.proofs.lemmas.List.{get_or_default, length-set}
use Rattle.mgn_unit.specs.declared.change.Change.{Change}
use Rattle.mgn_machine.specs.State.{AccountState, IsAccount, with_lot, with_bust, with_amount, traded_lot}
use Rattle.mgn_machine.specs.Portfolios.{Portfolio, OnlyLots, WithBuys, WithSales, WithAll, held_size, account_worth}
use Rattle.mgn_machine.proofs.Names.{held_in}
use Rattle.mgn_unit.specs.Changes.{Moves, MovesWorth, gain_of, lot_change, bust_change}

-- every portfolio gains the same
pub record GainsAll (change : Change) (quantity worth : ℤ) : Type 0 where
  pub quantity_is : (p : Portfolio) → (gain_of change p).quantity ≡ quantity
  pub worth_is : (p : Portfolio) → (gain_of change p).worth ≡ worth

share : (x : Lot) (c : List ℕ) → is_live x.mark ≡ true → lot_share c x ≡ (if bytes_eq x.contract c then x.quantity else pos 0)
share x c live = λ i. if bytes_eq x.contract c then (if live i then x.quantity else pos 0) else pos 0

grows : (b : Bool) (lots held : ℕ) (quantity size : ℤ) → size ≡ pos (unsigned_abs quantity) → pos (lots + unsigned_abs (if b then quantity else pos 0) + held) ≡ pos (lots + held) +ℤ (if b then size else pos 0)
grows true lots held quantity size is = omega (arith, ints, is)
grows false lots held quantity size is = omega (arith, ints)

-- a live lot more
pub lot-moves : (set' : Tables) (a : AccountState) (x : Lot) (change : Change) → is_live x.mark ≡ true → change.size ≡ pos (unsigned_abs x.quantity) → GainsAll change x.quantity (neg_ℤ (x.quantity *ℤ pos x.premium)) → Moves set' x.contract change a (with_lot a x)
lot-moves set' a x change live size gains = record {
  unit = refl;
  size = λ c.
      ap (λ (n : ℕ). pos (n + held_size c a.holds)) (gross-push c a.lots x ∙ ap (λ (z : ℤ). gross c a.lots + unsigned_abs z) (share x c live))
      ∙ grows (bytes_eq x.contract c) (gross c a.lots) (held_size c a.holds) x.quantity change.size size;
  net = λ p c. omega (arith, ints, net-push c a.lots x, share x c live, ap (λ (z : ℤ). if bytes_eq x.contract c then z else pos 0) (gains.quantity_is p));
  worth = λ p. omega (arith, ints, signed_sum_by-push lot_cost a.lots x, cost, gains.worth_is p);
}
  where
    cost : lot_cost x ≡ x.quantity *ℤ pos x.premium
    cost = λ i. (if live i then x.quantity else pos 0) *ℤ pos x.premium

lessens : (b : Bool) (lots now held : ℕ) (quantity : ℤ) → now + unsigned_abs (if b then quantity else pos 0) ≡ lots → pos (now + held) ≡ pos (lots + held) +ℤ (if b then neg_ℤ (pos (unsigned_abs quantity)) else pos 0)
lessens true lots now held quantity is = omega (arith, ints, is)
lessens false lots now held quantity is = omega (arith, ints, is)

loses : (b : Bool) (was now held quantity : ℤ) → now +ℤ (if b then quantity else pos 0) ≡ was → now +ℤ held ≡ was +ℤ held +ℤ (if b then neg_ℤ quantity else pos 0)
loses true was now held quantity is = omega (arith, ints, is)
loses false was now held quantity is = omega (arith, ints, is)

-- a live lot busted
pub bust-moves : (set' : Tables) (a : AccountState) (i at : ℕ) → at < length a.lots → is_live (lot_at a.lots at).mark ≡ true → Moves set' (lot_at a.lots at).contract (bust_change i (lot_at a.lots at)) a (with_bust a at)
bust-moves set' a i at inside live = record {
  unit = refl;
  size = λ c. lessens (bytes_eq x.contract c) (gross c a.lots) (gross c after) (held_size c a.holds) x.quantity
      (ap (λ (z : ℤ). gross c after + unsigned_abs z) (sym (share x c live)) ∙ gross-busted c a.lots at x inside there);
  net = λ p c. net_is p c;
  worth = λ p. worth_is p;
}
  where
    x : Lot
    x = lot_at a.lots at

    after : List Lot
    after = set a.lots at (busted x)

    there : x ≡ get_or a.lots at x
    there = get_or_default a.lots at no_lot x inside

    moved : (c : List ℕ) → net c after +ℤ (if bytes_eq x.contract c then x.quantity else pos 0) ≡ net c a.lots
    moved c = ap (λ (z : ℤ). net c after +ℤ z) (sym (share x c live)) ∙ net-busted c a.lots at x inside there

    net_is : (p : Portfolio) (c : List ℕ) → net c after +ℤ held_in p c a.holds ≡ net c a.lots +ℤ held_in p c a.holds +ℤ (if bytes_eq x.contract c then (gain_of (bust_change i x) p).quantity else pos 0)
    net_is OnlyLots c = loses (bytes_eq x.contract c) (net c a.lots) (net c after) (held_in OnlyLots c a.holds) x.quantity (moved c)
    net_is WithBuys c = loses (bytes_eq x.contract c) (net c a.lots) (net c after) (held_in WithBuys c a.holds) x.quantity (moved c)
    net_is WithSales c = loses (bytes_eq x.contract c) (net c a.lots) (net c after) (held_in WithSales c a.holds) x.quantity (moved c)
    net_is WithAll c = loses (bytes_eq x.contract c) (net c a.lots) (net c after) (held_in WithAll c a.holds) x.quantity (moved c)

    cost_is : cost after +ℤ x.quantity *ℤ pos x.premium ≡ cost a.lots
    cost_is =
        let moved = signed_sum_by-set lot_cost a.lots at (busted x) no_lot inside in
        let own : lot_cost x ≡ x.quantity *ℤ pos x.premium = (λ i. (if live i then x.quantity else pos 0) *ℤ pos x.premium) in
        let none : lot_cost (busted x) ≡ pos 0 = zero-*ℤ (pos x.premium) in
        omega (arith, ints, moved, own, none)

    worth_is : (p : Portfolio) → account_worth set' p (with_bust a at) ≡ account_worth set' p a +ℤ (gain_of (bust_change i x) p).worth
    worth_is OnlyLots = omega (arith, ints, cost_is)
    worth_is WithBuys = omega (arith, ints, cost_is)
    worth_is WithSales = omega (arith, ints, cost_is)
    worth_is WithAll = omega (arith, ints, cost_is)

-- another amount of cash or of a class
pub amount-moves : (set' : Tables) (a : AccountState) (class : List ℕ) (amount : ℕ) (more : ℤ) → pos (value set'.classes (with_amount a class amount).collateral) ≡ pos (value set'.classes a.collateral) +ℤ more → MovesWorth set' more a (with_amount a class amount)
amount-moves set' a class amount more is = record {
  unit = refl;
  size = λ c. refl;
  net = λ p c. refl;
  worth = λ p. omega (arith, ints, is);
}

-- The limits of an account.

pub lot-limits : (a : AccountState) (x : Lot) → IsAccount a → IsLot x → length a.lots < 65536 → IsAccount (with_lot a x)
lot-limits a x limits lot few = record {
  collateral = limits.collateral;
  lots = All-push IsLot a.lots x limits.lots lot;
  few_lots = omega (arith, length-append a.lots (x ∷ []));
  holds = limits.holds;
  few_holds = limits.few_holds;
}

pub bust-limits : (a : AccountState) (at : ℕ) → IsAccount a → at < length a.lots → IsAccount (with_bust a at)
bust-limits a at limits inside = record {
  collateral = limits.collateral;
  lots = All-set IsLot a.lots at (busted (lot_at a.lots at)) record { some = was.some; most = was.most; premium = was.premium } limits.lots;
  few_lots = omega (arith, length-set a.lots at (busted (lot_at a.lots at)), limits.few_lots);
  holds = limits.holds;
  few_holds = limits.few_holds;
}
  where
    was : IsLot (lot_at a.lots at)
    was = All-get_or IsLot a.lots at no_lot inside limits.lots

pub amount-limits : (a : AccountState) (class : List ℕ) (amount : ℕ) → IsAccount a → IsPosted (with_amount a class amount).collateral.cash (with_amount a class amount).collateral.units → IsAccount (with_amount a class amount)
amount-limits a class amount limits few = record {
  collateral = few;
  lots = limits.lots;
  few_lots = limits.few_lots;
  holds = limits.holds;
  few_holds = limits.few_holds;
}

-- a lot as it is traded
pub traded-moves : (set' : Tables) (a : AccountState) (number : ℕ) (contract : List ℕ) (i : ℕ) (quantity : ℤ) (premium : ℕ) → Moves set' contract (lot_change i quantity premium) a (with_lot a (traded_lot number contract quantity premium))
traded-moves set' a number contract i quantity premium =
    lot-moves set' a (traded_lot number contract quantity premium) (lot_change i quantity premium) refl refl record { quantity_is = quantities; worth_is = worths }
  where
    quantities : (p : Portfolio) → (gain_of (lot_change i quantity premium) p).quantity ≡ quantity
    quantities OnlyLots = refl
    quantities WithBuys = refl
    quantities WithSales = refl
    quantities WithAll = refl

    worths : (p : Portfolio) → (gain_of (lot_change i quantity premium) p).worth ≡ neg_ℤ (quantity *ℤ pos premium)
    worths OnlyLots = refl
    worths WithBuys = refl
    worths WithSales = refl
    worths WithAll = refl
