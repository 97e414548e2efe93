-- A fill at the limit of its hold keeps the room, as the law of holding says.
use Rattle.std.proofs.Common.{◌≡◌, ℕ, ◌<◌, List, length, map, set, Bool, true, false, refl, arith, subst}
use Rattle.std.specs.Prelude.{ℤ, pos, neg_ℤ, ◌+ℤ◌, ◌*ℤ◌, if◌then◌else◌}
use Rattle.std.specs.Str.{bytes_eq}
use Rattle.std.proofs.lemmas.Int.{ints}
use Rattle.mgn_params.specs.declared.tables.Contract.{Contract}
use Rattle.mgn_params.specs.Tables.{Tables}
use Rattle.mgn_holds.specs.Holds.{hold_at, is_buy}
use Rattle.mgn_machine.specs.State.{AccountState, account_at}
use Rattle.mgn_unit.specs.Laws.{FillAtLimitKeeps, counts}
use Rattle.mgn_unit.specs.Changes.{fill_change, held_change, Moves, gain, gain_of}
use Rattle.mgn_machine.specs.Holding.{fill_of}
use Rattle.mgn_machine.specs.Portfolios.{Portfolio, OnlyLots, WithBuys, WithSales, WithAll, account_net, account_worth}
use Rattle.mgn_unit.specs.Rows.{priced, portfolio_of}
use Rattle.mgn_unit.proofs.FillMoves.{fill-moves}
use Rattle.mgn_unit.proofs.Sums.{sum-stays}

-- a portfolio in which an account counts for as much as before
side-stays : (set' : Tables) (accounts : List AccountState) (k u : ℕ) (b : AccountState) (p : Portfolio) → k < length accounts → b.unit ≡ (account_at accounts k).unit → ((c : List ℕ) → account_net p c b ≡ account_net p c (account_at accounts k)) → account_worth set' p b ≡ account_worth set' p (account_at accounts k) → portfolio_of set' (set accounts k b) u p ≡ portfolio_of set' accounts u p
unfolding portfolio_of
side-stays set' accounts k u b p inside unit nets worth = λ i.
    priced set' (map (λ (c : Contract). sum-stays u (account_net p c.name) accounts k b inside unit (nets c.name) i) set'.contracts)
    (sum-stays u (account_worth set' p) accounts k b inside unit worth i)

gains-quantity : (p : Portfolio) (t : Bool) (quantity : ℤ) (limit : ℕ) → counts p t ≡ true → (gain_of (held_change 0 (pos 0) t (gain quantity (neg_ℤ (quantity *ℤ pos limit))) (gain (pos 0) (neg_ℤ (quantity *ℤ pos limit) +ℤ quantity *ℤ pos limit))) p).quantity ≡ pos 0
gains-quantity OnlyLots t quantity limit e = cc
gains-quantity WithBuys true quantity limit e = refl
gains-quantity WithBuys false quantity limit e = cc
gains-quantity WithSales true quantity limit e = cc
gains-quantity WithSales false quantity limit e = refl
gains-quantity WithAll t quantity limit e = refl

gains-worth : (p : Portfolio) (t : Bool) (quantity : ℤ) (limit : ℕ) → counts p t ≡ true → (gain_of (held_change 0 (pos 0) t (gain quantity (neg_ℤ (quantity *ℤ pos limit))) (gain (pos 0) (neg_ℤ (quantity *ℤ pos limit) +ℤ quantity *ℤ pos limit))) p).worth ≡ pos 0
gains-worth OnlyLots t quantity limit e = cc
gains-worth WithBuys true quantity limit e = omega (arith, ints)
gains-worth WithBuys false quantity limit e = cc
gains-worth WithSales true quantity limit e = cc
gains-worth WithSales false quantity limit e = omega (arith, ints)
gains-worth WithAll t quantity limit e = omega (arith, ints)

nothing-in : (t : Bool) (z : ℤ) → z ≡ pos 0 → (if t then z else pos 0) ≡ pos 0
nothing-in true z e = e
nothing-in false z e = refl

pub fill_at_limit-keeps : FillAtLimitKeeps
fill_at_limit-keeps set' accounts k j f p u inside held covered counted at_limit =
    side-stays set' accounts k u b p inside refl
    (λ c. omega (arith, ints, moves.net p c, nothing-in (bytes_eq (hold_at a.holds j).contract c) (gain_of (fill_change 0 f.quantity limit limit) p).quantity (gains-quantity p (is_buy f.quantity) f.quantity limit counted)))
    (omega (arith, ints, moves.worth p, gains-worth p (is_buy f.quantity) f.quantity limit counted))
  where
    a : AccountState
    a = account_at accounts k

    limit : ℕ
    limit = (hold_at a.holds j).limit

    b : AccountState
    b = fill_of a j f

    moves : Moves set' (hold_at a.holds j).contract (fill_change 0 f.quantity limit limit) a b
    moves =
        let P : ℕ → Type 0 = λ (premium : ℕ). Moves set' (hold_at a.holds j).contract (fill_change 0 f.quantity limit premium) a b in
        subst P at_limit (fill-moves set' a 0 j f held covered)
