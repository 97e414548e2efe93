-- What a moved lot does to one account, and two of them to the row of one unit.
use Rattle.std.proofs.Common.{◌≡◌, ◌≢◌, ℕ, ◌<◌, List, length, set, get_or, refl, sym, ap, ◌∙◌, subst, arith, length-set}
use Rattle.std.specs.Prelude.{ℤ, pos, neg_ℤ, ◌+ℤ◌, ◌*ℤ◌, unsigned_abs}
use Rattle.std.proofs.lemmas.Int.{ints}
use Rattle.std.proofs.lemmas.List.{get_or-set_same, get_or-set_other, length-map, set-set}
use Rattle.mgn_params.specs.declared.tables.Contract.{Contract}
use Rattle.mgn_params.specs.Tables.{Tables}
use Rattle.mgn_machine.specs.State.{AccountState, no_account, with_lot}
use Rattle.mgn_machine.specs.Portfolios.{Portfolio, OnlyLots, WithBuys, WithSales, WithAll, account_net, account_size, account_worth, nets_of, sizes_of, unit_sum}
use Rattle.mgn_machine.specs.Transfers.{moved_lot}
use Rattle.mgn_unit.specs.declared.row.Row.{Row}
use Rattle.mgn_unit.specs.Changes.{Moves, gain, gain_of, moved_change}
use Rattle.mgn_unit.specs.Rows.{more_at, priced, portfolio_of, portfolio_with, row_of, row_with, row_with_size}
use Rattle.mgn_unit.proofs.AccountMoves.{lot-moves}
use Rattle.mgn_unit.proofs.Moved.{Stands, Replaces, row-moved}
use Rattle.mgn_unit.proofs.Sums.{more-back}

no-cost : (quantity : ℤ) → pos 0 ≡ neg_ℤ (quantity *ℤ pos 0)
no-cost quantity = omega (arith, ints)

pub moved-moves : (set' : Tables) (a : AccountState) (number : ℕ) (contract : List ℕ) (i : ℕ) (quantity : ℤ) → Moves set' contract (moved_change i quantity) a (with_lot a (moved_lot number contract quantity))
moved-moves set' a number contract i quantity =
    lot-moves set' a (moved_lot number contract quantity) (moved_change i quantity) refl refl record { quantity_is = quantities; worth_is = worths }
  where
    quantities : (p : Portfolio) → (gain_of (moved_change i quantity) p).quantity ≡ quantity
    quantities OnlyLots = refl
    quantities WithBuys = refl
    quantities WithSales = refl
    quantities WithAll = refl

    worths : (p : Portfolio) → (gain_of (moved_change i quantity) p).worth ≡ neg_ℤ (quantity *ℤ pos 0)
    worths OnlyLots = no-cost quantity
    worths WithBuys = no-cost quantity
    worths WithSales = no-cost quantity
    worths WithAll = no-cost quantity

-- A row of numbers with a quantity more at a place, and then another.
more-twice : (row : List ℤ) (i : ℕ) (x y : ℤ) → i < length row → more_at (more_at row i x) i y ≡ more_at row i (x +ℤ y)
more-twice row i x y inside =
    let was : ℤ = get_or row i (pos 0) in
    let there : get_or (set row i (was +ℤ x)) i (pos 0) ≡ was +ℤ x = get_or-set_same row i (was +ℤ x) (pos 0) inside in
    let sum : get_or (set row i (was +ℤ x)) i (pos 0) +ℤ y ≡ was +ℤ (x +ℤ y) = omega (arith, ints, there) in
    ap (λ (z : ℤ). set (set row i (was +ℤ x)) i z) sum ∙ set-set row i (was +ℤ x) (was +ℤ (x +ℤ y))

-- given and taken again
given-taken : (row : List ℤ) (i : ℕ) (quantity : ℤ) → i < length row → more_at (more_at row i (neg_ℤ quantity)) i quantity ≡ row
given-taken row i quantity inside =
    let same : quantity ≡ neg_ℤ (neg_ℤ quantity) = omega (arith, ints) in
    ap (λ (z : ℤ). more_at (more_at row i (neg_ℤ quantity)) i z) same ∙ more-back row i (neg_ℤ quantity) inside

-- Both lots in one unit: its portfolios stay as they were, and it has both sizes more.

side-both : (set' : Tables) (i : ℕ) (quantity : ℤ) (nets : List ℤ) (worth : ℤ) → i < length nets → portfolio_with set' i (gain quantity (pos 0)) (portfolio_with set' i (gain (neg_ℤ quantity) (pos 0)) (priced set' nets worth)) ≡ priced set' nets worth
side-both set' i quantity nets worth inside =
    let same : worth +ℤ pos 0 +ℤ pos 0 ≡ worth = omega (arith, ints) in
    let back = given-taken nets i quantity inside in
    λ j. priced set' (back j) (same j)

row-both : (set' : Tables) (accounts : List AccountState) (u i : ℕ) (quantity : ℤ) → i < length set'.contracts → row_with set' (moved_change i quantity) (row_with set' (moved_change i (neg_ℤ quantity)) (row_of set' accounts u)) ≡ row_with_size i (pos (unsigned_abs (neg_ℤ quantity)) +ℤ pos (unsigned_abs quantity)) (row_of set' accounts u)
unfolding portfolio_of
row-both set' accounts u i quantity inside = λ j. record {
  sizes = sizes j;
  lots = side OnlyLots j;
  buys = side WithBuys j;
  sales = side WithSales j;
  all = side WithAll j;
}
  where
    sizes : more_at (more_at (sizes_of set' accounts u) i (pos (unsigned_abs (neg_ℤ quantity)))) i (pos (unsigned_abs quantity)) ≡ more_at (sizes_of set' accounts u) i (pos (unsigned_abs (neg_ℤ quantity)) +ℤ pos (unsigned_abs quantity))
    sizes =
        more-twice (sizes_of set' accounts u) i (pos (unsigned_abs (neg_ℤ quantity))) (pos (unsigned_abs quantity)) (omega (arith, inside, length-map set'.contracts (λ (c : Contract). unit_sum u (account_size c.name) accounts)))

    side : (p : Portfolio) → portfolio_with set' i (gain quantity (pos 0)) (portfolio_with set' i (gain (neg_ℤ quantity) (pos 0)) (portfolio_of set' accounts u p)) ≡ portfolio_of set' accounts u p
    side p =
        side-both set' i quantity (nets_of set' accounts u p) (unit_sum u (account_worth set' p) accounts)
        (omega (arith, inside, length-map set'.contracts (λ (c : Contract). unit_sum u (account_net p c.name) accounts)))

-- the row of a unit in which one account gives what another takes
pub row-within : (set' : Tables) (accounts : List AccountState) (giver taker u i : ℕ) (contract : List ℕ) (quantity : ℤ) (a b : AccountState) → Stands set' contract i → i < length set'.contracts → taker ≢ giver → Replaces accounts giver u a → Replaces accounts taker u b → Moves set' contract (moved_change i (neg_ℤ quantity)) (get_or accounts giver no_account) a → Moves set' contract (moved_change i quantity) (get_or accounts taker no_account) b → row_of set' (set (set accounts giver a) taker b) u ≡ row_with_size i (pos (unsigned_abs (neg_ℤ quantity)) +ℤ pos (unsigned_abs quantity)) (row_of set' accounts u)
row-within set' accounts giver taker u i contract quantity a b stands inside apart gives takes given taken =
    row-moved set' (set accounts giver a) taker u b contract (moved_change i quantity) stands
    record { inside = omega (arith, takes.inside, length-set accounts giver a); was = ap (λ (x : AccountState). x.unit) there ∙ takes.was; now = takes.now }
    (subst (λ (x : AccountState). Moves set' contract (moved_change i quantity) x b) (sym there) taken)
    ∙ ap (λ (x : Row). row_with set' (moved_change i quantity) x) (row-moved set' accounts giver u a contract (moved_change i (neg_ℤ quantity)) stands gives given)
    ∙ row-both set' accounts u i quantity inside
  where
    there : get_or (set accounts giver a) taker no_account ≡ get_or accounts taker no_account
    there = get_or-set_other accounts giver taker a no_account apart
