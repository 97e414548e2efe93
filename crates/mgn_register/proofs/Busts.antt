-- What taking a lot back owes: rows that are kept.
use Rattle.std.proofs.Common.{◌≡◌, ℕ, ◌<◌, List, length, set, get_or, refl, sym, ap, ◌∙◌, subst, arith, Bool, true, false}
use Rattle.std.specs.Prelude.{pos, neg_ℤ, ◌+ℤ◌, ◌≤ℤ◌, unsigned_abs, Ok}
use Rattle.std.proofs.lemmas.Int.{ints}
use Rattle.std.proofs.lemmas.List.Elements.{All-set, All-get_or}
use Rattle.mgn_params.specs.Limits.{IsWithinLimits}
use Rattle.mgn_span.specs.Positions.{IsNet}
use Rattle.mgn_params.specs.Tables.{Tables}
use Rattle.mgn_lots.specs.declared.lot.Lot.{Lot}
use Rattle.mgn_lots.specs.Lots.{IsLot, is_live, lot_at, no_lot, busted}
use Rattle.mgn_machine.specs.declared.origin.Origin.{Origin}
use Rattle.mgn_unit.specs.declared.row.Row.{Row}
use Rattle.mgn_machine.specs.State.{AccountState, with_bust}
use Rattle.mgn_machine.specs.Portfolios.{account_size, unit_sum}
use Rattle.mgn_machine.specs.Refusals.{contract_of, has_contract, IsKnown}
use Rattle.mgn_unit.specs.Rows.{IsRoomy, Priced, Prices, row_with}
use Rattle.mgn_unit.specs.Changes.{bust_change}
use Rattle.mgn_unit.proofs.AccountMoves.{bust-moves, bust-limits}
use Rattle.mgn_unit.proofs.Bounded.{unit-within}
use Rattle.mgn_unit.proofs.Moved.{Stands}
use Rattle.mgn_unit.proofs.Sums.{row_by-at}
use Rattle.mgn_register.specs.BookStates.{BookState, book_state, IsKept, IsUnitRow}
use Rattle.mgn_register.proofs.Kept.{contract-stands, stands-inside, row-there, room-by, sizes-more, kept-moved, account-limits, account-known}

-- what is known where a live lot is about to be busted
pub record Busting (set' : Tables) (f : BookState) (k at i : ℕ) (a : AccountState) (r : Row) : Type 0 where
  pub within : IsWithinLimits set'
  pub kept : IsKept set' f
  pub account : k < length f.state.accounts
  pub was : a ≡ get_or f.state.accounts k a
  pub row : r ≡ get_or f.rows a.unit r
  pub lot : at < length a.lots
  pub live : is_live (lot_at a.lots at).mark ≡ true
  pub stands : contract_of set' (lot_at a.lots at).contract ≡ Ok i

-- sizes are never negative
size-positive : (accounts : List AccountState) (u : ℕ) (contract : List ℕ) → pos 0 ≤ℤ unit_sum u (account_size contract) accounts
size-positive accounts u contract = omega (arith, ints, unit-within u (λ (a : AccountState). pos 0) (account_size contract) accounts (λ a. omega (arith, ints)))

pub bust-roomy : (set' : Tables) (f : BookState) (k at i : ℕ) (a : AccountState) (r : Row) → Busting set' f k at i a r → IsRoomy (bust_change i (lot_at a.lots at)) r
bust-roomy set' f k at i a r busting =
    room-by set' f k a (with_bust a at) x.contract (bust_change i x) r busting.kept busting.account busting.was busting.row stands
    (bust-moves set' a i at busting.lot busting.live)
    (sizes-more r.sizes i (neg_ℤ (pos (unsigned_abs x.quantity))) old.limits.sizes less)
  where
    x : Lot
    x = lot_at a.lots at

    stands : Stands set' x.contract i
    stands = contract-stands set' x.contract i busting.within busting.stands

    old : IsUnitRow set' f.state.accounts a.unit r
    old = row-there set' f k a r busting.kept busting.account busting.was busting.row

    size : get_or r.sizes i (pos 0) ≡ unit_sum a.unit (account_size x.contract) f.state.accounts
    size = ap (λ (y : Row). get_or y.sizes i (pos 0)) old.is ∙ row_by-at set'.contracts f.state.accounts a.unit account_size x.contract i stands.here

    small : IsNet (get_or r.sizes i (pos 0))
    small = old.limits.sizes i (pos 0) (omega (arith, old.limits.one_each, stands-inside set' x.contract i stands))

    limits : IsLot x
    limits = All-get_or IsLot a.lots at no_lot busting.lot (account-limits set' f k a busting.kept busting.account busting.was).lots

    less : IsNet (get_or r.sizes i (pos 0) +ℤ neg_ℤ (pos (unsigned_abs x.quantity)))
    less = omega (arith, ints, size, small, limits.most, size-positive f.state.accounts a.unit x.contract)

pub bust-kept : (set' : Tables) (origins : List Origin) (accounts : List AccountState) (rows : List Row) (closed : Bool) (version : ℕ) (k at i : ℕ) (a b : AccountState) (r row : Row) (priced : Priced) → Busting set' (book_state origins accounts rows closed version) k at i a r → Prices set' (bust_change i (lot_at a.lots at)) r priced → row ≡ row_with set' (bust_change i (lot_at a.lots at)) r → b ≡ with_bust a at → IsKept set' (book_state origins (set accounts k b) (set rows a.unit row) closed version)
bust-kept set' origins accounts rows closed version k at i a b r row priced busting prices is done =
    subst (λ (x : Row × AccountState). IsKept set' (book_state origins (set accounts k x.1) (set rows a.unit x.0) closed version)) (λ j. (sym is j, sym done j))
    (kept-moved set' origins accounts rows closed version k a (with_bust a at) x.contract (bust_change i x) r priced busting.within busting.kept busting.account busting.was busting.row refl
    (bust-limits a at (account-limits set' f k a busting.kept busting.account busting.was) busting.lot) known
    (contract-stands set' x.contract i busting.within busting.stands) (bust-moves set' a i at busting.lot busting.live) (bust-roomy set' f k at i a r busting) prices)
  where
    f : BookState
    f = book_state origins accounts rows closed version

    x : Lot
    x = lot_at a.lots at

    was_known : IsKnown set' a
    was_known = account-known set' f k a busting.kept busting.account busting.was

    known : IsKnown set' (with_bust a at)
    known = record {
      lots = All-set (λ (y : Lot). is_live y.mark ≡ true → has_contract set' y.contract ≡ true) a.lots at (busted x) (λ (live : false ≡ true). cc) was_known.lots;
      holds = was_known.holds;
    }
