-- What a trade owes: room for its size, and rows that are kept.
use Rattle.std.proofs.Common.{true, ◌≡◌, ℕ, ◌<◌, ◌^◌, List, length, set, get_or, refl, sym, ap, ◌∙◌, subst, arith, Bool, false}
use Rattle.std.specs.Prelude.{ℤ, pos, ◌+ℤ◌, unsigned_abs, Ok, int_lt}
use Rattle.std.proofs.lemmas.Bool.Decides.{nat_tests}
use Rattle.std.proofs.lemmas.List.{get_or_default}
use Rattle.std.proofs.lemmas.List.Elements.{All-push}
use Rattle.mgn_params.specs.Limits.{IsWithinLimits}
use Rattle.mgn_span.specs.Positions.{IsNet}
use Rattle.mgn_params.specs.Tables.{Tables}
use Rattle.mgn_lots.specs.declared.lot.Lot.{Lot}
use Rattle.mgn_lots.specs.Lots.{IsLot, is_live, is_full}
use Rattle.mgn_machine.specs.declared.command.Trade.{Trade}
use Rattle.mgn_machine.specs.declared.origin.Origin.{Origin}
use Rattle.mgn_unit.specs.declared.row.Row.{Row}
use Rattle.mgn_machine.specs.State.{AccountState, IsAccount, no_account, traded_lot, with_lot}
use Rattle.mgn_machine.specs.Portfolios.{account_size}
use Rattle.mgn_machine.specs.Refusals.{contract_of, has_contract, is_over, IsKnown}
use Rattle.mgn_machine.proofs.Names.{unit_size}
use Rattle.mgn_unit.specs.Rows.{IsRoomy, Priced, Prices, row_with}
use Rattle.mgn_unit.specs.Changes.{lot_change}
use Rattle.mgn_unit.proofs.AccountMoves.{traded-moves, lot-limits}
use Rattle.mgn_unit.proofs.Moved.{Stands}
use Rattle.mgn_unit.proofs.Sums.{row_by-at}
use Rattle.mgn_register.specs.BookStates.{BookState, book_state, IsKept, IsUnitRow}
use Rattle.mgn_register.proofs.Kept.{contract-stands, stands-inside, row-there, room-by, sizes-more, own-moved, kept-changed, account-limits, account-known, stands-known}
use Rattle.mgn_register.proofs.Holding.{not_over}

-- what is known where a lot is about to be entered: the account and its row as they were read
pub record Trading (set' : Tables) (f : BookState) (k i : ℕ) (a : AccountState) (r : Row) (t : Trade) : Type 0 where
  pub within : IsWithinLimits set'
  pub kept : IsKept set' f
  pub account : k < length f.state.accounts
  pub was : a ≡ get_or f.state.accounts k a
  pub row : r ≡ get_or f.rows a.unit r
  pub stands : contract_of set' t.contract ≡ Ok i
  pub room : is_over f.state k t.contract t.quantity ≡ false

pub trade-roomy : (set' : Tables) (f : BookState) (k i : ℕ) (a : AccountState) (r : Row) (t : Trade) → Trading set' f k i a r t → IsRoomy (lot_change i t.quantity t.premium) r
trade-roomy set' f k i a r t trading =
    room-by set' f k a (with_lot a (traded_lot t.lot t.contract t.quantity t.premium)) t.contract (lot_change i t.quantity t.premium) r trading.kept trading.account trading.was trading.row stands
    (traded-moves set' a t.lot t.contract i t.quantity t.premium)
    (sizes-more r.sizes i (pos (unsigned_abs t.quantity)) old.limits.sizes
    (subst (λ (z : ℤ). IsNet (z +ℤ pos (unsigned_abs t.quantity))) (sym size) (not_over (unit_size f.state a.unit t.contract) (unsigned_abs t.quantity) (subst IsNet size small) room)))
  where
    stands : Stands set' t.contract i
    stands = contract-stands set' t.contract i trading.within trading.stands

    old : IsUnitRow set' f.state.accounts a.unit r
    old = row-there set' f k a r trading.kept trading.account trading.was trading.row

    size : get_or r.sizes i (pos 0) ≡ unit_size f.state a.unit t.contract
    size = ap (λ (x : Row). get_or x.sizes i (pos 0)) old.is ∙ row_by-at set'.contracts f.state.accounts a.unit account_size t.contract i stands.here

    small : IsNet (get_or r.sizes i (pos 0))
    small = old.limits.sizes i (pos 0) (omega (arith, old.limits.one_each, stands-inside set' t.contract i stands))

    room : int_lt (pos (10 ^ 7)) (unit_size f.state a.unit t.contract +ℤ pos (unsigned_abs t.quantity)) ≡ false
    room = ap (λ (x : AccountState). int_lt (pos (10 ^ 7)) (unit_size f.state x.unit t.contract +ℤ pos (unsigned_abs t.quantity))) (trading.was ∙ get_or_default f.state.accounts k a no_account trading.account) ∙ trading.room

pub trade-kept : (set' : Tables) (origins : List Origin) (accounts : List AccountState) (rows : List Row) (closed : Bool) (version : ℕ) (k i : ℕ) (a b : AccountState) (r row : Row) (t : Trade) (priced : Priced) → Trading set' (book_state origins accounts rows closed version) k i a r t → Prices set' (lot_change i t.quantity t.premium) r priced → row ≡ row_with set' (lot_change i t.quantity t.premium) r → b ≡ with_lot a (traded_lot t.lot t.contract t.quantity t.premium) → IsLot (traded_lot t.lot t.contract t.quantity t.premium) → is_full a.lots ≡ false → IsKept set' (book_state origins (set accounts k b) (set rows a.unit row) closed version)
trade-kept set' origins accounts rows closed version k i a b r row t priced trading prices is added lot few =
    subst (λ (x : Row × AccountState). IsKept set' (book_state origins (set accounts k x.1) (set rows a.unit x.0) closed version)) (λ j. (sym is j, sym added j))
    (kept-changed set' origins accounts rows closed version k a (with_lot a (traded_lot t.lot t.contract t.quantity t.premium)) (row_with set' (lot_change i t.quantity t.premium) r) record {
      kept = trading.kept;
      account = trading.account;
      was = trading.was;
      unit = refl;
      origin = refl;
      limits = limits;
      known = known;
      own = own-moved set' f k a (with_lot a (traded_lot t.lot t.contract t.quantity t.premium)) t.contract (lot_change i t.quantity t.premium) r priced trading.within trading.kept trading.account trading.was trading.row limits
          (contract-stands set' t.contract i trading.within trading.stands) (traded-moves set' a t.lot t.contract i t.quantity t.premium) (trade-roomy set' f k i a r t trading) prices;
    })
  where
    f : BookState
    f = book_state origins accounts rows closed version

    lot_is : Lot
    lot_is = traded_lot t.lot t.contract t.quantity t.premium

    limits : IsAccount (with_lot a lot_is)
    limits = lot-limits a lot_is (account-limits set' f k a trading.kept trading.account trading.was) lot (grind (arith, nat_tests, few))

    was_known : IsKnown set' a
    was_known = account-known set' f k a trading.kept trading.account trading.was

    known : IsKnown set' (with_lot a lot_is)
    known = record {
      lots = All-push (λ (x : Lot). is_live x.mark ≡ true → has_contract set' x.contract ≡ true) a.lots lot_is was_known.lots (λ _. stands-known set' t.contract i (contract-stands set' t.contract i trading.within trading.stands));
      holds = was_known.holds;
    }
