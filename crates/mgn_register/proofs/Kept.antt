-- Rows that are kept under a change of one account: for each change of the register.
use Rattle.std.proofs.Common.{◌≡◌, ◌≢◌, ℕ, ◌<◌, ◌≤◌, ◌^◌, List, [], length, set, get_or, refl, sym, ap, ◌∙◌, subst, arith, All, Bool, true, false}
use Rattle.std.specs.Prelude.{is_some, Err, ℤ, pos, ◌+ℤ◌, unsigned_abs, nat_eq, nat_lt, Some, None, Option, Ok, IfSome}
use Rattle.std.specs.Str.{bytes_eq}
use Rattle.std.proofs.lemmas.Bool.Decides.{nat_tests}
use Rattle.std.proofs.lemmas.List.{get_or-set_same, get_or-set_other, get_or_default, set-get_or, length-set, length-map}
use Rattle.std.proofs.lemmas.List.Elements.{All-set, All-get_or}
use Rattle.std.proofs.lemmas.List.Quantifiers.{position-Some}
use Rattle.std.proofs.Math.Seq.{map-set_same}
use Rattle.mgn_params.specs.declared.tables.Contract.{Contract}
use Rattle.mgn_params.specs.Limits.{IsWithinLimits, contract_names}
use Rattle.mgn_span.specs.Positions.{IsNet}
use Rattle.mgn_params.specs.Tables.{Tables}
use Rattle.mgn_lots.specs.Lots.{is_live, lot_at, no_lot}
use Rattle.mgn_unit.specs.declared.change.Change.{Change}
use Rattle.mgn_unit.specs.declared.change.Gain.{Gain}
use Rattle.mgn_machine.specs.declared.origin.Origin.{Origin}
use Rattle.mgn_machine.specs.declared.reply.Refusal.{Refusal}
use Rattle.mgn_unit.specs.declared.row.Row.{Row}
use Rattle.mgn_unit.specs.declared.row.PortfolioRow.{PortfolioRow}
use Rattle.mgn_machine.specs.State.{AccountState, IsAccount, no_account}
use Rattle.mgn_machine.specs.Portfolios.{Portfolio, OnlyLots, WithBuys, WithSales, WithAll}
use Rattle.mgn_machine.specs.Refusals.{found, contract_of, account_names, has_contract, IsKnown}
use Rattle.mgn_unit.specs.Rows.{IsRow, IsPortfolioRow, IsRoomy, Prices, PricesPortfolio, Priced, more_at, row_of, row_with, row_with_worth, portfolio_of, portfolio_with, portfolio_with_worth}
use Rattle.mgn_unit.specs.Changes.{Moves, MovesWorth}
use Rattle.mgn_unit.proofs.Bounded.{worth-le}
use Rattle.mgn_unit.proofs.Moved.{Stands, row-moved, row-moved_worth, row-apart, roomy}
use Rattle.mgn_register.specs.BookStates.{BookState, book_state, IsKept, IsUnitRow}

-- The contract of a name.

pub found-Some : (o : Option ℕ) (why : Refusal) (i : ℕ) → found o why ≡ Ok i → o ≡ Some i
found-Some None why i here = cc
found-Some (Some j) why i here = cc

pub contract-stands : (set' : Tables) (name : List ℕ) (i : ℕ) → IsWithinLimits set' → contract_of set' name ≡ Ok i → Stands set' name i
unfolding contract_of
contract-stands set' name i limits here = record { apart = limits.contract_names; here = found-Some _ _ i here }

pub stands-inside : (set' : Tables) (name : List ℕ) (i : ℕ) → Stands set' name i → i < length set'.contracts
stands-inside set' name i stands =
    omega (arith, (position-Some (bytes_eq name) (contract_names set'.contracts) i [] stands.here).0, length-map set'.contracts (λ (c : Contract). c.name))

-- What is kept of an account's unit.

pub unit-inside : (set' : Tables) (f : BookState) (k : ℕ) (a : AccountState) → IsKept set' f → k < length f.state.accounts → a ≡ get_or f.state.accounts k a → a.unit < length f.rows
unit-inside set' f k a kept h there =
    subst (λ (x : AccountState). x.unit < length f.rows) (sym (there ∙ get_or_default f.state.accounts k a no_account h))
    (All-get_or (λ (x : AccountState). x.unit < length f.rows) f.state.accounts k no_account h kept.within)

pub home-inside : (set' : Tables) (f : BookState) (k : ℕ) (a : AccountState) → IsKept set' f → k < length f.state.accounts → a ≡ get_or f.state.accounts k a → a.origin < length f.state.origins
home-inside set' f k a kept h there =
    subst (λ (x : AccountState). x.origin < length f.state.origins) (sym (there ∙ get_or_default f.state.accounts k a no_account h))
    (All-get_or (λ (x : AccountState). x.origin < length f.state.origins) f.state.accounts k no_account h kept.homes)

pub row-there : (set' : Tables) (f : BookState) (k : ℕ) (a : AccountState) (r : Row) → IsKept set' f → k < length f.state.accounts → a ≡ get_or f.state.accounts k a → r ≡ get_or f.rows a.unit r → IsUnitRow set' f.state.accounts a.unit r
row-there set' f k a r kept h there is =
    subst (λ (x : Row). IsUnitRow set' f.state.accounts a.unit x) (sym is) (kept.rows a.unit r (unit-inside set' f k a kept h there))

-- The numbers of a row after a change.

side-worth-le : (set' : Tables) (accounts : List AccountState) (u : ℕ) (p : Portfolio) → IsWithinLimits set' → All IsAccount accounts → length accounts ≤ 1024 → unsigned_abs (portfolio_of set' accounts u p).worth ≤ 10 ^ 24
unfolding portfolio_of
side-worth-le set' accounts u p within limits few = omega (arith, worth-le set' u p accounts within limits few)

side-after : (set' : Tables) (i : ℕ) (gain : Gain) (side : PortfolioRow) (r : ℤ) → IsPortfolioRow set' side → All IsNet (more_at side.nets i gain.quantity) → PricesPortfolio set' i gain side r → unsigned_abs (portfolio_with set' i gain side).worth ≤ 10 ^ 24 → IsPortfolioRow set' (portfolio_with set' i gain side)
side-after set' i gain side r is nets priced worth = record {
  one_each = length-set side.nets i (get_or side.nets i (pos 0) +ℤ gain.quantity) ∙ is.one_each;
  nets = nets;
  worth = worth;
  requirement = subst (λ (z : ℤ). unsigned_abs z ≤ 10 ^ 30) priced.is priced.small;
}

row-after : (set' : Tables) (change : Change) (r : Row) (priced : Priced) → IsRow set' r → IsRoomy change r → Prices set' change r priced → unsigned_abs (row_with set' change r).lots.worth ≤ 10 ^ 24 → unsigned_abs (row_with set' change r).buys.worth ≤ 10 ^ 24 → unsigned_abs (row_with set' change r).sales.worth ≤ 10 ^ 24 → unsigned_abs (row_with set' change r).all.worth ≤ 10 ^ 24 → IsRow set' (row_with set' change r)
row-after set' change r priced is room prices lots buys sales all = record {
  one_each = length-set r.sizes change.contract (get_or r.sizes change.contract (pos 0) +ℤ change.size) ∙ is.one_each;
  sizes = room.sizes;
  lots = side-after set' change.contract change.lots r.lots priced.lots is.lots room.lots prices.lots lots;
  buys = side-after set' change.contract change.buys r.buys priced.buys is.buys room.buys prices.buys buys;
  sales = side-after set' change.contract change.sales r.sales priced.sales is.sales room.sales prices.sales sales;
  all = side-after set' change.contract change.all r.all priced.all is.all room.all prices.all all;
}

-- A book_state on which one account and the row of its unit have changed.

-- what is known of the account and its row, before and after
pub record Changes (set' : Tables) (f : BookState) (k : ℕ) (a b : AccountState) (row : Row) : Type 0 where
  pub kept : IsKept set' f
  pub account : k < length f.state.accounts
  pub was : a ≡ get_or f.state.accounts k a
  pub unit : b.unit ≡ a.unit
  pub origin : b.origin ≡ a.origin
  pub limits : IsAccount b
  pub known : IsKnown set' b
  pub own : IsUnitRow set' (set f.state.accounts k b) a.unit row

there : (set' : Tables) (f : BookState) (k : ℕ) (a b : AccountState) (row : Row) → Changes set' f k a b row → a ≡ get_or f.state.accounts k no_account
there set' f k a b row changes = changes.was ∙ get_or_default f.state.accounts k a no_account changes.account

pub kept-changed : (set' : Tables) (origins : List Origin) (accounts : List AccountState) (rows : List Row) (closed : Bool) (version : ℕ) (k : ℕ) (a b : AccountState) (row : Row) → Changes set' (book_state origins accounts rows closed version) k a b row → IsKept set' (book_state origins (set accounts k b) (set rows a.unit row) closed version)
kept-changed set' origins accounts rows closed version k a b row changes = record {
  units = refl;
  few_units = omega (arith, long, kept.few_units);
  few_accounts = omega (arith, length-set accounts k b, kept.few_accounts);
  accounts = All-set IsAccount accounts k b changes.limits kept.accounts;
  known = All-set (IsKnown set') accounts k b changes.known kept.known;
  within = subst (λ (m : ℕ). All (λ (x : AccountState). x.unit < m) (set accounts k b)) (sym long)
      (All-set (λ (x : AccountState). x.unit < length rows) accounts k b (subst (λ (m : ℕ). m < length rows) (sym changes.unit) inside) kept.within);
  homes = All-set (λ (x : AccountState). x.origin < length origins) accounts k b (subst (λ (m : ℕ). m < length origins) (sym changes.origin) home) kept.homes;
  netted = subst (λ (m : ℕ). All (λ (o : Origin). IfSome o.unit (λ u. u < m)) origins) (sym long) kept.netted;
  rows = λ u d less. at u d (omega (arith, long, less)) (nat_eq u a.unit) refl;
}
  where
    f : BookState
    f = book_state origins accounts rows closed version

    kept : IsKept set' f
    kept = changes.kept

    long : length (set rows a.unit row) ≡ length rows
    long = length-set rows a.unit row

    was : a ≡ get_or accounts k no_account
    was = there set' f k a b row changes

    inside : a.unit < length rows
    inside = unit-inside set' f k a kept changes.account changes.was

    home : a.origin < length origins
    home = home-inside set' f k a kept changes.account changes.was

    at : (u : ℕ) (d : Row) → u < length rows → (t : Bool) → nat_eq u a.unit ≡ t → IsUnitRow set' (set accounts k b) u (get_or (set rows a.unit row) u d)
    at u d less true e =
        let here : u ≡ a.unit = grind (arith, nat_tests) in
        subst (λ (v : ℕ). IsUnitRow set' (set accounts k b) v (get_or (set rows a.unit row) v d)) (sym here)
        (subst (λ (x : Row). IsUnitRow set' (set accounts k b) a.unit x) (sym (get_or-set_same rows a.unit row d inside)) changes.own)
    at u d less false e =
        let apart : u ≢ a.unit = λ (x : u ≡ a.unit). absurd (grind (arith, nat_tests)) in
        let old : IsUnitRow set' accounts u (get_or rows u d) = kept.rows u d less in
        subst (λ (x : Row). IsUnitRow set' (set accounts k b) u x) (sym (get_or-set_other rows a.unit u row d apart))
        record {
          is = old.is ∙ sym (row-apart set' accounts k u b changes.account (λ (x : (get_or accounts k no_account).unit ≡ u). apart (sym x ∙ ap (λ (y : AccountState). y.unit) (sym was))) (changes.unit ∙ ap (λ (y : AccountState). y.unit) was));
          limits = old.limits;
        }

-- the row after a change in one contract
pub own-moved : (set' : Tables) (f : BookState) (k : ℕ) (a b : AccountState) (contract : List ℕ) (change : Change) (r : Row) (priced : Priced) → IsWithinLimits set' → IsKept set' f → k < length f.state.accounts → a ≡ get_or f.state.accounts k a → r ≡ get_or f.rows a.unit r → IsAccount b → Stands set' contract change.contract → Moves set' contract change a b → IsRoomy change r → Prices set' change r priced → IsUnitRow set' (set f.state.accounts k b) a.unit (row_with set' change r)
own-moved set' f k a b contract change r priced within kept h was is limits stands moves room prices = record {
  is = same;
  limits = row-after set' change r priced old.limits room prices (worth OnlyLots (λ (x : Row). x.lots) refl) (worth WithBuys (λ (x : Row). x.buys) refl) (worth WithSales (λ (x : Row). x.sales) refl) (worth WithAll (λ (x : Row). x.all) refl);
}
  where
    accounts : List AccountState
    accounts = f.state.accounts

    there_is : a ≡ get_or accounts k no_account
    there_is = was ∙ get_or_default accounts k a no_account h

    old : IsUnitRow set' accounts a.unit r
    old = row-there set' f k a r kept h was is

    same : row_with set' change r ≡ row_of set' (set accounts k b) a.unit
    same = ap (λ (x : Row). row_with set' change x) old.is ∙ sym (row-moved set' accounts k a.unit b contract change stands record { inside = h; was = ap (λ (x : AccountState). x.unit) (sym there_is); now = moves.unit } (subst (λ (x : AccountState). Moves set' contract change x b) there_is moves))

    few : length (set accounts k b) ≤ 1024
    few = omega (arith, length-set accounts k b, kept.few_accounts)

    all : All IsAccount (set accounts k b)
    all = All-set IsAccount accounts k b limits kept.accounts

    worth : (p : Portfolio) (side : Row → PortfolioRow) → (side (row_of set' (set accounts k b) a.unit) ≡ portfolio_of set' (set accounts k b) a.unit p) → unsigned_abs (side (row_with set' change r)).worth ≤ 10 ^ 24
    worth p side e = subst (λ (x : PortfolioRow). unsigned_abs x.worth ≤ 10 ^ 24) (sym (ap side same ∙ e)) (side-worth-le set' (set accounts k b) a.unit p within all few)

-- both together: an account and the row of its unit after a change in one contract
pub kept-moved : (set' : Tables) (origins : List Origin) (accounts : List AccountState) (rows : List Row) (closed : Bool) (version : ℕ) (k : ℕ) (a b : AccountState) (contract : List ℕ) (change : Change) (r : Row) (priced : Priced) → IsWithinLimits set' → IsKept set' (book_state origins accounts rows closed version) → k < length accounts → a ≡ get_or accounts k a → r ≡ get_or rows a.unit r → b.origin ≡ a.origin → IsAccount b → IsKnown set' b → Stands set' contract change.contract → Moves set' contract change a b → IsRoomy change r → Prices set' change r priced → IsKept set' (book_state origins (set accounts k b) (set rows a.unit (row_with set' change r)) closed version)
kept-moved set' origins accounts rows closed version k a b contract change r priced within kept h was is origin limits known stands moves room prices =
    kept-changed set' origins accounts rows closed version k a b (row_with set' change r) record {
      kept = kept;
      account = h;
      was = was;
      unit = moves.unit;
      origin = origin;
      limits = limits;
      known = known;
      own = own-moved set' (book_state origins accounts rows closed version) k a b contract change r priced within kept h was is limits stands moves room prices;
    }

-- Where a change of one contract leaves the row within the limits: the sizes tell.
pub room-by : (set' : Tables) (f : BookState) (k : ℕ) (a b : AccountState) (contract : List ℕ) (change : Change) (r : Row) → IsKept set' f → k < length f.state.accounts → a ≡ get_or f.state.accounts k a → r ≡ get_or f.rows a.unit r → Stands set' contract change.contract → Moves set' contract change a b → All IsNet (more_at r.sizes change.contract change.size) → IsRoomy change r
room-by set' f k a b contract change r kept h was is stands moves sizes =
    subst (λ (x : Row). IsRoomy change x) (sym old.is)
    (roomy set' f.state.accounts k a.unit b contract change stands record { inside = h; was = ap (λ (x : AccountState). x.unit) (sym there_is); now = moves.unit }
    (subst (λ (x : AccountState). Moves set' contract change x b) there_is moves)
    (subst (λ (x : Row). All IsNet (more_at x.sizes change.contract change.size)) old.is sizes))
  where
    there_is : a ≡ get_or f.state.accounts k no_account
    there_is = was ∙ get_or_default f.state.accounts k a no_account h

    old : IsUnitRow set' f.state.accounts a.unit r
    old = row-there set' f k a r kept h was is

-- one size more, where it stays within the limit
pub sizes-more : (row : List ℤ) (i : ℕ) (size : ℤ) → All IsNet row → IsNet (get_or row i (pos 0) +ℤ size) → All IsNet (more_at row i size)
sizes-more row i size small more =
    by (nat_lt i (length row)) refl
  where
    by : (b : Bool) → nat_lt i (length row) ≡ b → All IsNet (more_at row i size)
    by true e = All-set IsNet row i (get_or row i (pos 0) +ℤ size) more small
    by false e = All-set IsNet row i (get_or row i (pos 0) +ℤ size) more small

-- The row after a change of worth alone.

worth-side : (set' : Tables) (amount : ℤ) (side : PortfolioRow) → IsPortfolioRow set' side → unsigned_abs (portfolio_with_worth amount side).worth ≤ 10 ^ 24 → IsPortfolioRow set' (portfolio_with_worth amount side)
worth-side set' amount side is worth = record { one_each = is.one_each; nets = is.nets; worth = worth; requirement = is.requirement }

pub own-moved_worth : (set' : Tables) (f : BookState) (k : ℕ) (a b : AccountState) (amount : ℤ) (r : Row) → IsWithinLimits set' → IsKept set' f → k < length f.state.accounts → a ≡ get_or f.state.accounts k a → r ≡ get_or f.rows a.unit r → IsAccount b → MovesWorth set' amount a b → IsUnitRow set' (set f.state.accounts k b) a.unit (row_with_worth amount r)
own-moved_worth set' f k a b amount r within kept h was is limits moves = record {
  is = same;
  limits = record {
    one_each = old.limits.one_each;
    sizes = old.limits.sizes;
    lots = worth-side set' amount r.lots old.limits.lots (worth OnlyLots (λ (x : Row). x.lots) refl);
    buys = worth-side set' amount r.buys old.limits.buys (worth WithBuys (λ (x : Row). x.buys) refl);
    sales = worth-side set' amount r.sales old.limits.sales (worth WithSales (λ (x : Row). x.sales) refl);
    all = worth-side set' amount r.all old.limits.all (worth WithAll (λ (x : Row). x.all) refl);
  };
}
  where
    accounts : List AccountState
    accounts = f.state.accounts

    there_is : a ≡ get_or accounts k no_account
    there_is = was ∙ get_or_default accounts k a no_account h

    old : IsUnitRow set' accounts a.unit r
    old = row-there set' f k a r kept h was is

    same : row_with_worth amount r ≡ row_of set' (set accounts k b) a.unit
    same = ap (λ (x : Row). row_with_worth amount x) old.is ∙ sym (row-moved_worth set' accounts k a.unit b amount record { inside = h; was = ap (λ (x : AccountState). x.unit) (sym there_is); now = moves.unit } (subst (λ (x : AccountState). MovesWorth set' amount x b) there_is moves))

    few : length (set accounts k b) ≤ 1024
    few = omega (arith, length-set accounts k b, kept.few_accounts)

    all : All IsAccount (set accounts k b)
    all = All-set IsAccount accounts k b limits kept.accounts

    worth : (p : Portfolio) (side : Row → PortfolioRow) → (side (row_of set' (set accounts k b) a.unit) ≡ portfolio_of set' (set accounts k b) a.unit p) → unsigned_abs (side (row_with_worth amount r)).worth ≤ 10 ^ 24
    worth p side e = subst (λ (x : PortfolioRow). unsigned_abs x.worth ≤ 10 ^ 24) (sym (ap side same ∙ e)) (side-worth-le set' (set accounts k b) a.unit p within all few)

-- The names of the accounts stay.
pub names-kept : (names : List (List ℕ)) (accounts : List AccountState) (k : ℕ) (b d : AccountState) → names ≡ account_names accounts → b.name ≡ (get_or accounts k d).name → names ≡ account_names (set accounts k b)
names-kept names accounts k b d are same = are ∙ sym (map-set_same (λ (a : AccountState). a.name) accounts k b d same)

-- An account that is there is within the limits, and the set has its contracts.

pub account-limits : (set' : Tables) (f : BookState) (k : ℕ) (a : AccountState) → IsKept set' f → k < length f.state.accounts → a ≡ get_or f.state.accounts k a → IsAccount a
account-limits set' f k a kept h was =
    subst IsAccount (sym (was ∙ get_or_default f.state.accounts k a no_account h)) (All-get_or IsAccount f.state.accounts k no_account h kept.accounts)

pub account-known : (set' : Tables) (f : BookState) (k : ℕ) (a : AccountState) → IsKept set' f → k < length f.state.accounts → a ≡ get_or f.state.accounts k a → IsKnown set' a
account-known set' f k a kept h was =
    subst (IsKnown set') (sym (was ∙ get_or_default f.state.accounts k a no_account h)) (All-get_or (IsKnown set') f.state.accounts k no_account h kept.known)

-- a contract that stands in the set is one of it
pub stands-known : (set' : Tables) (contract : List ℕ) (i : ℕ) → Stands set' contract i → has_contract set' contract ≡ true
stands-known set' contract i stands = ap is_some stands.here

-- The end of the day.
pub kept-closed : (set' : Tables) (f : BookState) → IsKept set' f → IsKept set' (book_state f.state.origins f.state.accounts f.rows true f.state.version)
kept-closed set' f kept = record {
  units = refl;
  few_units = kept.few_units;
  few_accounts = kept.few_accounts;
  accounts = kept.accounts;
  known = kept.known;
  within = kept.within;
  homes = kept.homes;
  netted = kept.netted;
  rows = kept.rows;
}

-- What was written is what was there.
pub kept-same : (set' : Tables) (origins : List Origin) (accounts : List AccountState) (rows : List Row) (closed : Bool) (version : ℕ) (k u : ℕ) (a b : AccountState) (r row : Row) → IsKept set' (book_state origins accounts rows closed version) → a ≡ get_or accounts k a → b ≡ a → r ≡ get_or rows u r → row ≡ r → IsKept set' (book_state origins (set accounts k b) (set rows u row) closed version)
kept-same set' origins accounts rows closed version k u a b r row kept was same is unchanged =
    subst (λ (x : List AccountState × List Row). IsKept set' (book_state origins x.0 x.1 closed version)) (λ j. (sym accounts_are j, sym rows_are j)) kept
  where
    accounts_are : set accounts k b ≡ accounts
    accounts_are = ap (λ (x : AccountState). set accounts k x) (same ∙ was) ∙ set-get_or accounts k a

    rows_are : set rows u row ≡ rows
    rows_are = ap (λ (x : Row). set rows u x) (unchanged ∙ is) ∙ set-get_or rows u r

-- The contract of a live lot stands in the set.

pub lot-known : (set' : Tables) (f : BookState) (k at : ℕ) (a : AccountState) → IsKept set' f → k < length f.state.accounts → a ≡ get_or f.state.accounts k a → at < length a.lots → is_live (lot_at a.lots at).mark ≡ true → has_contract set' (lot_at a.lots at).contract ≡ true
lot-known set' f k at a kept h was inside live = (account-known set' f k a kept h was).lots at no_lot inside live

found-known : (o : Option ℕ) (why problem : Refusal) → is_some o ≡ true → found o why ≡ Err problem → ⊥
found-known None why problem known not_there = cc
found-known (Some i) why problem known not_there = cc

pub known-stands : (set' : Tables) (contract : List ℕ) (why : Refusal) → has_contract set' contract ≡ true → contract_of set' contract ≡ Err why → ⊥
unfolding contract_of
known-stands set' contract why known not_there = found-known _ _ why known not_there
