-- What a change of one account does to the rows of margin units: for each change of a register.
use Rattle.std.proofs.Common.{◌≡◌, ◌≢◌, ℕ, ◌<◌, List, length, map, set, get_or, sym, subst, position, All}
use Rattle.std.specs.Prelude.{ℤ, pos, ◌+ℤ◌, if◌then◌else◌, Some}
use Rattle.std.specs.List.{IsDistinct}
use Rattle.std.specs.Str.{bytes_eq}
use Rattle.mgn_params.specs.declared.tables.Contract.{Contract}
use Rattle.mgn_params.specs.Limits.{contract_names}
use Rattle.mgn_params.specs.Tables.{Tables}
use Rattle.mgn_unit.specs.declared.change.Change.{Change}
use Rattle.mgn_machine.specs.State.{AccountState, no_account}
use Rattle.mgn_machine.specs.Portfolios.{Portfolio, OnlyLots, WithBuys, WithSales, WithAll, unit_sum, account_net, account_size, account_worth, row_by, nets_of, sizes_of}
use Rattle.mgn_unit.specs.Rows.{priced, portfolio_of, row_of, more_at, portfolio_with, row_with, portfolio_with_worth, row_with_worth, IsRoomy}
use Rattle.mgn_unit.specs.Changes.{gain_of, Moves, MovesWorth}
use Rattle.mgn_span.specs.Positions.{IsNet}
use Rattle.mgn_unit.proofs.Bounded.{nets-within}
use Rattle.mgn_unit.proofs.Sums.{row-more, sum-moved, sum-apart, sum-stays}

-- where the contract of the change stands in the set
pub record Stands (set' : Tables) (contract : List ℕ) (i : ℕ) : Type 0 where
  pub apart : IsDistinct bytes_eq (contract_names set'.contracts)
  pub here : position (bytes_eq contract) (contract_names set'.contracts) ≡ Some i

-- the account at a place is of a unit, and another one of the same unit takes its place
pub record Replaces (accounts : List AccountState) (k u : ℕ) (b : AccountState) : Type 0 where
  pub inside : k < length accounts
  pub was : (get_or accounts k no_account).unit ≡ u
  pub now : b.unit ≡ u

-- Rows of numbers.

by-moved : (set' : Tables) (accounts : List AccountState) (k u : ℕ) (b : AccountState) (f : List ℕ → AccountState → ℤ) (contract : List ℕ) (i : ℕ) (quantity : ℤ) → Stands set' contract i → Replaces accounts k u b → ((c : List ℕ) → f c b ≡ f c (get_or accounts k no_account) +ℤ (if bytes_eq contract c then quantity else pos 0)) → row_by set'.contracts (set accounts k b) u f ≡ more_at (row_by set'.contracts accounts u f) i quantity
by-moved set' accounts k u b f contract i quantity stands replaces more =
    row-more (λ c. unit_sum u (f c) accounts) (λ c. unit_sum u (f c) (set accounts k b)) contract quantity set'.contracts i stands.apart stands.here
    (λ c. sum-moved u (f c) accounts k b _ replaces.inside replaces.was replaces.now (more c))

by-stays : (contracts : List Contract) (accounts : List AccountState) (k u : ℕ) (b : AccountState) (f : List ℕ → AccountState → ℤ) → k < length accounts → b.unit ≡ (get_or accounts k no_account).unit → ((c : List ℕ) → f c b ≡ f c (get_or accounts k no_account)) → row_by contracts (set accounts k b) u f ≡ row_by contracts accounts u f
by-stays contracts accounts k u b f inside now same = λ i. map (λ (c : Contract). sum-stays u (f c.name) accounts k b inside now (same c.name) i) contracts

by-apart : (contracts : List Contract) (accounts : List AccountState) (k u : ℕ) (b : AccountState) (f : List ℕ → AccountState → ℤ) → k < length accounts → (get_or accounts k no_account).unit ≢ u → b.unit ≡ (get_or accounts k no_account).unit → row_by contracts (set accounts k b) u f ≡ row_by contracts accounts u f
by-apart contracts accounts k u b f inside apart now = λ i. map (λ (c : Contract). sum-apart u (f c.name) accounts k b inside apart now i) contracts

-- Portfolios.

side-moved : (set' : Tables) (accounts : List AccountState) (k u : ℕ) (b : AccountState) (contract : List ℕ) (change : Change) (p : Portfolio) → Stands set' contract change.contract → Replaces accounts k u b → Moves set' contract change (get_or accounts k no_account) b → portfolio_of set' (set accounts k b) u p ≡ portfolio_with set' change.contract (gain_of change p) (portfolio_of set' accounts u p)
unfolding portfolio_of
side-moved set' accounts k u b contract change p stands replaces moves =
    let nets = by-moved set' accounts k u b (account_net p) contract change.contract (gain_of change p).quantity stands replaces (moves.net p) in
    let worth = sum-moved u (account_worth set' p) accounts k b (gain_of change p).worth replaces.inside replaces.was replaces.now (moves.worth p) in
    λ i. priced set' (nets i) (worth i)

side-moved_worth : (set' : Tables) (accounts : List AccountState) (k u : ℕ) (b : AccountState) (amount : ℤ) (p : Portfolio) → Replaces accounts k u b → MovesWorth set' amount (get_or accounts k no_account) b → portfolio_of set' (set accounts k b) u p ≡ portfolio_with_worth amount (portfolio_of set' accounts u p)
unfolding portfolio_of
side-moved_worth set' accounts k u b amount p replaces moves =
    let nets = by-stays set'.contracts accounts k u b (account_net p) replaces.inside moves.unit (moves.net p) in
    let worth = sum-moved u (account_worth set' p) accounts k b amount replaces.inside replaces.was replaces.now (moves.worth p) in
    λ i. priced set' (nets i) (worth i)

side-apart : (set' : Tables) (accounts : List AccountState) (k u : ℕ) (b : AccountState) (p : Portfolio) → k < length accounts → (get_or accounts k no_account).unit ≢ u → b.unit ≡ (get_or accounts k no_account).unit → portfolio_of set' (set accounts k b) u p ≡ portfolio_of set' accounts u p
unfolding portfolio_of
side-apart set' accounts k u b p inside apart now =
    let nets = by-apart set'.contracts accounts k u b (account_net p) inside apart now in
    let worth = sum-apart u (account_worth set' p) accounts k b inside apart now in
    λ i. priced set' (nets i) (worth i)

-- Rows of units.

-- the row of the account's unit, after a change in one contract
pub row-moved : (set' : Tables) (accounts : List AccountState) (k u : ℕ) (b : AccountState) (contract : List ℕ) (change : Change) → Stands set' contract change.contract → Replaces accounts k u b → Moves set' contract change (get_or accounts k no_account) b → row_of set' (set accounts k b) u ≡ row_with set' change (row_of set' accounts u)
row-moved set' accounts k u b contract change stands replaces moves = λ i. record {
  sizes = by-moved set' accounts k u b account_size contract change.contract change.size stands replaces moves.size i;
  lots = side-moved set' accounts k u b contract change OnlyLots stands replaces moves i;
  buys = side-moved set' accounts k u b contract change WithBuys stands replaces moves i;
  sales = side-moved set' accounts k u b contract change WithSales stands replaces moves i;
  all = side-moved set' accounts k u b contract change WithAll stands replaces moves i;
}

-- after a change of its worth alone
pub row-moved_worth : (set' : Tables) (accounts : List AccountState) (k u : ℕ) (b : AccountState) (amount : ℤ) → Replaces accounts k u b → MovesWorth set' amount (get_or accounts k no_account) b → row_of set' (set accounts k b) u ≡ row_with_worth amount (row_of set' accounts u)
row-moved_worth set' accounts k u b amount replaces moves = λ i. record {
  sizes = by-stays set'.contracts accounts k u b account_size replaces.inside moves.unit moves.size i;
  lots = side-moved_worth set' accounts k u b amount OnlyLots replaces moves i;
  buys = side-moved_worth set' accounts k u b amount WithBuys replaces moves i;
  sales = side-moved_worth set' accounts k u b amount WithSales replaces moves i;
  all = side-moved_worth set' accounts k u b amount WithAll replaces moves i;
}

-- the row of another unit
pub row-apart : (set' : Tables) (accounts : List AccountState) (k u : ℕ) (b : AccountState) → k < length accounts → (get_or accounts k no_account).unit ≢ u → b.unit ≡ (get_or accounts k no_account).unit → row_of set' (set accounts k b) u ≡ row_of set' accounts u
row-apart set' accounts k u b inside apart now = λ i. record {
  sizes = by-apart set'.contracts accounts k u b account_size inside apart now i;
  lots = side-apart set' accounts k u b OnlyLots inside apart now i;
  buys = side-apart set' accounts k u b WithBuys inside apart now i;
  sales = side-apart set' accounts k u b WithSales inside apart now i;
  all = side-apart set' accounts k u b WithAll inside apart now i;
}

-- What a change leaves within the limits.

-- the sizes after it are within the limit: then the nets are
pub roomy : (set' : Tables) (accounts : List AccountState) (k u : ℕ) (b : AccountState) (contract : List ℕ) (change : Change) → Stands set' contract change.contract → Replaces accounts k u b → Moves set' contract change (get_or accounts k no_account) b → All IsNet (more_at (sizes_of set' accounts u) change.contract change.size) → IsRoomy change (row_of set' accounts u)
unfolding portfolio_of
roomy set' accounts k u b contract change stands replaces moves sizes = record {
  sizes = sizes;
  lots = net OnlyLots;
  buys = net WithBuys;
  sales = net WithSales;
  all = net WithAll;
}
  where
    after : All IsNet (sizes_of set' (set accounts k b) u)
    after = subst (λ (row : List ℤ). All IsNet row) (sym (by-moved set' accounts k u b account_size contract change.contract change.size stands replaces moves.size)) sizes

    net : (p : Portfolio) → All IsNet (more_at (nets_of set' accounts u p) change.contract (gain_of change p).quantity)
    net p = subst (λ (row : List ℤ). All IsNet row) (by-moved set' accounts k u b (account_net p) contract change.contract (gain_of change p).quantity stands replaces (moves.net p)) (nets-within set' (set accounts k b) u p after)
