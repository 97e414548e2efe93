-- Rows of margin units under a set that comes into force during the day.
use Rattle.std.specs.Prelude.{ℕ, ◌≡◌, ◌≤◌, ◌^◌, Bool, IsTrue, ◌↔◌, ◌||◌, ◌&&◌, ℤ, pos, ◌+ℤ◌, ◌-ℤ◌, int_lt, unsigned_abs, Option, None, Some, position, List, length, map, slice_index_or}
use Rattle.std.specs.List.{list_all, range_with_len}
use Rattle.std.specs.Ordering.{int_eq}
use Rattle.std.specs.Str.{bytes_eq}
use Rattle.mgn_params.specs.declared.tables.Contract.{Contract}
use Rattle.mgn_params.specs.Limits.{contract_names}
use Rattle.mgn_params.specs.Tables.{Tables, contract_at}
use Rattle.mgn_span.specs.Requirement.{requirement}
use Rattle.mgn_span.specs.Scan.{value_at}
use Rattle.mgn_nets.specs.declared.portfolios.Portfolios.{Portfolios}
use Rattle.mgn_nets.specs.Numbers.{number_at}
use Rattle.mgn_nets.specs.Portfolios.{UnitNets}
use Rattle.mgn_coll.specs.Posted.{value}
use Rattle.mgn_machine.specs.State.{AccountState}
use Rattle.mgn_machine.specs.Portfolios.{unit_sum}
use Rattle.mgn_machine.specs.Refusals.{has_contract}
use Rattle.mgn_unit.specs.declared.row.Row.{Row}
use Rattle.mgn_unit.specs.declared.row.PreparedPortfolio.{PreparedPortfolio}
use Rattle.mgn_unit.specs.declared.row.PortfolioRow.{PortfolioRow}
use Rattle.mgn_unit.specs.Rows.{priced}

-- the set in force and the one that takes its place
pub record SetPair : Type 0 where
  pub old : Tables
  pub new : Tables

-- where each contract of a set stands in the set before it, by its name
abbrev pub places_in : Tables → Tables → List (Option ℕ)
places_in old new = map (λ (c : Contract). position (bytes_eq c.name) (contract_names old.contracts)) new.contracts

-- all places of a list of this length, in order
abbrev pub own_places : ℕ → List (Option ℕ)
own_places count = map Some (range_with_len 0 count)

-- the places of a switch, and whether it keeps them: each contract of the old set has its own in the new one
pub record ArePlaces (old new : Tables) (places : List (Option ℕ)) (keeps : Bool) : Type 0 where
  pub are : places ≡ places_in old new
  pub kept : IsTrue keeps ↔ (places ≡ own_places (length old.contracts))

-- one number for each contract of the new set: that of its name under the old set, 0 where that had none
abbrev pub carried : Tables → Tables → List ℤ → List ℤ
carried old new row = map (number_at row) (places_in old new)

-- a portfolio under the new set, with an amount more in worth
abbrev pub portfolio_under : Tables → Tables → ℤ → PortfolioRow → PortfolioRow
portfolio_under old new gain side = priced new (carried old new side.nets) (side.worth +ℤ gain)

-- a row under the new set, with an amount more in worth
abbrev pub row_under : Tables → Tables → ℤ → Row → Row
row_under old new gain row = record {
  sizes = carried old new row.sizes;
  lots = portfolio_under old new gain row.lots;
  buys = portfolio_under old new gain row.buys;
  sales = portfolio_under old new gain row.sales;
  all = portfolio_under old new gain row.all;
}

-- what nets require under a set, as large as it can be
pub record IsRequired (set : Tables) (nets : List ℤ) (r : ℤ) : Type 0 where
  pub is : r ≡ requirement set nets
  pub small : unsigned_abs r ≤ 10 ^ 30

-- what was prepared is what these nets require under the set
abbrev pub IsPreparedPortfolio : Tables → PreparedPortfolio → Type 0
IsPreparedPortfolio set prepared = IsRequired set prepared.nets prepared.requirement

-- what was prepared of the portfolios of a unit
abbrev pub PreparedUnit : Type 0
PreparedUnit = Portfolios PreparedPortfolio

pub record IsPrepared (set : Tables) (prepared : PreparedUnit) : Type 0 where
  pub lots : IsPreparedPortfolio set prepared.lots
  pub buys : IsPreparedPortfolio set prepared.buys
  pub sales : IsPreparedPortfolio set prepared.sales
  pub all : IsPreparedPortfolio set prepared.all

-- what was prepared of units, by their numbers
abbrev pub ArePrepared : Tables → List (Option PreparedUnit) → Type 0
ArePrepared set units = (u : ℕ) (one : PreparedUnit) → slice_index_or units u None ≡ Some one → IsPrepared set one

-- the worths of a row as they can be
pub record AreWorths (row : Row) : Type 0 where
  pub lots : unsigned_abs row.lots.worth ≤ 10 ^ 24
  pub buys : unsigned_abs row.buys.worth ≤ 10 ^ 24
  pub sales : unsigned_abs row.sales.worth ≤ 10 ^ 24
  pub all : unsigned_abs row.all.worth ≤ 10 ^ 24

-- how much more an account's collateral is worth under the new set
abbrev pub value_gain : Tables → Tables → AccountState → ℤ
value_gain old new a = pos (value new.classes a.collateral) -ℤ pos (value old.classes a.collateral)

-- how much more that of a unit's accounts is worth
abbrev pub unit_gain : Tables → Tables → List AccountState → ℕ → ℤ
unit_gain old new accounts u = unit_sum u (value_gain old new) accounts

-- nothing is live or held in a contract of the old set, or the new set has it
abbrev pub is_covered_at : Tables → Tables → List ℤ → ℕ → Bool
is_covered_at old new sizes i = int_eq (value_at sizes i) (pos 0) || has_contract new (contract_at old.contracts i).name

-- the new set has each contract in which something is live or held
abbrev pub is_covered : Tables → Tables → List ℤ → Bool
is_covered old new sizes = list_all (is_covered_at old new sizes) (range_with_len 0 (length old.contracts))

-- the new set has each contract in which a net of a unit is not 0
abbrev pub is_unit_covered : Tables → Tables → UnitNets → Bool
is_unit_covered old new nets =
    let by = is_covered old new in
    by nets.lots && by nets.buys && by nets.sales && by nets.all

-- the lots require more than is there for them
abbrev pub row_on_call : Row → Bool
row_on_call row = int_lt row.lots.worth row.lots.requirement
