-- The rows of margin units: what is kept of them, and what it is worked out from.
use Rattle.std.specs.Prelude.{ℕ, Bool, ◌≡◌, ◌<◌, ◌≤◌, ◌^◌, ℤ, pos, ◌+ℤ◌, ◌-ℤ◌, int_lt, unsigned_abs, if◌then◌else◌, List, slice_set, length, replicate, All}
use Rattle.mgn_span.specs.Positions.{IsNet}
use Rattle.mgn_span.specs.Requirement.{requirement}
use Rattle.mgn_span.specs.Scan.{value_at}
use Rattle.mgn_params.specs.Tables.{Tables}
use Rattle.mgn_nets.specs.declared.portfolios.Portfolios.{Portfolios}
use Rattle.mgn_nets.specs.Portfolios.{UnitNets}
use Rattle.mgn_unit.specs.declared.change.Change.{Change}
use Rattle.mgn_unit.specs.declared.change.Gain.{Gain}
use Rattle.mgn_machine.specs.declared.reply.UnitFigures.{UnitFigures}
use Rattle.mgn_unit.specs.declared.row.Row.{Row}
use Rattle.mgn_unit.specs.declared.row.PortfolioRow.{PortfolioRow}
use Rattle.mgn_machine.specs.State.{AccountState}
use Rattle.mgn_machine.specs.Portfolios.{Portfolio, OnlyLots, WithBuys, WithSales, WithAll, unit_sum, account_worth, nets_of, sizes_of}

-- a portfolio of these nets and this worth
abbrev pub priced : Tables → List ℤ → ℤ → PortfolioRow
priced set nets worth = record { nets = nets; worth = worth; requirement = requirement set nets }

-- a portfolio of a unit
unfoldable pub portfolio_of : Tables → List AccountState → ℕ → Portfolio → PortfolioRow
portfolio_of set accounts u p = priced set (nets_of set accounts u p) (unit_sum u (account_worth set p) accounts)

-- the row of a unit
abbrev pub row_of : Tables → List AccountState → ℕ → Row
row_of set accounts u = record {
  sizes = sizes_of set accounts u;
  lots = portfolio_of set accounts u OnlyLots;
  buys = portfolio_of set accounts u WithBuys;
  sales = portfolio_of set accounts u WithSales;
  all = portfolio_of set accounts u WithAll;
}

-- the nets of a row
abbrev pub nets_in : Row → UnitNets
nets_in row = record { lots = row.lots.nets; buys = row.buys.nets; sales = row.sales.nets; all = row.all.nets }

-- Room (own profile).

-- what a portfolio has above its requirement
abbrev pub portfolio_room : PortfolioRow → ℤ
portfolio_room side = side.worth -ℤ side.requirement

-- the one of two portfolios that has less room; the first of equals
abbrev pub lesser : PortfolioRow → PortfolioRow → PortfolioRow
lesser first second = if int_lt (portfolio_room second) (portfolio_room first) then second else first

-- the first portfolio with the least room, in the order lots, buys, sales, all
abbrev pub least_portfolio : Row → PortfolioRow
least_portfolio row = lesser (lesser (lesser row.lots row.buys) row.sales) row.all

-- the figures of a unit
abbrev pub row_figures : Row → UnitFigures
row_figures row = record {
  requirement = row.lots.requirement;
  exposure_requirement = (least_portfolio row).requirement;
  value = row.lots.worth;
  exposure_value = (least_portfolio row).worth;
  room = portfolio_room (least_portfolio row);
}

-- the lesser of two rooms; the first of equals
abbrev pub lesser_room : ℤ → ℤ → ℤ
lesser_room first second = if int_lt second first then second else first

-- the least room of the portfolios of a unit is below 0
abbrev pub lacks_room : Row → Bool
lacks_room row = int_lt (portfolio_room (least_portfolio row)) (pos 0)

-- Changes of a row.

-- a row of numbers with a quantity more at a place
abbrev pub more_at : List ℤ → ℕ → ℤ → List ℤ
more_at row i quantity = slice_set row i (value_at row i +ℤ quantity)

-- a portfolio with what it gains in a contract
abbrev pub portfolio_with : Tables → ℕ → Gain → PortfolioRow → PortfolioRow
portfolio_with set i gain side = priced set (more_at side.nets i gain.quantity) (side.worth +ℤ gain.worth)

-- a row after a change in one contract
abbrev pub row_with : Tables → Change → Row → Row
row_with set change row = record {
  sizes = more_at row.sizes change.contract change.size;
  lots = portfolio_with set change.contract change.lots row.lots;
  buys = portfolio_with set change.contract change.buys row.buys;
  sales = portfolio_with set change.contract change.sales row.sales;
  all = portfolio_with set change.contract change.all row.all;
}

-- an amount more in worth, and no net changed
abbrev pub portfolio_with_worth : ℤ → PortfolioRow → PortfolioRow
portfolio_with_worth amount side = record side { worth = side.worth +ℤ amount }

abbrev pub row_with_worth : ℤ → Row → Row
row_with_worth amount row = record row {
  lots = portfolio_with_worth amount row.lots;
  buys = portfolio_with_worth amount row.buys;
  sales = portfolio_with_worth amount row.sales;
  all = portfolio_with_worth amount row.all;
}

-- more lots in a contract that leave every portfolio as it was
abbrev pub row_with_size : ℕ → ℤ → Row → Row
row_with_size i size row = record row { sizes = more_at row.sizes i size }

-- the row of a unit that has nothing
abbrev pub no_portfolio : Tables → PortfolioRow
no_portfolio set = record { nets = replicate (length set.contracts) (pos 0); worth = pos 0; requirement = pos 0 }

abbrev pub no_row : Tables → Row
no_row set = record {
  sizes = replicate (length set.contracts) (pos 0);
  lots = no_portfolio set;
  buys = no_portfolio set;
  sales = no_portfolio set;
  all = no_portfolio set;
}

-- Sizes.

-- the numbers of a portfolio as they can be
pub record IsPortfolioRow (set : Tables) (side : PortfolioRow) : Type 0 where
  pub one_each : length side.nets ≡ length set.contracts
  pub nets : All IsNet side.nets
  pub worth : unsigned_abs side.worth ≤ 10 ^ 24
  pub requirement : unsigned_abs side.requirement ≤ 10 ^ 30

pub record IsRow (set : Tables) (row : Row) : Type 0 where
  pub one_each : length row.sizes ≡ length set.contracts
  pub sizes : All IsNet row.sizes
  pub lots : IsPortfolioRow set row.lots
  pub buys : IsPortfolioRow set row.buys
  pub sales : IsPortfolioRow set row.sales
  pub all : IsPortfolioRow set row.all

-- what a portfolio gains, as it can be
pub record IsGain (gain : Gain) : Type 0 where
  pub quantity : unsigned_abs gain.quantity ≤ 10 ^ 7
  pub worth : unsigned_abs gain.worth ≤ 10 ^ 24

-- a change as it can be
pub record IsChange (set : Tables) (change : Change) : Type 0 where
  pub contract : change.contract < length set.contracts
  pub size : unsigned_abs change.size ≤ 10 ^ 7
  pub lots : IsGain change.lots
  pub buys : IsGain change.buys
  pub sales : IsGain change.sales
  pub all : IsGain change.all

-- the nets and sizes after a change are within the limits
pub record IsRoomy (change : Change) (row : Row) : Type 0 where
  pub sizes : All IsNet (more_at row.sizes change.contract change.size)
  pub lots : All IsNet (more_at row.lots.nets change.contract change.lots.quantity)
  pub buys : All IsNet (more_at row.buys.nets change.contract change.buys.quantity)
  pub sales : All IsNet (more_at row.sales.nets change.contract change.sales.quantity)
  pub all : All IsNet (more_at row.all.nets change.contract change.all.quantity)

-- what the portfolios of a unit require
abbrev pub Priced : Type 0
Priced = Portfolios ℤ

-- what a portfolio requires after a change
pub record PricesPortfolio (set : Tables) (i : ℕ) (gain : Gain) (side : PortfolioRow) (r : ℤ) : Type 0 where
  pub is : r ≡ requirement set (more_at side.nets i gain.quantity)
  pub small : unsigned_abs r ≤ 10 ^ 30

-- two portfolios have the same nets, and gain the same quantity
pub record GainsAlike (side other : PortfolioRow) (gain other_gain : Gain) : Type 0 where
  pub nets : side.nets ≡ other.nets
  pub quantity : gain.quantity ≡ other_gain.quantity

pub record Prices (set : Tables) (change : Change) (row : Row) (priced : Priced) : Type 0 where
  pub lots : PricesPortfolio set change.contract change.lots row.lots priced.lots
  pub buys : PricesPortfolio set change.contract change.buys row.buys priced.buys
  pub sales : PricesPortfolio set change.contract change.sales row.sales priced.sales
  pub all : PricesPortfolio set change.contract change.all row.all priced.all
