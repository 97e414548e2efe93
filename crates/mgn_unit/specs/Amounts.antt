-- Rows of margin units under another set in which each contract keeps its place: nets and sizes stay, amounts are new.
use Rattle.std.specs.Prelude.{ℕ, ◌≡◌, ◌<◌, ℤ, pos, ◌+ℤ◌, IsSome, List, None, Option, Some, length, slice_index_or}
use Rattle.mgn_params.specs.Tables.{Tables}
use Rattle.mgn_nets.specs.declared.portfolios.Portfolios.{Portfolios}
use Rattle.mgn_unit.specs.declared.amounts.Amounts.{Amounts}
use Rattle.mgn_unit.specs.declared.amounts.NewRows.{NewRows}
use Rattle.mgn_unit.specs.declared.amounts.NewRows.TheVariants.{Kept, Moved}
use Rattle.mgn_unit.specs.declared.row.PortfolioRow.{PortfolioRow}
use Rattle.mgn_unit.specs.declared.row.Row.{Row}
use Rattle.mgn_unit.specs.NewSets.{IsRequired, own_places, places_in}
use Rattle.mgn_unit.specs.Rows.{Priced}

-- each contract of the old set has its own place in the new one, which has no other
abbrev pub KeepsPlaces : Tables → Tables → Type 0
KeepsPlaces old new = places_in old new ≡ own_places (length old.contracts)

-- the amounts of the portfolios of a unit
abbrev pub UnitAmounts : Type 0
UnitAmounts = Portfolios Amounts

abbrev pub portfolio_with_amounts : Amounts → PortfolioRow → PortfolioRow
portfolio_with_amounts amounts side =
    record { nets = side.nets; worth = amounts.worth; requirement = amounts.requirement }

-- a row with other amounts
abbrev pub row_with_amounts : UnitAmounts → Row → Row
row_with_amounts amounts row = record {
  sizes = row.sizes;
  lots = portfolio_with_amounts amounts.lots row.lots;
  buys = portfolio_with_amounts amounts.buys row.buys;
  sales = portfolio_with_amounts amounts.sales row.sales;
  all = portfolio_with_amounts amounts.all row.all;
}

-- what each portfolio of a row requires under a set
pub record AreRequired (set : Tables) (row : Row) (priced : Priced) : Type 0 where
  pub lots : IsRequired set row.lots.nets priced.lots
  pub buys : IsRequired set row.buys.nets priced.buys
  pub sales : IsRequired set row.sales.nets priced.sales
  pub all : IsRequired set row.all.nets priced.all

-- what is known of units' requirements under a set is that of their rows, by the units' numbers
abbrev pub AreKnown : Tables → List Row → List (Option Priced) → Type 0
AreKnown set rows known =
    (u : ℕ) (d : Row) (priced : Priced) → u < length rows → slice_index_or known u None ≡ Some priced →
    AreRequired set (slice_index_or rows u d) priced

-- something is known of each unit's
abbrev pub AreAllKnown : List Row → List (Option Priced) → Type 0
AreAllKnown rows known = (u : ℕ) → u < length rows → IsSome (slice_index_or known u None)

-- the amounts of a row with an amount more in worth, and with these requirements
abbrev pub amounts_with : ℤ → Priced → Row → UnitAmounts
amounts_with gain priced row = record {
  lots = record { worth = row.lots.worth +ℤ gain; requirement = priced.lots };
  buys = record { worth = row.buys.worth +ℤ gain; requirement = priced.buys };
  sales = record { worth = row.sales.worth +ℤ gain; requirement = priced.sales };
  all = record { worth = row.all.worth +ℤ gain; requirement = priced.all };
}

-- stand for those of a unit past the end of a list
abbrev pub no_amounts : UnitAmounts
no_amounts =
    let none : Amounts = record { worth = pos 0; requirement = pos 0 } in
    record { lots = none; buys = none; sales = none; all = none }

-- the rows of units with other amounts, by the units' numbers
pub record AreWithAmounts (amounts : List UnitAmounts) (old new : List Row) : Type 0 where
  pub long : length new ≡ length old
  pub are : (u : ℕ) (d : Row) → u < length old → slice_index_or new u d ≡ row_with_amounts (slice_index_or amounts u no_amounts) (slice_index_or old u d)

-- what the rows of units become under another set
abbrev pub AreAfter : NewRows → List Row → List Row → Type 0
AreAfter (Kept amounts) old new = AreWithAmounts amounts.items old new
AreAfter (Moved rows) old new = new ≡ rows.items
