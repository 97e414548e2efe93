-- Rows under a new set in which each contract keeps its place: for the amounts of a switch.
use Rattle.std.proofs.Common.{◌≡◌, ◌≤◌, ◌^◌, List, length, refl, sym, ap, ◌∙◌, subst, position}
use Rattle.std.specs.Prelude.{ℤ, ◌+ℤ◌, unsigned_abs}
use Rattle.std.specs.Str.{bytes_eq}
use Rattle.std.proofs.lemmas.List.{length-map}
use Rattle.mgn_params.specs.declared.tables.Contract.{Contract}
use Rattle.mgn_params.specs.Limits.{contract_names}
use Rattle.mgn_params.specs.Tables.{Tables}
use Rattle.mgn_nets.specs.Portfolios.{AreNets}
use Rattle.mgn_unit.specs.declared.row.PortfolioRow.{PortfolioRow}
use Rattle.mgn_unit.specs.declared.row.Row.{Row}
use Rattle.mgn_unit.specs.Amounts.{AreRequired, KeepsPlaces, amounts_with, portfolio_with_amounts, row_with_amounts}
use Rattle.mgn_unit.specs.NewSets.{AreWorths, IsRequired, carried, places_in, portfolio_under, row_under}
use Rattle.mgn_unit.specs.Rows.{IsPortfolioRow, IsRow, Priced, priced, row_with_worth}
use Rattle.mgn_unit.proofs.InPlace.{carried-in_place, own-length}

-- the new set has as many contracts
kept-length : (old new : Tables) → KeepsPlaces old new → length old.contracts ≡ length new.contracts
kept-length old new keeps =
    sym (own-length (places_in old new) (length old.contracts) keeps)
    ∙ length-map new.contracts (λ (c : Contract). position (bytes_eq c.name) (contract_names old.contracts))

-- what is carried over is what there was
pub kept-carried : (old new : Tables) (row : List ℤ) → KeepsPlaces old new → length row ≡ length old.contracts → carried old new row ≡ row
kept-carried old new row keeps long = carried-in_place old new (places_in old new) row refl keeps long

pub kept-nets : (old new : Tables) (nets : List ℤ) → KeepsPlaces old new → AreNets old nets → AreNets new nets
kept-nets old new nets keeps are = record { one_each = are.one_each ∙ kept-length old new keeps; small = are.small }

-- what is required for nets that were carried over is required for those before
pub kept-required : (old new : Tables) (nets ready : List ℤ) (r : ℤ) → KeepsPlaces old new → length nets ≡ length old.contracts → ready ≡ carried old new nets → IsRequired new ready r → IsRequired new nets r
kept-required old new nets ready r keeps long is are =
    subst (λ (xs : List ℤ). IsRequired new xs r) (is ∙ kept-carried old new nets keeps long) are

portfolio-under : (old new : Tables) (gain r : ℤ) (side : PortfolioRow) → KeepsPlaces old new → length side.nets ≡ length old.contracts → IsRequired new side.nets r
    → portfolio_with_amounts record { worth = side.worth +ℤ gain; requirement = r } side ≡ portfolio_under old new gain side
portfolio-under old new gain r side keeps long are =
    ap (λ (z : ℤ). portfolio_with_amounts record { worth = side.worth +ℤ gain; requirement = z } side) are.is
    ∙ ap (λ (nets : List ℤ). priced new nets (side.worth +ℤ gain)) (sym (kept-carried old new side.nets keeps long))

portfolio-within : (old new : Tables) (gain r : ℤ) (side : PortfolioRow) → KeepsPlaces old new → IsPortfolioRow old side → unsigned_abs (side.worth +ℤ gain) ≤ 10 ^ 24 → IsRequired new side.nets r
    → IsPortfolioRow new (portfolio_with_amounts record { worth = side.worth +ℤ gain; requirement = r } side)
portfolio-within old new gain r side keeps inside worth are = record {
  one_each = inside.one_each ∙ kept-length old new keeps;
  nets = inside.nets;
  worth = worth;
  requirement = are.small;
}

-- the row with the amounts of its portfolios is that under the new set
pub row-under_kept : (old new : Tables) (gain : ℤ) (row : Row) (priced : Priced) → KeepsPlaces old new → IsRow old row → AreRequired new row priced → row_with_amounts (amounts_with gain priced row) row ≡ row_under old new gain row
row-under_kept old new gain row priced keeps inside are = λ i. record {
  sizes = sym (kept-carried old new row.sizes keeps inside.one_each) i;
  lots = portfolio-under old new gain priced.lots row.lots keeps inside.lots.one_each are.lots i;
  buys = portfolio-under old new gain priced.buys row.buys keeps inside.buys.one_each are.buys i;
  sales = portfolio-under old new gain priced.sales row.sales keeps inside.sales.one_each are.sales i;
  all = portfolio-under old new gain priced.all row.all keeps inside.all.one_each are.all i;
}

-- and within the limits
pub row-within_kept : (old new : Tables) (gain : ℤ) (row : Row) (priced : Priced) → KeepsPlaces old new → IsRow old row → AreWorths (row_with_worth gain row) → AreRequired new row priced → IsRow new (row_with_amounts (amounts_with gain priced row) row)
row-within_kept old new gain row priced keeps inside worths are = record {
  one_each = inside.one_each ∙ kept-length old new keeps;
  sizes = inside.sizes;
  lots = portfolio-within old new gain priced.lots row.lots keeps inside.lots worths.lots are.lots;
  buys = portfolio-within old new gain priced.buys row.buys keeps inside.buys worths.buys are.buys;
  sales = portfolio-within old new gain priced.sales row.sales keeps inside.sales worths.sales are.sales;
  all = portfolio-within old new gain priced.all row.all keeps inside.all worths.all are.all;
}
