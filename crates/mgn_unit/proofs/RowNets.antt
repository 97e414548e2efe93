-- The nets of a row, for desks that are marked with them.
use Rattle.mgn_params.specs.Tables.{Tables}
use Rattle.mgn_nets.specs.Portfolios.{AreUnitNets}
use Rattle.mgn_unit.specs.declared.row.Row.{Row}
use Rattle.mgn_unit.specs.Rows.{IsRow, nets_in}

-- they are one for each contract, and within their limits
pub row-nets : (set' : Tables) (row : Row) → IsRow set' row → AreUnitNets set' (nets_in row)
row-nets set' row is = record {
  lots = record { one_each = is.lots.one_each; small = is.lots.nets };
  buys = record { one_each = is.buys.one_each; small = is.buys.nets };
  sales = record { one_each = is.sales.one_each; small = is.sales.nets };
  all = record { one_each = is.all.one_each; small = is.all.nets };
}
