-- The statement of an account by the row of its margin unit, which tells the unit's figures.
use Rattle.std.specs.Prelude.{ℕ, ◌+◌, ℤ, filter}
use Rattle.mgn_params.specs.Tables.{Tables, commodity_at}
use Rattle.mgn_span.specs.Options.{net_option_value}
use Rattle.mgn_span.specs.Positions.{positions}
use Rattle.mgn_lots.specs.declared.lot.Lot.{Lot}
use Rattle.mgn_lots.specs.Lots.{is_live}
use Rattle.mgn_machine.specs.declared.origin.Origin.{Origin}
use Rattle.mgn_plain.specs.declared.commodity.CommodityFigures.{CommodityFigures}
use Rattle.mgn_machine.specs.declared.statement.CommodityLine.{CommodityLine}
use Rattle.mgn_machine.specs.declared.statement.Heading.{Heading}
use Rattle.mgn_machine.specs.State.{AccountState}
use Rattle.mgn_machine.specs.Statements.{Told, class_lines, commodity_lines, mode_of}
use Rattle.mgn_machine.specs.Totals.{shortfall}
use Rattle.mgn_unit.specs.declared.row.Row.{Row}
use Rattle.mgn_unit.specs.Rows.{row_figures}

-- a line of the figures of a commodity
abbrev pub line_by : Tables → ℕ → CommodityFigures → CommodityLine
line_by set g figures = record {
  commodity = (commodity_at set.commodities g).name;
  scan = figures.scan;
  active = figures.active + 1;
  intra = figures.intra;
  spot = figures.spot;
  credit = figures.credit;
  minimum = figures.minimum;
  risk = figures.risk;
}

abbrev pub heading_by : Tables → ℕ → Origin → AccountState → Row → ℤ → Heading
heading_by set version origin a row option_value = record {
  account = a.name;
  origin = origin.name;
  mode = mode_of origin.unit;
  set = set.name;
  version = version;
  figures = row_figures row;
  call = shortfall row.lots.requirement row.lots.worth;
  option_value = option_value;
  cash = a.collateral.cash;
}

abbrev pub statement_by : Tables → ℕ → Origin → AccountState → Row → Told
statement_by set version origin a row =
    let held = positions set.contracts row.lots.nets in
    record {
      heading = heading_by set version origin a row (net_option_value held);
      commodities = commodity_lines set held;
      lots = filter (λ (x : Lot). is_live x.mark) a.lots;
      holds = a.holds;
      classes = class_lines set.classes a.collateral.units;
    }
