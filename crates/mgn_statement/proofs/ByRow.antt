-- The statement by the row of a unit is the machine's.
use Rattle.std.proofs.Common.{◌≡◌, ap, filter}
use Rattle.std.specs.Prelude.{slice_index_or}
use Rattle.mgn_params.specs.Tables.{Tables}
use Rattle.mgn_span.specs.Options.{net_option_value}
use Rattle.mgn_span.specs.Positions.{positions}
use Rattle.mgn_lots.specs.declared.lot.Lot.{Lot}
use Rattle.mgn_lots.specs.Lots.{is_live}
use Rattle.mgn_machine.specs.declared.reply.UnitFigures.{UnitFigures}
use Rattle.mgn_machine.specs.State.{State, AccountState}
use Rattle.mgn_machine.specs.Portfolios.{OnlyLots, nets_of}
use Rattle.mgn_machine.specs.Room.{requirement_of, worth_of}
use Rattle.mgn_machine.specs.Statements.{Told, class_lines, commodity_lines, mode_of, no_origin, statement_of}
use Rattle.mgn_machine.specs.Totals.{shortfall}
use Rattle.mgn_unit.proofs.Least.{figures_of_row}
use Rattle.mgn_unit.specs.Rows.{portfolio_of, row_of}
use Rattle.mgn_statement.specs.Statement.{statement_by}

-- a statement with these figures of its unit
abbrev with_figures : Tables → State → AccountState → UnitFigures → Told
with_figures set' s a figures = record {
  heading = record {
    account = a.name;
    origin = (slice_index_or s.origins a.origin no_origin).name;
    mode = mode_of (slice_index_or s.origins a.origin no_origin).unit;
    set = set'.name;
    version = s.version;
    figures = figures;
    call = shortfall figures.requirement figures.value;
    option_value = net_option_value (positions set'.contracts (nets_of set' s.accounts a.unit OnlyLots));
    cash = a.collateral.cash;
  };
  commodities = commodity_lines set' (positions set'.contracts (nets_of set' s.accounts a.unit OnlyLots));
  lots = filter (λ (x : Lot). is_live x.mark) a.lots;
  holds = a.holds;
  classes = class_lines set'.classes a.collateral.units;
}

pub told_by_row : (set' : Tables) (s : State) (a : AccountState)
    → statement_by set' s.version (slice_index_or s.origins a.origin no_origin) a (row_of set' s.accounts a.unit) ≡ statement_of set' s a
unfolding portfolio_of worth_of requirement_of
told_by_row set' s a = ap (λ (figures : UnitFigures). with_figures set' s a figures) (figures_of_row set' s.accounts a.unit)
