-- What the statement of an account tells, by which its requirement can be worked out again (own profile).
use Rattle.std.specs.Prelude.{ℕ, ◌+◌, Bool, ◌==◌, ◌&&◌, nat_lt, pos, unsigned_abs, Option, None, Some, List, [], length, map, filter, slice_index_or}
use Rattle.std.specs.List.{list_any, range_with_len}
use Rattle.mgn_params.specs.declared.tables.Class.{Class}
use Rattle.mgn_params.specs.Tables.{Tables, commodity_at}
use Rattle.mgn_span.specs.Options.{net_option_value}
use Rattle.mgn_span.specs.Positions.{Position, positions}
use Rattle.mgn_span.specs.Requirement.{credit, intra_charge, minimum, risk, scan_of, spot_charge}
use Rattle.mgn_span.specs.Scan.{active, scenario_total}
use Rattle.mgn_coll.specs.Posted.{class_value, units_of}
use Rattle.mgn_lots.specs.declared.lot.Lot.{Lot}
use Rattle.mgn_lots.specs.Lots.{is_live}
use Rattle.mgn_holds.specs.declared.held.Held.{Held}
use Rattle.mgn_machine.specs.declared.command.Mode.{Mode}
use Rattle.mgn_machine.specs.declared.command.Mode.TheVariants.{Gross, Net}
use Rattle.mgn_machine.specs.declared.origin.Origin.{Origin}
use Rattle.mgn_machine.specs.declared.statement.ClassLine.{ClassLine}
use Rattle.mgn_machine.specs.declared.statement.CommodityLine.{CommodityLine}
use Rattle.mgn_machine.specs.declared.statement.Heading.{Heading}
use Rattle.mgn_machine.specs.State.{State, AccountState}
use Rattle.mgn_machine.specs.Portfolios.{OnlyLots, nets_of}
use Rattle.mgn_machine.specs.Room.{figures_of}
use Rattle.mgn_machine.specs.Totals.{shortfall}

-- the parts of a statement: what it tells once, and its lists
pub record Told : Type 0 where
  pub heading : Heading
  pub commodities : List CommodityLine
  pub lots : List Lot
  pub holds : List Held
  pub classes : List ClassLine

-- an origin with a unit of its own is netted
abbrev pub mode_of : Option ℕ → Mode
mode_of None = Gross
mode_of (Some u) = Net

-- stands for the origin past the end of the list, which no account has
abbrev pub no_origin : Origin
no_origin = record { name = []; unit = None }

-- a commodity in which a position is not 0
abbrev pub is_held : List Position → ℕ → Bool
is_held held g = list_any (λ (p : Position). (p.0.commodity == g) && nat_lt 0 (unsigned_abs p.1)) held

-- the figures of a commodity, and its active scenario by number (CME SPAN)
abbrev pub commodity_line : Tables → List Position → ℕ → CommodityLine
commodity_line set held g = record {
  commodity = (commodity_at set.commodities g).name;
  scan = scan_of held g;
  active = active (scenario_total g held) + 1;
  intra = pos (intra_charge set held g);
  spot = pos (spot_charge set held g);
  credit = pos (credit set held g);
  minimum = pos (minimum set held g);
  risk = risk set held g;
}

-- those in which a position is not 0, in file order
unfoldable pub commodity_lines : Tables → List Position → List CommodityLine
commodity_lines set held =
    map (commodity_line set held) (filter (is_held held) (range_with_len 0 (length set.commodities)))

-- the units of a class with their value
abbrev pub class_line : List (List ℕ × ℕ) → Class → ClassLine
class_line units c =
    record { class = c.name; units = units_of c.name units; value = class_value c (units_of c.name units) }

-- those of which units are posted, in file order
unfoldable pub class_lines : List Class → List (List ℕ × ℕ) → List ClassLine
class_lines classes units = map (class_line units) (filter (λ (c : Class). nat_lt 0 (units_of c.name units)) classes)

-- whose statement it is, under which set, and the amounts of the account's unit
abbrev pub heading_of : Tables → State → AccountState → Heading
heading_of set s a =
    let origin : Origin = slice_index_or s.origins a.origin no_origin in
    let figures = figures_of set s.accounts a.unit in
    record {
      account = a.name;
      origin = origin.name;
      mode = mode_of origin.unit;
      set = set.name;
      version = s.version;
      figures = figures;
      call = shortfall figures.requirement figures.value;
      option_value = net_option_value (positions set.contracts (nets_of set s.accounts a.unit OnlyLots));
      cash = a.collateral.cash;
    }

-- the statement of an account: the figures of its unit, and its own live lots, holds and collateral
abbrev pub statement_of : Tables → State → AccountState → Told
statement_of set s a = record {
  heading = heading_of set s a;
  commodities = commodity_lines set (positions set.contracts (nets_of set s.accounts a.unit OnlyLots));
  lots = filter (λ (x : Lot). is_live x.mark) a.lots;
  holds = a.holds;
  classes = class_lines set.classes a.collateral.units;
}
