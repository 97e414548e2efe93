-- What units are marked with before a set comes into force (own profile).
use Rattle.std.specs.Prelude.{ℤ, List, Option, Some, None, if◌then◌else◌}
use Rattle.mgn_params.specs.Tables.{Tables}
use Rattle.mgn_span.specs.Requirement.{requirement}
use Rattle.mgn_nets.specs.Portfolios.{UnitNets}
use Rattle.mgn_unit.specs.declared.row.PreparedPortfolio.{PreparedPortfolio}
use Rattle.mgn_unit.specs.NewSets.{PreparedUnit, carried, is_unit_covered}

-- the nets of a portfolio by the contracts of the new set, and what they require under it
abbrev pub portfolio_of : Tables → Tables → List ℤ → PreparedPortfolio
portfolio_of old new nets = record { nets = carried old new nets; requirement = requirement new (carried old new nets) }

-- the same of all four
abbrev pub unit_of : Tables → Tables → UnitNets → PreparedUnit
unit_of old new nets = record {
  lots = portfolio_of old new nets.lots;
  buys = portfolio_of old new nets.buys;
  sales = portfolio_of old new nets.sales;
  all = portfolio_of old new nets.all;
}

-- what a unit is marked with; nothing where the new set lacks a contract that it has a net in
abbrev pub mark_of : Tables → Tables → UnitNets → Option PreparedUnit
mark_of old new nets = if is_unit_covered old new nets then Some (unit_of old new nets) else None
