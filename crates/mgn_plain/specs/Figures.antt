-- The figures of a commodity, and of a whole list of nets.
use Rattle.std.specs.Prelude.{ℕ, ℤ, pos, List, map}
use Rattle.mgn_span.specs.Options.{net_option_value}
use Rattle.mgn_span.specs.Positions.{Position, positions}
use Rattle.mgn_span.specs.Requirement.{credit, intra_charge, minimum, requirement, risk, scan_of, spot_charge}
use Rattle.mgn_span.specs.Scan.{active, price_risk2, scenario_total}
use Rattle.mgn_span.specs.Words.{commodities_of}
use Rattle.mgn_params.specs.Tables.{Tables}
use Rattle.mgn_plain.specs.declared.commodity.CommodityFigures.{CommodityFigures}

-- the figures of a commodity, each by its definition
unfoldable pub commodity_figures : Tables → List Position → ℕ → CommodityFigures
commodity_figures set portfolio commodity = record {
  scan = scan_of portfolio commodity;
  active = active (scenario_total commodity portfolio);
  price_risk2 = price_risk2 (scenario_total commodity portfolio);
  intra = pos (intra_charge set portfolio commodity);
  spot = pos (spot_charge set portfolio commodity);
  credit = pos (credit set portfolio commodity);
  minimum = pos (minimum set portfolio commodity);
  risk = risk set portfolio commodity;
}

-- a set and a net for each contract of it
pub record SetAndNets : Type 0 where
  pub set : Tables
  pub nets : List ℤ

-- the figures of all commodities in file order, with the net option value and the requirement
pub record WholeFigures : Type 0 where
  pub commodities : List CommodityFigures
  pub option_value : ℤ
  pub requirement : ℤ

-- the figures of a list of nets under a set
unfoldable pub figures_of : Tables → List ℤ → WholeFigures
figures_of set nets = record {
  commodities = map (commodity_figures set (positions set.contracts nets)) (commodities_of set);
  option_value = net_option_value (positions set.contracts nets);
  requirement = requirement set nets;
}
