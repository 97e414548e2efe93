-- How a set is kept: its tables, an index of each kind of name, and for each commodity its rows and the spreads that name it.
use Rattle.std.specs.Prelude.{◌≡◌, length}
use Rattle.mgn_params.specs.declared.set.ParamSet.TheInside.{Inside}
use Rattle.mgn_params.specs.CommodityRows.{AreRowsOf}
use Rattle.mgn_params.specs.Limits.{IsWithinLimits, class_names, commodity_names, contract_names}
use Rattle.mgn_params.specs.Naming.{AreNamings}
use Rattle.mgn_params.specs.Tables.{Tables}

abbrev pub tables_of : Inside → Tables
tables_of s = record {
  name = s.name;
  commodities = s.commodities.items;
  months = s.months.items;
  contracts = s.contracts.items;
  spreads = s.spreads.items;
  credits = s.credits.items;
  classes = s.classes.items;
  spots = s.spots.items;
}

-- the limits hold, each index lists the names of its table, and each commodity has its rows and the spreads that name it
pub record IsParamSet (s : Inside) : Type 0 where
  pub limits : IsWithinLimits (tables_of s)
  pub commodity_places : s.commodity_places ≡ commodity_names s.commodities.items
  pub contract_places : s.contract_places ≡ contract_names s.contracts.items
  pub class_places : s.class_places ≡ class_names s.classes.items
  pub rows : AreRowsOf (length s.commodities.items) s.spreads.items s.spots.items s.commodity_rows.items
  pub naming : AreNamings (length s.commodities.items) s.credits.items s.naming.items
