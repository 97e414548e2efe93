-- How tables grow, record by record.
use Rattle.std.specs.Prelude.{◌≡◌, [], ◌∷◌, ◌++◌}
use Rattle.mgn_params.specs.declared.tables.Class.{Class}
use Rattle.mgn_params.specs.declared.tables.Commodity.{Commodity}
use Rattle.mgn_params.specs.declared.tables.Contract.{Contract}
use Rattle.mgn_params.specs.declared.tables.CreditSpread.{CreditSpread}
use Rattle.mgn_params.specs.declared.tables.Month.{Month}
use Rattle.mgn_params.specs.declared.tables.SpotCharge.{SpotCharge}
use Rattle.mgn_params.specs.declared.tables.Spread.{Spread}
use Rattle.mgn_params.specs.Tables.{Tables}

-- one row more at the end of one table, and all else as it was
pub data AddsRow (before after : Tables) : Type 0 where
  commodity : (row : Commodity) → after ≡ record before { commodities = before.commodities ++ row ∷ [] } → AddsRow before after
  month : (row : Month) → after ≡ record before { months = before.months ++ row ∷ [] } → AddsRow before after
  contract : (row : Contract) → after ≡ record before { contracts = before.contracts ++ row ∷ [] } → AddsRow before after
  spread : (row : Spread) → after ≡ record before { spreads = before.spreads ++ row ∷ [] } → AddsRow before after
  credit_spread : (row : CreditSpread) → after ≡ record before { credits = before.credits ++ row ∷ [] } → AddsRow before after
  class : (row : Class) → after ≡ record before { classes = before.classes ++ row ∷ [] } → AddsRow before after
  spot : (row : SpotCharge) → after ≡ record before { spots = before.spots ++ row ∷ [] } → AddsRow before after
