-- Nets of the four portfolios of a margin unit.
use Rattle.std.specs.Prelude.{◌≡◌, ℤ, List, length, All}
use Rattle.std.specs.Borrow.{Bor}
use Rattle.mgn_params.specs.Tables.{Tables}
use Rattle.mgn_span.specs.Positions.{IsNet}
use Rattle.mgn_nets.specs.declared.portfolios.Portfolios.{Portfolios}

-- what four references lead to
abbrev pub behind : {T : Type 0} → Portfolios (Bor T) → Portfolios T
behind four = record { lots = four.lots.now; buys = four.buys.now; sales = four.sales.now; all = four.all.now }

-- the nets of each portfolio
abbrev pub UnitNets : Type 0
UnitNets = Portfolios (List ℤ)

-- one net for each contract of a set, within its limit
pub record AreNets (set : Tables) (nets : List ℤ) : Type 0 where
  pub one_each : length nets ≡ length set.contracts
  pub small : All IsNet nets

pub record AreUnitNets (set : Tables) (nets : UnitNets) : Type 0 where
  pub lots : AreNets set nets.lots
  pub buys : AreNets set nets.buys
  pub sales : AreNets set nets.sales
  pub all : AreNets set nets.all
