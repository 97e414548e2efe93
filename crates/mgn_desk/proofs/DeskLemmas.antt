-- What callers of a desk go by: nets that may move, and nets within their limits.
use Rattle.std.proofs.Common.{sym, subst, Option, Some, None}
use Rattle.mgn_params.specs.Tables.{Tables}
use Rattle.mgn_nets.specs.Portfolios.{AreNets, AreUnitNets, UnitNets}
use Rattle.mgn_desk.specs.declared.desk.Marked.{Marked}
use Rattle.mgn_desk.specs.declared.moves.Moves.{Moves}
use Rattle.mgn_desk.specs.Desks.{AreNetsOf, CanMoveMarked, IsMarkedBy}
use Rattle.mgn_desk.specs.declared.figures.Figures.{Figures}
use Rattle.mgn_desk.specs.declared.portfolio.Portfolio.{Portfolio}
use Rattle.mgn_desk.specs.declared.portfolio.Portfolio.TheVariants.{Lots, WithBuys, WithSales, WithAll}
use Rattle.mgn_desk.specs.declared.unit_lists.UnitLists.{UnitLists}
use Rattle.mgn_desk.specs.declared.unit_portfolios.UnitPortfolios.{UnitPortfolios}
use Rattle.mgn_desk.specs.UnitLists.{nets_in}
use Rattle.mgn_desk.specs.WorkedPortfolios.{IsPortfolio, worked}
use Rattle.mgn_desk.proofs.BranchLemmas.{branch_is}
use Rattle.mgn_desk.specs.Portfolios.{ArePortfolios, CanMove, figures_of, nets_of}

-- a desk whose nets stay within their limits
pub can_move_marked : (m : Moves) (marked : Option Marked) (n : UnitNets) → AreNetsOf marked n → CanMove m n → CanMoveMarked m marked
can_move_marked m None n are can = tt
can_move_marked m (Some x) n are can = subst (λ (k : UnitNets). CanMove m k) are can

-- the nets of a desk are one for each contract and within their limit
nets_are : (t : Tables) (w : Portfolio) (l : UnitLists) (f : Figures) → IsPortfolio t (worked w l f) → AreNets t (nets_in w l)
nets_are t w l f is = record { one_each = is.ready.parts.totals.one_each; small = is.ready.parts.totals.small }

pub unit_nets_are : (t : Tables) (p : UnitPortfolios) → ArePortfolios t p → AreUnitNets t (nets_of p)
unit_nets_are t p are = record {
  lots = nets_are t Lots p.lists p.lots are.lots;
  buys = nets_are t WithBuys p.lists (figures_of p.lots p.buys) (branch_is t WithBuys p.lists p.lots p.buys are.lots are.buys);
  sales = nets_are t WithSales p.lists (figures_of p.lots p.sales) (branch_is t WithSales p.lists p.lots p.sales are.lots are.sales);
  all = nets_are t WithAll p.lists (figures_of p.lots p.all) (branch_is t WithAll p.lists p.lots p.all are.lots are.all);
}

pub marked_nets_are : (t : Tables) (marked : Option Marked) (n : UnitNets) → IsMarkedBy t marked → AreNetsOf marked n → AreUnitNets t n
marked_nets_are t None n is are = absurd is
marked_nets_are t (Some m) n is are = subst (λ (k : UnitNets). AreUnitNets t k) (sym are) (unit_nets_are t m.portfolios is)
