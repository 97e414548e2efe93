-- The four portfolios of a unit, one after another: for `UnitPortfolios`.
use Rattle.std.proofs.Common.{◌≡◌, ap, subst, sym}
use Rattle.mgn_params.specs.Tables.{Tables}
use Rattle.mgn_desk.specs.declared.branch.Branch.{Branch}
use Rattle.mgn_desk.specs.declared.figures.Figures.{Figures}
use Rattle.mgn_desk.specs.declared.portfolio.Portfolio.{Portfolio}
use Rattle.mgn_desk.specs.declared.portfolio.Portfolio.TheVariants.{Lots, WithBuys, WithSales, WithAll}
use Rattle.mgn_desk.specs.declared.unit_lists.UnitLists.{UnitLists}
use Rattle.mgn_desk.specs.declared.unit_portfolios.UnitPortfolios.{UnitPortfolios}
use Rattle.mgn_desk.specs.Portfolios.{ArePortfolios, IsUnder, figures_of}
use Rattle.mgn_desk.specs.UnitLists.{IsTogether, nets_in}
use Rattle.mgn_desk.specs.WorkedPortfolios.{AreParts, IsPortfolio, WorkedPortfolio, worked}
use Rattle.mgn_desk.proofs.BranchLemmas.{branch_is}

-- what is kept of each portfolio
pub unit_parts : (t : Tables) (p : UnitPortfolios) → ArePortfolios t p → (w : Portfolio) → (f : Figures) × AreParts t (worked w p.lists f)
unit_parts t p are Lots = (p.lots, are.lots.ready.parts)
unit_parts t p are WithBuys = (figures_of p.lots p.buys, (branch_is t WithBuys p.lists p.lots p.buys are.lots are.buys).ready.parts)
unit_parts t p are WithSales = (figures_of p.lots p.sales, (branch_is t WithSales p.lists p.lots p.sales are.lots are.sales).ready.parts)
unit_parts t p are WithAll = (figures_of p.lots p.all, (branch_is t WithAll p.lists p.lots p.all are.lots are.all).ready.parts)

-- A portfolio of which lists stay as they are while those of another one change.

pub portfolio_kept : (t : Tables) (w : Portfolio) (old new : UnitLists) (f : Figures) → worked w new f ≡ worked w old f → IsPortfolio t (worked w old f) → IsPortfolio t (worked w new f)
portfolio_kept t w old new f same is = subst (λ (p : WorkedPortfolio). IsPortfolio t p) (sym same) is

pub parts_kept : (t : Tables) (w : Portfolio) (old new : UnitLists) (f : Figures) → worked w new f ≡ worked w old f → AreParts t (worked w old f) → AreParts t (worked w new f)
parts_kept t w old new f same are = subst (λ (p : WorkedPortfolio). AreParts t p) (sym same) are

pub under_kept : (t : Tables) (w : Portfolio) (old new : UnitLists) (b : Branch) → worked w new b.own ≡ worked w old b.own → (IsTogether w old → IsTogether w new) → IsUnder t w old b → IsUnder t w new b
under_kept t w old new b same together is = record {
  rows = is.rows;
  own = λ apart. portfolio_kept t w old new b.own same (is.own apart);
  together = λ none. together (is.together none);
}

pub nets_kept : (w : Portfolio) (old new : UnitLists) (f : Figures) → worked w new f ≡ worked w old f → nets_in w new ≡ nets_in w old
nets_kept w old new f same = ap (λ (p : WorkedPortfolio). p.nets) same
