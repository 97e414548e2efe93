use Rattle.std.proofs.Common.{subst, sym}
use Rattle.mgn_desk.specs.declared.figures.Figures.{Figures}
use Rattle.mgn_desk.specs.declared.portfolio.Portfolio.TheVariants.{Lots}
use Rattle.mgn_desk.specs.WorkedPortfolios.{AreFigures, IsPortfolio, worked}
use Rattle.mgn_desk.proofs.BranchLemmas.{figures_are}
use Rattle.mgn_desk.proofs.BringLemmas.{together_portfolio}
use Rattle.mgn_desk.proofs.branch.Branch.renew.Goals as goal

pub copy_from-requires : goal.copy_from-requires
copy_from-requires c = (c.args.set.now, c.requires.rows, figures_are c.args.set.now Lots c.args.lists.now c.args.lots.now c.requires.lots)

pub bring_branch-requires-clause-portfolio : goal.bring_branch-requires-clause-portfolio
bring_branch-requires-clause-portfolio c =
    subst (λ (f : Figures). IsPortfolio c.args.set.now (worked c.args.portfolio c.args.lists.now f)) (sym c.copy_from.ensures) (together_portfolio c.args.set.now c.args.portfolio c.args.lists.now c.args.lots.now c.requires.together c.requires.lots)

pub bring_branch-requires-clause-rows : goal.bring_branch-requires-clause-rows
bring_branch-requires-clause-rows c =
    subst (λ (f : Figures). AreFigures c.args.set.now f) (sym c.copy_from.ensures) (figures_are c.args.set.now Lots c.args.lists.now c.args.lots.now c.requires.lots)
