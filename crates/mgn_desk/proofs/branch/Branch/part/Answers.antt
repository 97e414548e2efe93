use Rattle.std.proofs.Common.{rules, subst, sym, true≢false}
use Rattle.mgn_desk.specs.declared.figures.Figures.{Figures}
use Rattle.mgn_desk.specs.WorkedPortfolios.{IsPortfolio, worked}
use Rattle.mgn_desk.proofs.BranchLemmas.{figures_are}
use Rattle.mgn_desk.proofs.BringLemmas.{together_portfolio}
use Rattle.mgn_desk.proofs.branch.Branch.part.Goals as goal

pub returns-then-not-self-clause-under : goal.returns-then-not-self-clause-under
returns-then-not-self-clause-under c =
    λ set w l is under.
    let own = subst (λ (f : Figures). IsPortfolio set (worked w l f)) (sym c.copy_from.ensures) (together_portfolio set w l c.args.lots.now (under.together (search rules)) is) in
    record {
      rows = figures_are set w l c.copy_from.new.self own;
      own = λ apart. own;
      together = λ apart. absurd (true≢false apart);
    }
