use Rattle.std.proofs.Common.{◌≡◌, arith, pos, subst, sym}
use Rattle.std.proofs.lemmas.Int.{ints}
use Rattle.mgn_desk.specs.WorkedPortfolios.{IsPortfolio, WorkedPortfolio}
use Rattle.mgn_desk.proofs.FollowLemmas.{followed_none}
use Rattle.mgn_desk.proofs.figures.Figures.follow.Goals as goal

pub returns-else-size-ne0-clause-portfolio : goal.returns-else-size-ne0-clause-portfolio
returns-else-size-ne0-clause-portfolio c =
    let (old, is, followed, net) = c.requires.before in
    let t = c.args.set.now in
    let none : c.args.quantity ≡ pos 0 = omega (arith, ints, c.size.ensures.value) in
    subst (λ (p : WorkedPortfolio). IsPortfolio t p) (sym (followed_none t c.args.portfolio old c.args.lists.now c.args.self.now c.args.i c.args.quantity followed none)) is
