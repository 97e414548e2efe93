use Rattle.mgn_desk.specs.declared.portfolio.Portfolio.TheVariants.{Lots}
use Rattle.mgn_desk.proofs.BranchLemmas.{figures_are}
use Rattle.mgn_desk.proofs.unit_portfolios.UnitPortfolios.part.Goals as goal

pub part-requires : goal.part-requires
part-requires c = (c.requires.0, c.requires.1.buys.rows, figures_are c.requires.0 Lots c.args.self.now.lists c.args.self.now.lots c.requires.1.lots)

pub part-requires-2 : goal.part-requires-2
part-requires-2 c = (c.requires.0, c.requires.1.sales.rows, figures_are c.requires.0 Lots c.args.self.now.lists c.args.self.now.lots c.requires.1.lots)

pub part-requires-3 : goal.part-requires-3
part-requires-3 c = (c.requires.0, c.requires.1.all.rows, figures_are c.requires.0 Lots c.args.self.now.lists c.args.self.now.lots c.requires.1.lots)
