use Rattle.mgn_desk.specs.declared.portfolio.Portfolio.TheVariants.{Lots, WithBuys, WithSales, WithAll}
use Rattle.mgn_desk.proofs.UnitLemmas.{unit_parts}
use Rattle.mgn_desk.proofs.unit_portfolios.UnitPortfolios.follow.Goals as goal

pub follow-requires-clause-parts : goal.follow-requires-clause-parts
follow-requires-clause-parts c = λ w. unit_parts c.args.set.now c.args.self.now c.requires.portfolios w

pub follow-requires-2-clause-before : goal.follow-requires-2-clause-before
follow-requires-2-clause-before c = (c.args.self.now.lists, c.requires.portfolios.lots, c.follow.ensures.followed Lots, c.requires.nets.lots)

pub follow-requires-3-clause-before : goal.follow-requires-3-clause-before
follow-requires-3-clause-before c =
    λ apart. (c.args.self.now.lists, c.requires.portfolios.buys.own apart, c.follow.ensures.followed WithBuys, c.requires.nets.buys)

pub follow-requires-4-clause-before : goal.follow-requires-4-clause-before
follow-requires-4-clause-before c =
    λ apart. (c.args.self.now.lists, c.requires.portfolios.sales.own apart, c.follow.ensures.followed WithSales, c.requires.nets.sales)

pub follow-requires-5-clause-before : goal.follow-requires-5-clause-before
follow-requires-5-clause-before c =
    λ apart. (c.args.self.now.lists, c.requires.portfolios.all.own apart, c.follow.ensures.followed WithAll, c.requires.nets.all)

pub returns-clause-nets : goal.returns-clause-nets
returns-clause-nets c =
    λ i. record {
      lots = (c.follow.ensures.followed Lots).nets i;
      buys = (c.follow.ensures.followed WithBuys).nets i;
      sales = (c.follow.ensures.followed WithSales).nets i;
      all = (c.follow.ensures.followed WithAll).nets i;
    }
