use Rattle.std.proofs.Common.{◌≡◌, ◌≢◌, ◌∙◌, arith, ⊎_elim, subst, sym}
use Rattle.mgn_desk.specs.declared.figures.Figures.{Figures}
use Rattle.mgn_desk.specs.declared.portfolio.Portfolio.{Portfolio}
use Rattle.mgn_desk.specs.declared.portfolio.Portfolio.TheVariants.{Lots, WithBuys, WithSales, WithAll}
use Rattle.mgn_desk.specs.Portfolios.{figures_of}
use Rattle.mgn_desk.specs.WorkedPortfolios.{AreParts, IsPortfolio, worked}
use Rattle.mgn_desk.proofs.BranchLemmas.{branch_is}
use Rattle.mgn_desk.proofs.BringLemmas.{together_parts}
use Rattle.mgn_desk.proofs.ShownLemmas.{apart, same_or_apart}
use Rattle.mgn_desk.proofs.UnitLemmas.{nets_kept, parts_kept, portfolio_kept, under_kept}
use Rattle.mgn_desk.proofs.unit_portfolios.UnitPortfolios.bring.Goals as goal
use Rattle.mgn_desk.proofs.unit_portfolios.UnitPortfolios.bring.Goals.{After-bring_lots, After-renew, After-renew-2}

-- what is kept of each portfolio once the lots are brought, once the buys are too, and then the sales
lots_parts : (c : After-bring_lots) (w : Portfolio) → (f : Figures) × AreParts c.args.set.now (worked w c.bring_lots.new.lists f)
lots_parts c w = (c.bring_lots.new.figures, together_parts c.args.set.now w c.bring_lots.new.lists c.bring_lots.new.figures (c.bring_lots.ensures.together w) c.bring_lots.ensures.portfolio.ready.parts)

lots_kept : (c : After-renew) → IsPortfolio c.args.set.now (worked Lots c.renew.new.lists c.bring_lots.new.figures)
lots_kept c = portfolio_kept c.args.set.now Lots c.bring_lots.new.lists c.renew.new.lists c.bring_lots.new.figures (c.renew.ensures.others Lots (apart Lots WithBuys (λ e. omega (arith, e))) c.bring_lots.new.figures) c.bring_lots.ensures.portfolio

buys_parts : (c : After-renew) (w : Portfolio) → (f : Figures) × AreParts c.args.set.now (worked w c.renew.new.lists f)
buys_parts c w =
    ⊎_elim
    (λ (own : w ≡ WithBuys).
    let b = c.renew.new.self in
    let lots = c.bring_lots.new.figures in
    (figures_of lots b, subst (λ (x : Portfolio). AreParts c.args.set.now (worked x c.renew.new.lists (figures_of lots b))) (sym own) (branch_is c.args.set.now WithBuys c.renew.new.lists lots b (lots_kept c) c.renew.ensures.under).ready.parts))
    (λ (other : w ≢ WithBuys).
    let f = c.bring_lots.new.figures in
    (f, parts_kept c.args.set.now w c.bring_lots.new.lists c.renew.new.lists f (c.renew.ensures.others w other f) (together_parts c.args.set.now w c.bring_lots.new.lists f (c.bring_lots.ensures.together w) c.bring_lots.ensures.portfolio.ready.parts)))
    (same_or_apart w WithBuys)

lots_kept-2 : (c : After-renew-2) → IsPortfolio c.args.set.now (worked Lots c.renew.new.lists c.bring_lots.new.figures) → IsPortfolio c.args.set.now (worked Lots c.renew-2.new.lists c.bring_lots.new.figures)
lots_kept-2 c was = portfolio_kept c.args.set.now Lots c.renew.new.lists c.renew-2.new.lists c.bring_lots.new.figures (c.renew-2.ensures.others Lots (apart Lots WithSales (λ e. omega (arith, e))) c.bring_lots.new.figures) was

sales_parts : (c : After-renew-2) → ((w : Portfolio) → (f : Figures) × AreParts c.args.set.now (worked w c.renew.new.lists f)) → IsPortfolio c.args.set.now (worked Lots c.renew-2.new.lists c.bring_lots.new.figures) → (w : Portfolio) → (f : Figures) × AreParts c.args.set.now (worked w c.renew-2.new.lists f)
sales_parts c were is w =
    ⊎_elim
    (λ (own : w ≡ WithSales).
    let b = c.renew-2.new.self in
    let lots = c.bring_lots.new.figures in
    (figures_of lots b, subst (λ (x : Portfolio). AreParts c.args.set.now (worked x c.renew-2.new.lists (figures_of lots b))) (sym own) (branch_is c.args.set.now WithSales c.renew-2.new.lists lots b is c.renew-2.ensures.under).ready.parts))
    (λ (other : w ≢ WithSales).
    let was = were w in
    (was.0, parts_kept c.args.set.now w c.renew.new.lists c.renew-2.new.lists was.0 (c.renew-2.ensures.others w other was.0) was.1))
    (same_or_apart w WithSales)

pub renew-requires-clause-together : goal.renew-requires-clause-together
renew-requires-clause-together c = c.bring_lots.ensures.together WithBuys

pub renew-requires-clause-parts : goal.renew-requires-clause-parts
renew-requires-clause-parts c = λ w. lots_parts (goal.at.renew-requires-clause-parts c).After-bring_lots w

pub renew-requires-2-clause-lots : goal.renew-requires-2-clause-lots
renew-requires-2-clause-lots c = lots_kept (goal.at.renew-requires-2-clause-lots c).After-renew

pub renew-requires-2-clause-lots_nets : goal.renew-requires-2-clause-lots_nets
renew-requires-2-clause-lots_nets c =
    nets_kept Lots c.bring_lots.new.lists c.renew.new.lists c.bring_lots.new.figures (c.renew.ensures.others Lots (apart Lots WithBuys (λ e. omega (arith, e))) c.bring_lots.new.figures) ∙ c.bring_lots.ensures.nets

pub renew-requires-2-clause-together : goal.renew-requires-2-clause-together
renew-requires-2-clause-together c = c.renew.ensures.others_together WithSales (apart WithSales WithBuys (λ e. omega (arith, e))) (c.bring_lots.ensures.together WithSales)

pub renew-requires-2-clause-parts : goal.renew-requires-2-clause-parts
renew-requires-2-clause-parts c = λ w. buys_parts (goal.at.renew-requires-2-clause-parts c).After-renew w

pub renew-requires-3-clause-lots : goal.renew-requires-3-clause-lots
renew-requires-3-clause-lots c =
    let at = goal.at.renew-requires-3-clause-lots c in
    lots_kept-2 at.After-renew-2 (lots_kept at.After-renew)

pub renew-requires-3-clause-lots_nets : goal.renew-requires-3-clause-lots_nets
renew-requires-3-clause-lots_nets c =
    let f = c.bring_lots.new.figures in
    nets_kept Lots c.renew.new.lists c.renew-2.new.lists f (c.renew-2.ensures.others Lots (apart Lots WithSales (λ e. omega (arith, e))) f)
    ∙ nets_kept Lots c.bring_lots.new.lists c.renew.new.lists f (c.renew.ensures.others Lots (apart Lots WithBuys (λ e. omega (arith, e))) f)
    ∙ c.bring_lots.ensures.nets

pub renew-requires-3-clause-together : goal.renew-requires-3-clause-together
renew-requires-3-clause-together c =
    c.renew-2.ensures.others_together WithAll (apart WithAll WithSales (λ e. omega (arith, e))) (c.renew.ensures.others_together WithAll (apart WithAll WithBuys (λ e. omega (arith, e))) (c.bring_lots.ensures.together WithAll))

pub renew-requires-3-clause-parts : goal.renew-requires-3-clause-parts
renew-requires-3-clause-parts c =
    let at = goal.at.renew-requires-3-clause-parts c in
    λ w. sales_parts at.After-renew-2 (buys_parts at.After-renew) (lots_kept-2 at.After-renew-2 (lots_kept at.After-renew)) w

pub returns-clause-portfolios : goal.returns-clause-portfolios
returns-clause-portfolios c =
    let t = c.args.set.now in
    let at = goal.at.returns-clause-portfolios c in
    let f = c.bring_lots.new.figures in
    let lots = lots_kept-2 at.After-renew-2 (lots_kept at.After-renew) in
    let buys = c.renew.new.self in
    let sales = c.renew-2.new.self in
    record {
      lists = c.renew-3.ensures.lists;
      lots = portfolio_kept t Lots c.renew-2.new.lists c.renew-3.new.lists f (c.renew-3.ensures.others Lots (apart Lots WithAll (λ e. omega (arith, e))) f) lots;
      buys =
          under_kept t WithBuys c.renew-2.new.lists c.renew-3.new.lists buys (c.renew-3.ensures.others WithBuys (apart WithBuys WithAll (λ e. omega (arith, e))) buys.own) (c.renew-3.ensures.others_together WithBuys (apart WithBuys WithAll (λ e. omega (arith, e))))
          (under_kept t WithBuys c.renew.new.lists c.renew-2.new.lists buys (c.renew-2.ensures.others WithBuys (apart WithBuys WithSales (λ e. omega (arith, e))) buys.own) (c.renew-2.ensures.others_together WithBuys (apart WithBuys WithSales (λ e. omega (arith, e)))) c.renew.ensures.under);
      sales = under_kept t WithSales c.renew-2.new.lists c.renew-3.new.lists sales (c.renew-3.ensures.others WithSales (apart WithSales WithAll (λ e. omega (arith, e))) sales.own) (c.renew-3.ensures.others_together WithSales (apart WithSales WithAll (λ e. omega (arith, e)))) c.renew-2.ensures.under;
      all = c.renew-3.ensures.under;
    }

pub returns-clause-nets : goal.returns-clause-nets
returns-clause-nets c =
    let f = c.bring_lots.new.figures in
    let lots = nets_kept Lots c.renew-2.new.lists c.renew-3.new.lists f (c.renew-3.ensures.others Lots (apart Lots WithAll (λ e. omega (arith, e))) f) ∙ nets_kept Lots c.renew.new.lists c.renew-2.new.lists f (c.renew-2.ensures.others Lots (apart Lots WithSales (λ e. omega (arith, e))) f) ∙ nets_kept Lots c.bring_lots.new.lists c.renew.new.lists f (c.renew.ensures.others Lots (apart Lots WithBuys (λ e. omega (arith, e))) f) ∙ c.bring_lots.ensures.nets in
    let buys = nets_kept WithBuys c.renew-2.new.lists c.renew-3.new.lists f (c.renew-3.ensures.others WithBuys (apart WithBuys WithAll (λ e. omega (arith, e))) f) ∙ nets_kept WithBuys c.renew.new.lists c.renew-2.new.lists f (c.renew-2.ensures.others WithBuys (apart WithBuys WithSales (λ e. omega (arith, e))) f) ∙ c.renew.ensures.nets in
    let sales = nets_kept WithSales c.renew-2.new.lists c.renew-3.new.lists f (c.renew-3.ensures.others WithSales (apart WithSales WithAll (λ e. omega (arith, e))) f) ∙ c.renew-2.ensures.nets in
    λ i. record { lots = lots i; buys = buys i; sales = sales i; all = c.renew-3.ensures.nets i }
