use Rattle.std.proofs.Common.{◌<◌, arith, length, ℕ, pos, rules, subst, ℤ}
use Rattle.mgn_params.specs.Tables.{Tables}
use Rattle.mgn_span.specs.Positions.{IsNet}
use Rattle.mgn_nets.specs.Portfolios.{AreNets}
use Rattle.mgn_desk.specs.declared.portfolio.Portfolio.{Portfolio}
use Rattle.mgn_desk.specs.declared.portfolio.Portfolio.TheVariants.{Lots, WithBuys, WithSales, WithAll}
use Rattle.mgn_desk.specs.declared.unit_lists.UnitLists.{UnitLists}
use Rattle.mgn_desk.specs.Portfolios.{ArePortfolios}
use Rattle.mgn_desk.specs.UnitLists.{four_at, nets_in, one_of}
use Rattle.mgn_desk.proofs.DeskLemmas.{unit_nets_are}
use Rattle.mgn_desk.proofs.ShownLemmas.{value_in}
use Rattle.mgn_desk.proofs.desk.Desk.nets_at.Goals as goal

net_at : (t : Tables) (w : Portfolio) (l : UnitLists) (i : ℕ) → AreNets t (nets_in w l) → i < length t.contracts → IsNet (one_of w (four_at l.nets i))
net_at t w l i are inside =
    subst (λ (z : ℤ). IsNet z) (value_in w l.nets i) (are.small i (pos 0) (omega (arith, are.one_each, inside)))

pub returns-clause-limits : goal.returns-clause-limits
returns-clause-limits c =
    let p = c.in-Some.marked.portfolios in
    let t = c.requires.0 in
    let are : ArePortfolios t p = search rules in
    let nets = unit_nets_are t p are in
    let i = c.args.contract in
    let inside : i < length t.contracts = c.requires.2 in
    rw c.nets_at.ensures (record {
      lots = net_at t Lots p.lists i nets.lots inside;
      buys = net_at t WithBuys p.lists i nets.buys inside;
      sales = net_at t WithSales p.lists i nets.sales inside;
      all = net_at t WithAll p.lists i nets.all inside;
    })
