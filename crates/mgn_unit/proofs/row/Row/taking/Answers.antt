use Rattle.std.proofs.Common.{◌≡◌, All, List, subst, sym}
use Rattle.std.specs.Prelude.{ℤ}
use Rattle.mgn_span.specs.Positions.{IsNet}
use Rattle.mgn_nets.specs.Portfolios.{AreNets}
use Rattle.mgn_unit.specs.NewSets.{carried}
use Rattle.mgn_unit.proofs.Places.{carried-nets}
use Rattle.mgn_unit.proofs.row.Row.taking.Goals as goal

pub returns-clause-limits : goal.returns-clause-limits
returns-clause-limits c =
    let old = c.args.switch.now.old in
    let new = c.args.switch.now.new in
    let of_new : (nets ready : List ℤ) → All IsNet nets → ready ≡ carried old new nets → AreNets new ready =
    λ nets ready small is. subst (AreNets new) (sym is) (carried-nets old new nets small)
    in
    let row = c.args.self.now in
    record {
      one_each = c.in_ok-carry.ensures.one_each;
      sizes = c.in_ok-carry.ensures.limits;
      lots = c.with.ensures.limits new (of_new row.lots.nets c.args.prepared.lots.nets c.requires.row.lots.nets c.requires.current.lots) c.requires.prepared.lots;
      buys = c.with-2.ensures.limits new (of_new row.buys.nets c.args.prepared.buys.nets c.requires.row.buys.nets c.requires.current.buys) c.requires.prepared.buys;
      sales = c.with-3.ensures.limits new (of_new row.sales.nets c.args.prepared.sales.nets c.requires.row.sales.nets c.requires.current.sales) c.requires.prepared.sales;
      all = c.with-4.ensures.limits new (of_new row.all.nets c.args.prepared.all.nets c.requires.row.all.nets c.requires.current.all) c.requires.prepared.all;
    }
