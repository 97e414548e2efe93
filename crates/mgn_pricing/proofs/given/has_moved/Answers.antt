use Rattle.std.proofs.Common.{◌≡◌, ◌∙◌, arith, length, length-set, rules}
use Rattle.std.specs.Prelude.{◌+ℤ◌}
use Rattle.mgn_nets.specs.Portfolios.{UnitNets}
use Rattle.mgn_plan.specs.Plans.{moved_nets}
use Rattle.mgn_unit.specs.Rows.{nets_in}
use Rattle.mgn_pricing.proofs.Fitting.{AreLong, has-each, has-not}
use Rattle.mgn_pricing.proofs.given.has_moved.Goals as goal

pub returns-then-not-are_moved : goal.returns-then-not-are_moved
returns-then-not-are_moved c =
    let nets : UnitNets = moved_nets c.args.change.now (nets_in c.args.row.now) in
    has-not nets c.args.desk.now.marked c.loop-i.i c.nets_at.result c.nets_at.ensures.nets (search rules)

pub returns : goal.returns
returns c =
    let t = c.args.set.now in
    let change = c.args.change.now in
    let row = c.args.row.now in
    let nets : UnitNets = moved_nets change (nets_in row) in
    let long : AreLong t nets = (
      length-set row.lots.nets change.contract _ ∙ c.requires.row.lots.one_each,
      length-set row.buys.nets change.contract _ ∙ c.requires.row.buys.one_each,
      length-set row.sales.nets change.contract _ ∙ c.requires.row.sales.one_each,
      length-set row.all.nets change.contract _ ∙ c.requires.row.all.one_each,
    ) in
    has-each t c.args.desk.now.marked nets c.requires.marked long (λ k less. c.loop-i.invariant k (omega (arith, less, c.loop-i-test.false, c.contract_count-i-end.ensures t c.requires.marked)))
