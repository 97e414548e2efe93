use Rattle.std.proofs.Common.{List, subst, sym}
use Rattle.std.specs.Prelude.{ℤ}
use Rattle.mgn_nets.specs.Portfolios.{AreNets}
use Rattle.mgn_unit.proofs.Places.{carried-nets}
use Rattle.mgn_unit.proofs.new_set.still_prepared.Goals as goal

pub returns-then-carries-clause-limits : goal.returns-then-carries-clause-limits
returns-then-carries-clause-limits c =
    subst (λ (nets : List ℤ). AreNets c.args.switch.now.new nets) (sym (c.carries.ensures.0 c.if-carries.true))
    (carried-nets c.args.switch.now.old c.args.switch.now.new c.args.nets.now c.requires.nets.small)
