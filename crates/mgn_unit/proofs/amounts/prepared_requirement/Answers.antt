use Rattle.std.proofs.Common.{◌≡◌}
use Rattle.mgn_unit.specs.NewSets.{carried}
use Rattle.mgn_unit.proofs.KeptPlaces.{kept-required}
use Rattle.mgn_unit.proofs.amounts.prepared_requirement.Goals as goal
use Rattle.mgn_unit.proofs.amounts.prepared_requirement.Goals.{then-is_current-via-then-is_current, then-is_current-via-else-is_current+then-carries}

pub returns-then-is_current-clause-required : goal.returns-then-is_current-clause-required
returns-then-is_current-clause-required c =
    let old = c.args.switch.now.old in
    let new = c.args.switch.now.new in
    let same : c.args.prepared.now.nets ≡ carried old new c.args.nets.now =
    elim c.then-is_current.branch [
      | then-is_current-via-then-is_current w ↦ c.requires.current w.if-is_current.true
      | then-is_current-via-else-is_current+then-carries w ↦ w.carries.ensures.0 w.if-carries.true
    ]
    in
    kept-required old new c.args.nets.now c.args.prepared.now.nets c.args.prepared.now.requirement c.requires.keeps c.requires.nets.one_each same c.requires.prepared
