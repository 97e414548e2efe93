use Rattle.mgn_laws.specs.Turns.{stages_in, starts_in}
use Rattle.mgn_laws.proofs.StageLemmas.{used_by_turns}
use Rattle.mgn_laws.proofs.stages.uses_stage_by_stage.Goals as goal

pub returns : goal.returns
returns c =
    let set = c.args.set.now in
    let g = c.args.commodity in
    used_by_turns (starts_in set c.args.nets.now g) (stages_in set g) c.args.leg
