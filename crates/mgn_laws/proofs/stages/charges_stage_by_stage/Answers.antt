use Rattle.mgn_span.specs.Requirement.{intra_charge}
use Rattle.mgn_laws.specs.Turns.{stages_in, starts_in}
use Rattle.mgn_laws.proofs.StageLemmas.{charges_by_turns}
use Rattle.mgn_laws.proofs.stages.charges_stage_by_stage.Goals as goal

pub returns : goal.returns
unfolding intra_charge
returns c =
    let set = c.args.set.now in
    let g = c.args.commodity in
    charges_by_turns (starts_in set c.args.nets.now g) (stages_in set g)
