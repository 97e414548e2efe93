use Rattle.mgn_laws.specs.Turns.{stages_in, starts_in}
use Rattle.mgn_laws.proofs.StageLemmas.{left_and_used, stages_in_limits, start_length}
use Rattle.mgn_laws.proofs.stages.leaves_start_less_earlier_uses.Goals as goal

pub returns : goal.returns
returns c =
    let set = c.args.set.now in
    let nets = c.args.nets.now in
    let g = c.args.commodity in
    left_and_used (starts_in set nets g) (stages_in set g) c.args.leg c.args.stage (start_length set nets g) (stages_in_limits set g c.limits.ensures)
