use Rattle.std.proofs.Common.{arith}
use Rattle.mgn_span.specs.Stages.{long_leg, short_leg}
use Rattle.mgn_laws.specs.Turns.{stages_in, starts_in}
use Rattle.mgn_laws.proofs.StageLemmas.{stages_in_limits, start_length, start_long, start_short, used_by_le}
use Rattle.mgn_laws.proofs.stages.uses_within_deltas.Goals as goal

pub returns-clause-long : goal.returns-clause-long
returns-clause-long c =
    let set = c.args.set.now in
    let nets = c.args.nets.now in
    let g = c.args.commodity in
    let within = used_by_le (starts_in set nets g) (stages_in set g) (long_leg c.args.tier) (start_length set nets g) (stages_in_limits set g c.limits.ensures) in
    omega (arith, within, start_long set nets g c.args.tier c.requires)

pub returns-clause-short : goal.returns-clause-short
returns-clause-short c =
    let set = c.args.set.now in
    let nets = c.args.nets.now in
    let g = c.args.commodity in
    let within = used_by_le (starts_in set nets g) (stages_in set g) (short_leg c.args.tier) (start_length set nets g) (stages_in_limits set g c.limits.ensures) in
    omega (arith, within, start_short set nets g c.args.tier c.requires)
