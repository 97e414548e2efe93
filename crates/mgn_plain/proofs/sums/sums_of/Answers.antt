use Rattle.mgn_plain.proofs.PassLemmas.{sums_all}
use Rattle.mgn_plain.proofs.sums.sums_of.Goals as goal

pub returns : goal.returns
returns c = sums_all c.args.set.now c.args.nets.now c.add_positions.new.sums c.limits.ensures c.add_positions.ensures
