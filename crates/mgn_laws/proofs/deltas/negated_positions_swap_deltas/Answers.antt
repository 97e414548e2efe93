use Rattle.mgn_laws.proofs.NegatedLemmas.{long_negated, short_negated}
use Rattle.mgn_laws.proofs.deltas.negated_positions_swap_deltas.Goals as goal

pub returns-clause-long : goal.returns-clause-long
returns-clause-long c = long_negated c.args.set.now.months c.args.set.now.contracts c.args.nets.now c.args.commodity c.args.tier

pub returns-clause-short : goal.returns-clause-short
returns-clause-short c = short_negated c.args.set.now.months c.args.set.now.contracts c.args.nets.now c.args.commodity c.args.tier
