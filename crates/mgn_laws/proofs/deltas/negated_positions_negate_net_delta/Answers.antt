use Rattle.mgn_laws.proofs.NegatedLemmas.{net_negated}
use Rattle.mgn_laws.proofs.deltas.negated_positions_negate_net_delta.Goals as goal

pub returns : goal.returns
returns c = net_negated c.args.set.now.months c.args.set.now.contracts c.args.nets.now c.args.commodity
