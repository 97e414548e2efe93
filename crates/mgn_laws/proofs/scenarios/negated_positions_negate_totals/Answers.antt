use Rattle.mgn_laws.proofs.NegatedLemmas.{total_negated}
use Rattle.mgn_laws.proofs.scenarios.negated_positions_negate_totals.Goals as goal

pub returns : goal.returns
returns c = total_negated c.args.set.now.contracts c.args.nets.now c.args.commodity c.args.scenario
