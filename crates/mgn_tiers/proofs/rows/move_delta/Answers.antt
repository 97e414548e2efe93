use Rattle.mgn_span.proofs.SpreadLemmas.{are_spreads, is_spot}
use Rattle.mgn_tiers.proofs.rows.move_delta.Goals as goal

pub change_tier-requires-clause-spreads : goal.change_tier-requires-clause-spreads
change_tier-requires-clause-spreads c =
    rw c.spreads_in-spreads.ensures (are_spreads c.args.set.now c.args.month.now.commodity c.limits.ensures)

pub change_tier-requires-clause-spot : goal.change_tier-requires-clause-spot
change_tier-requires-clause-spot c =
    rw c.spot_in.ensures (is_spot c.args.set.now c.args.month.now.commodity c.limits.ensures)
