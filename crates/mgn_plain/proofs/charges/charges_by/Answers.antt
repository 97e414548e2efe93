use Rattle.std.specs.List.{flat_map}
use Rattle.mgn_span.specs.Stages.{stages_of_spread}
use Rattle.mgn_span.proofs.SpreadLemmas.{are_spreads, is_spot}
use Rattle.mgn_span.proofs.StageSteps.{left_by_le}
use Rattle.mgn_plain.proofs.charges.charges_by.Goals as goal

pub form_spreads-intra-requires-clause-spreads : goal.form_spreads-intra-requires-clause-spreads
form_spreads-intra-requires-clause-spreads c = rw c.spreads_in.ensures (are_spreads c.args.set.now c.args.commodity c.limits.ensures)

pub spot_charge_of-spot-requires-clause-spot : goal.spot_charge_of-spot-requires-clause-spot
spot_charge_of-spot-requires-clause-spot c = rw c.spot_in.ensures (is_spot c.args.set.now c.args.commodity c.limits.ensures)

pub spot_charge_of-spot-requires-clause-left : goal.spot_charge_of-spot-requires-clause-left
spot_charge_of-spot-requires-clause-left c = λ k.
    rw c.form_spreads-intra.ensures.left (left_by_le c.args.starts.now (flat_map stages_of_spread c.spreads_in.result.now) k)
