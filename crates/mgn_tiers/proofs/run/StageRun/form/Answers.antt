use Rattle.std.specs.List.{flat_map}
use Rattle.mgn_span.specs.Stages.{stages_of_spread}
use Rattle.mgn_span.proofs.StageSteps.{left_by_le}
use Rattle.mgn_tiers.proofs.run.StageRun.form.Goals as goal

pub spot_charge_of-spot_charged-requires-clause-left : goal.spot_charge_of-spot_charged-requires-clause-left
spot_charge_of-spot_charged-requires-clause-left c = λ k.
    rw c.form_spreads-charged.ensures.left (left_by_le c.self.inside.starts (flat_map stages_of_spread c.args.spreads.now) k)
