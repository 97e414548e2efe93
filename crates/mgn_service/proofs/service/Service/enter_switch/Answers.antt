use Rattle.std.proofs.Common.{List, ℕ, sym, subst}
use Rattle.mgn_day.specs.Gathering.{AreReady}
use Rattle.mgn_service.proofs.service.Service.enter_switch.Goals as goal

pub enter_switch-requires-clause-ready : goal.enter_switch-requires-clause-ready
enter_switch-requires-clause-ready g c =
    subst (λ (since : List (ℕ × g.row.T.Denot)). AreReady g.T.Shows.shown c.args.set c.args.prepared.now.units.units.items since) (sym c.as_slice-since.ensures.value) c.requires.ready
