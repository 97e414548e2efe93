use Rattle.std.proofs.Common.{◌∙◌, length, sym, ap}
use Rattle.mgn_machine.proofs.Items.{length-items_from}
use Rattle.mgn_ledger.specs.Passes.{PassView, history_seen, transcript}
use Rattle.mgn_ledger.proofs.pass.Pass.calls.Goals as goal

pub returns : goal.returns
returns g c =
    c.self.invariant.counted
    ∙ sym (length-items_from c.self.inside.session 1 (history_seen g.T.Shows.shown c.self.inside.last))
    ∙ ap (λ (p : PassView). length (transcript p)) c.self.view_is
