use Rattle.std.proofs.Common.{◌≡◌, length, take}
use Rattle.std.specs.List.{sum_by, All}
use Rattle.mgn_machine.specs.History.{items_of}
use Rattle.mgn_ledger.specs.Passes.{PassView, transcript}
use Rattle.mgn_ledger.proofs.ledger.Ledger.audit.Given as goal

abbrev pub invariant-loop-pass : goal.invariant-loop-pass
invariant-loop-pass g l = record {
  total : l.total ≡ sum_by (λ (p : PassView). length (transcript p)) (take l.pass-index l.passes.items);
  each : All (λ (p : PassView). items_of p.session l.self.book.history ≡ transcript p) (take l.pass-index l.passes.items);
}
