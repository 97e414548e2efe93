use Rattle.std.proofs.Common.{take}
use Rattle.mgn_ledger.specs.Passes.{AreApart}
use Rattle.mgn_ledger.proofs.ledger.Ledger.are_all.Given as goal

abbrev pub invariant-loop-i : goal.invariant-loop-i
invariant-loop-i g l = AreApart (take l.i l.passes.items)
