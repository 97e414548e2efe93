use Rattle.std.proofs.Common.{◌≡◌, ◌++◌, take}
use Rattle.std.specs.List.{flat_map}
use Rattle.mgn_wire.specs.StatementText.{hold_text}
use Rattle.mgn_wire.proofs.statement.print_holds.Given as goal

abbrev pub invariant-loop-held : goal.invariant-loop-held
invariant-loop-held l = l.out.items ≡ l.fn.out.items ++ flat_map hold_text (take l.held-index l.holds)
