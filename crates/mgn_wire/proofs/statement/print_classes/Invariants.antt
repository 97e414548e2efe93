use Rattle.std.proofs.Common.{◌≡◌, ◌++◌, take}
use Rattle.std.specs.List.{flat_map}
use Rattle.mgn_wire.specs.StatementText.{class_text}
use Rattle.mgn_wire.proofs.statement.print_classes.Given as goal

abbrev pub invariant-loop-line : goal.invariant-loop-line
invariant-loop-line l = l.out.items ≡ l.fn.out.items ++ flat_map class_text (take l.line-index l.lines)
