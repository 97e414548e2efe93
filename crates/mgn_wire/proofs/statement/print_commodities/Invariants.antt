use Rattle.std.proofs.Common.{◌≡◌, ◌++◌, take}
use Rattle.std.specs.List.{flat_map}
use Rattle.mgn_wire.specs.StatementText.{commodity_text}
use Rattle.mgn_wire.proofs.statement.print_commodities.Given as goal

abbrev pub invariant-loop-place : goal.invariant-loop-place
invariant-loop-place l = l.out.items ≡ l.fn.out.items ++ flat_map commodity_text (take l.place l.lines)
