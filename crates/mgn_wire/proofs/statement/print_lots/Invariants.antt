use Rattle.std.proofs.Common.{◌≡◌, ◌++◌, take}
use Rattle.std.specs.List.{flat_map}
use Rattle.mgn_wire.specs.StatementText.{lot_text}
use Rattle.mgn_wire.proofs.statement.print_lots.Given as goal

abbrev pub invariant-loop-lot : goal.invariant-loop-lot
invariant-loop-lot l = l.out.items ≡ l.fn.out.items ++ flat_map lot_text (take l.lot-index l.lots)
