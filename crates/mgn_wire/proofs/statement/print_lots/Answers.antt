use Rattle.mgn_wire.proofs.KeptFront.{kept_before}
use Rattle.mgn_wire.proofs.statement.print_lots.Goals as goal

pub returns-in_err-print_lot-clause-kept : goal.returns-in_err-print_lot-clause-kept
returns-in_err-print_lot-clause-kept c = kept_before _ _ _ _ c.loop-lot.invariant c.print_lot.ensures.kept
