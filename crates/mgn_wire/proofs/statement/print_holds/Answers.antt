use Rattle.mgn_wire.proofs.KeptFront.{kept_before}
use Rattle.mgn_wire.proofs.statement.print_holds.Goals as goal

pub returns-in_err-print_hold-clause-kept : goal.returns-in_err-print_hold-clause-kept
returns-in_err-print_hold-clause-kept c = kept_before _ _ _ _ c.loop-held.invariant c.print_hold.ensures.kept
