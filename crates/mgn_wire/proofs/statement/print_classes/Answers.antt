use Rattle.mgn_wire.proofs.KeptFront.{kept_before}
use Rattle.mgn_wire.proofs.statement.print_classes.Goals as goal

pub returns-in_err-print_class-clause-kept : goal.returns-in_err-print_class-clause-kept
returns-in_err-print_class-clause-kept c = kept_before _ _ _ _ c.loop-line.invariant c.print_class.ensures.kept
