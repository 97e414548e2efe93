use Rattle.mgn_scan.specs.Totals.{AreTotals}
use Rattle.calculation_tests.proofs.scan.check_under.Given as goal

abbrev pub invariant-loop-change : goal.invariant-loop-change
invariant-loop-change g l = AreTotals l.set l.nets l.totals
