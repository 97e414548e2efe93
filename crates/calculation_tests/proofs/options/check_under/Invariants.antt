use Rattle.mgn_option.specs.Sums.{AreSums}
use Rattle.calculation_tests.proofs.options.check_under.Given as goal

abbrev pub invariant-loop-change : goal.invariant-loop-change
invariant-loop-change g l = AreSums l.set l.nets l.sums
