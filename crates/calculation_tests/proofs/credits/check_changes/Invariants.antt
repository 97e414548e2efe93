use Rattle.mgn_inter.specs.Credited.{AreCreditsOf}
use Rattle.calculation_tests.proofs.credits.check_changes.Given as goal

abbrev pub invariant-loop-case : goal.invariant-loop-case
invariant-loop-case g l = AreCreditsOf l.set l.credits
