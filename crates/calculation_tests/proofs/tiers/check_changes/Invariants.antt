use Rattle.mgn_tiers.specs.Tiers.{AreTiersOf}
use Rattle.calculation_tests.proofs.tiers.check_changes.Given as goal

abbrev pub invariant-loop-case : goal.invariant-loop-case
invariant-loop-case g l = AreTiersOf l.set l.tiers
