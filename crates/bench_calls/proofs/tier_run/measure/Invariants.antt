use Rattle.mgn_tiers.specs.Tiers.{AreTiersOf}
use Rattle.bench_calls.proofs.tier_run.measure.Given as goal

abbrev pub invariant-loop-round : goal.invariant-loop-round
invariant-loop-round g l = AreTiersOf l.set l.tiers
