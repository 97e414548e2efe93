use Rattle.mgn_tiers.specs.Tiers.{AreTiersOf}
use Rattle.bench_calls.proofs.costs.measure_changes.Given as goal

abbrev pub invariant-loop-pass : goal.invariant-loop-pass
invariant-loop-pass g l = AreTiersOf l.set l.tiers
