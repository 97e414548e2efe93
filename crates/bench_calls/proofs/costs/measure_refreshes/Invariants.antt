use Rattle.mgn_inter.specs.Credited.{AreCreditsOf}
use Rattle.bench_calls.proofs.costs.measure_refreshes.Given as goal

abbrev pub invariant-loop-pass : goal.invariant-loop-pass
invariant-loop-pass g l = AreCreditsOf l.set l.credits
