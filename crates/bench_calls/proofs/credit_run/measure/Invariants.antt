use Rattle.mgn_inter.specs.Credited.{AreCreditsOf}
use Rattle.bench_calls.proofs.credit_run.measure.Given as goal

abbrev pub invariant-loop-k : goal.invariant-loop-k
invariant-loop-k g l = AreCreditsOf l.set l.credits
