use Rattle.mgn_option.specs.Sums.{AreSums}
use Rattle.bench_calls.proofs.option_run.follow_all.Given as goal

abbrev pub invariant-loop-i : goal.invariant-loop-i
invariant-loop-i l = AreSums l.set l.nets l.sums
