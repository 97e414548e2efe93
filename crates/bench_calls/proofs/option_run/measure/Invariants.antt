use Rattle.mgn_option.specs.Sums.{AreSums}
use Rattle.bench_calls.proofs.option_run.measure.Given as goal

abbrev pub invariant-loop-round : goal.invariant-loop-round
invariant-loop-round g l = AreSums l.set l.nets l.sums
