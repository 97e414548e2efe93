use Rattle.mgn_scan.specs.Totals.{AreTotals}
use Rattle.bench_calls.proofs.scan_run.measure.Given as goal

abbrev pub invariant-loop-round : goal.invariant-loop-round
invariant-loop-round g l = AreTotals l.set l.nets l.totals
