use Rattle.mgn_scan.specs.Totals.{AreTotals}
use Rattle.bench_calls.proofs.scan_run.follow_all.Given as goal

abbrev pub invariant-loop-i : goal.invariant-loop-i
invariant-loop-i l = AreTotals l.set l.nets l.totals
