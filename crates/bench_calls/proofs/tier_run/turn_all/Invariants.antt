use Rattle.mgn_tiers.specs.Tiers.{AreTiersOf}
use Rattle.bench_calls.proofs.tier_run.turn_all.Given as goal

abbrev pub invariant-loop-i : goal.invariant-loop-i
invariant-loop-i l = AreTiersOf l.set l.tiers
