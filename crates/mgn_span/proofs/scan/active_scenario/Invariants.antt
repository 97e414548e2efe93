use Rattle.std.proofs.Common.{ℕ, ◌<◌, ◌≡◌}
use Rattle.std.specs.Prelude.{◌≤ℤ◌, ◌<ℤ◌}
use Rattle.mgn_span.specs.Scan.{value_at}
use Rattle.mgn_span.proofs.scan.active_scenario.Given as goal

abbrev pub invariant-loop-s : goal.invariant-loop-s
invariant-loop-s l = record {
  below : l.best < l.s;
  most : l.most ≡ value_at l.totals l.best;
  largest : (k : ℕ) → k < l.s → value_at l.totals k ≤ℤ value_at l.totals l.best;
  lowest : (k : ℕ) → k < l.best → value_at l.totals k <ℤ value_at l.totals l.best;
}
