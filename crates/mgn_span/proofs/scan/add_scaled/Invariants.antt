use Rattle.std.proofs.Common.{◌≡◌, ℕ, ◌<◌, ◌≤◌}
use Rattle.std.specs.Prelude.{◌+ℤ◌, ◌*ℤ◌}
use Rattle.mgn_span.specs.Scan.{value_at}
use Rattle.mgn_span.proofs.scan.add_scaled.Given as goal

abbrev pub invariant-loop-s : goal.invariant-loop-s
invariant-loop-s l = record {
  done : (k : ℕ) → k < l.s → value_at l.totals k ≡ value_at l.initial.totals k +ℤ l.quantity *ℤ value_at l.array k;
  rest : (k : ℕ) → l.s ≤ k → value_at l.totals k ≡ value_at l.initial.totals k;
}
