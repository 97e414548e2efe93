use Rattle.std.proofs.Common.{◌≡◌, ◌<◌, ◌≤◌, ℕ, length, pos}
use Rattle.mgn_span.specs.Scan.{value_at}
use Rattle.mgn_nets.proofs.nets.Nets.of.Given as goal

abbrev pub invariant-loop-i : goal.invariant-loop-i
invariant-loop-i l = record {
  long : length l.nets ≡ length l.list;
  done : (k : ℕ) → k < l.i → value_at l.nets k ≡ value_at l.list k;
  rest : (k : ℕ) → l.i ≤ k → value_at l.nets k ≡ pos 0;
}
