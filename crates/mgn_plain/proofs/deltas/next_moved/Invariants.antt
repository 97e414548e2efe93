use Rattle.std.proofs.Common.{◌≡◌, ◌-◌, ◌<◌, ◌≤◌, ℕ, length, pos}
use Rattle.mgn_span.specs.Scan.{value_at}
use Rattle.mgn_plain.proofs.deltas.next_moved.Given as goal

abbrev pub invariant-loop-place : goal.invariant-loop-place
invariant-loop-place l = record {
  from : l.from ≤ l.place;
  within : l.place ≤ length l.deltas;
  passed : (m : ℕ) → l.from ≤ m → m < l.place → value_at l.deltas m ≡ pos 0;
}

abbrev pub decreases-loop-place : goal.decreases-loop-place
decreases-loop-place l = length l.deltas - l.place
