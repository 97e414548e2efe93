use Rattle.std.proofs.Common.{◌≡◌, ◌+◌, ◌<◌, ◌≤◌, ℕ, pos}
use Rattle.mgn_span.specs.Scan.{value_at}
use Rattle.mgn_nets.proofs.pages.held_from.Given as goal

abbrev pub invariant-loop-place : goal.invariant-loop-place
invariant-loop-place l = (i : ℕ) → l.from ≤ i → i < l.place → value_at l.cells (l.start + i) ≡ pos 0
