use Rattle.std.proofs.Common.{◌≡◌, ◌+◌, ◌<◌, ◌≤◌, ℕ}
use Rattle.mgn_span.specs.Scan.{value_at}
use Rattle.mgn_nets.proofs.pages.different_from.Given as goal

abbrev pub invariant-loop-place : goal.invariant-loop-place
invariant-loop-place l =
    (i : ℕ) → l.from ≤ i → i < l.place → value_at l.cells (l.start + i) ≡ value_at l.others (l.other_start + i)
