use Rattle.std.proofs.Common.{◌≡◌, ◌≢◌, ◌+◌, ◌<◌, ℕ, false, true}
use Rattle.mgn_span.specs.Scan.{value_at}
use Rattle.mgn_nets.proofs.pages.is_same_page.Given as goal

abbrev pub invariant-loop-i : goal.invariant-loop-i
invariant-loop-i l = record {
  same : l.same ≡ true → (k : ℕ) → k < l.i → value_at l.cells (l.start + k) ≡ value_at l.others (l.other_start + k);
  other : l.same ≡ false → (k : ℕ) × (k < 16) × (value_at l.cells (l.start + k) ≢ value_at l.others (l.other_start + k));
}
