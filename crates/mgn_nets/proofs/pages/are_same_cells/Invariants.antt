use Rattle.std.proofs.Common.{◌≡◌, ◌≢◌, ◌<◌, ℕ, false, true}
use Rattle.mgn_span.specs.Scan.{value_at}
use Rattle.mgn_nets.proofs.pages.are_same_cells.Given as goal

abbrev pub invariant-loop-i : goal.invariant-loop-i
invariant-loop-i l = record {
  same : l.same ≡ true → (k : ℕ) → k < l.i → value_at l.cells k ≡ value_at l.others k;
  other : l.same ≡ false → (k : ℕ) × (value_at l.cells k ≢ value_at l.others k);
}
