use Rattle.std.proofs.Common.{◌≡◌, ◌≢◌, ◌<◌, ℕ, false, get_or, true}
use Rattle.mgn_nets.proofs.pages.are_same_starts.Given as goal

abbrev pub invariant-loop-i : goal.invariant-loop-i
invariant-loop-i l = record {
  same : l.same ≡ true → (k : ℕ) → k < l.i → get_or l.starts k 0 ≡ get_or l.others k 0;
  other : l.same ≡ false → (k : ℕ) × (get_or l.starts k 0 ≢ get_or l.others k 0);
}
