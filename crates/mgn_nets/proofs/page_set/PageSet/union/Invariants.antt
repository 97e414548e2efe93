use Rattle.std.proofs.Common.{◌≡◌, ◌<◌, ◌≤◌, ℕ, get_or, length}
use Rattle.std.specs.Int.Bits.{bit_or}
use Rattle.mgn_nets.proofs.page_set.PageSet.union.Given as goal

abbrev pub invariant-loop-i : goal.invariant-loop-i
invariant-loop-i l = record {
  long : length l.words ≡ 4;
  joined : (k : ℕ) → k < l.i → get_or l.words k 0 ≡ bit_or (get_or l.self.words k 0) (get_or l.other.words k 0);
  rest : (k : ℕ) → l.i ≤ k → get_or l.words k 0 ≡ get_or l.self.words k 0;
}
