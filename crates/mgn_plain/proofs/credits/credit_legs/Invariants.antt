use Rattle.std.proofs.Common.{◌≡◌, ◌≤◌, ◌+◌, ◌*◌, ◌^◌, ℕ, take, length, slice_index}
use Rattle.mgn_span.specs.Credits.{credits_after}
use Rattle.mgn_plain.proofs.credits.credit_legs.Given as goal

abbrev pub invariant-loop-k : goal.invariant-loop-k
invariant-loop-k l = record {
  so_far : l.credits ≡ credits_after l.deltas l.risks l.rate l.amount l.initial.credits (take l.k l.legs);
  one_each : length l.credits ≡ length l.deltas;
  small : (g : ℕ) → slice_index l.credits g ≤ slice_index l.initial.credits g + l.k * 10 ^ 33;
}
