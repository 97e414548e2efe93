use Rattle.std.proofs.Common.{◌≡◌, ◌<◌, ℕ, length, slice_index}
use Rattle.mgn_span.specs.Words.{leg_at}
use Rattle.mgn_span.specs.Credits.{leg_credit}
use Rattle.mgn_span.proofs.legs.credits_of_legs.Given as goal

abbrev pub invariant-loop-k : goal.invariant-loop-k
invariant-loop-k l = record {
  long : length l.credits ≡ 4;
  so_far : (j : ℕ) → j < l.k → slice_index l.credits j ≡ leg_credit l.deltas l.risks l.rate l.amount (leg_at l.legs j);
}
