use Rattle.std.proofs.Common.{◌≡◌, ◌<◌, ◌≤◌, ℕ, length}
use Rattle.std.specs.Prelude.{◌==◌, if◌then◌else◌}
use Rattle.mgn_span.specs.Scan.{value_at}
use Rattle.mgn_span.specs.Words.{leg_at}
use Rattle.mgn_inter.proofs.rows.move_rest.Given as goal

abbrev pub invariant-loop-k : goal.invariant-loop-k
invariant-loop-k l = record {
  rests_long : length l.kept.rests ≡ 4;
  after_long : length l.kept.after ≡ 4;
  rests : (j : ℕ) → j < l.k → value_at l.kept.rests j ≡ (if (leg_at l.legs j).commodity == l.g then l.rest else value_at l.initial.kept.rests j);
  after : (j : ℕ) → j < l.k → value_at l.kept.after j ≡ (if (leg_at l.legs j).commodity == l.g then l.rest else value_at l.initial.kept.after j);
  rests_left : (j : ℕ) → l.k ≤ j → value_at l.kept.rests j ≡ value_at l.initial.kept.rests j;
  after_left : (j : ℕ) → l.k ≤ j → value_at l.kept.after j ≡ value_at l.initial.kept.after j;
  credits : l.kept.credits ≡ l.initial.kept.credits;
}
