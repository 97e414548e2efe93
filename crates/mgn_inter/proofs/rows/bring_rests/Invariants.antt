use Rattle.std.proofs.Common.{◌≡◌, ◌<◌, ◌≤◌, ℕ, length}
use Rattle.std.specs.Prelude.{if◌then◌else◌}
use Rattle.mgn_span.specs.Scan.{value_at}
use Rattle.mgn_inter.specs.Columns.{rests_in}
use Rattle.mgn_inter.specs.Rows.{moved_at}
use Rattle.mgn_span.specs.Words.{leg_at}
use Rattle.mgn_inter.proofs.rows.bring_rests.Given as goal

abbrev pub invariant-loop-k : goal.invariant-loop-k
invariant-loop-k l = record {
  long : length l.kept ≡ 4;
  so_far : (j : ℕ) → j < l.k → let c = (leg_at l.legs j).commodity in value_at l.kept j ≡ (if moved_at l.moved c then value_at (rests_in l.numbers) c else value_at l.initial.kept j);
  left : (j : ℕ) → l.k ≤ j → value_at l.kept j ≡ value_at l.initial.kept j;
}
