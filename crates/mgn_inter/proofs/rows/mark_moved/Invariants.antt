use Rattle.std.proofs.Common.{◌≡◌, ◌<◌, ℕ, false, length}
use Rattle.std.specs.Prelude.{not}
use Rattle.std.specs.Ordering.{int_eq}
use Rattle.mgn_span.specs.Scan.{value_at}
use Rattle.mgn_inter.specs.Rows.{moved_at, names}
use Rattle.mgn_span.specs.Words.{leg_at}
use Rattle.mgn_inter.proofs.rows.mark_moved.Given as goal

abbrev pub invariant-loop-k : goal.invariant-loop-k
invariant-loop-k l = record {
  long : length l.moved ≡ length l.initial.moved;
  out : (c : ℕ) → names c l.legs ≡ false → moved_at l.moved c ≡ moved_at l.initial.moved c;
  so_far : (j : ℕ) → j < l.k → moved_at l.moved (leg_at l.legs j).commodity ≡ not (int_eq (value_at l.new j) (value_at l.old j));
}
