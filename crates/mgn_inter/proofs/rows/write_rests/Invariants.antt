use Rattle.std.proofs.Common.{◌≡◌, ◌<◌, ℕ, false, true, length}
use Rattle.mgn_span.specs.Scan.{value_at}
use Rattle.mgn_inter.specs.Columns.{KeepsRisks, credits_in, rests_in}
use Rattle.mgn_inter.specs.Rows.{moved_at, names}
use Rattle.mgn_span.specs.Words.{leg_at}
use Rattle.mgn_inter.proofs.rows.write_rests.Given as goal

abbrev pub invariant-loop-k : goal.invariant-loop-k
invariant-loop-k l = record {
  long : length l.numbers ≡ length l.initial.numbers;
  numbers : KeepsRisks l.initial.numbers l.numbers;
  credits : credits_in l.numbers ≡ credits_in l.initial.numbers;
  out : (c : ℕ) → names c l.legs ≡ false → value_at (rests_in l.numbers) c ≡ value_at (rests_in l.initial.numbers) c;
  so_far : (j : ℕ) → j < l.k → let c = (leg_at l.legs j).commodity in moved_at l.moved c ≡ true → value_at (rests_in l.numbers) c ≡ value_at l.rests j;
}
