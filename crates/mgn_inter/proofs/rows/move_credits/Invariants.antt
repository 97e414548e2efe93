use Rattle.std.proofs.Common.{◌≡◌, ◌+◌, ℕ, length, slice_index, take}
use Rattle.std.specs.List.{sum_by, zip}
use Rattle.mgn_inter.specs.Columns.{KeepsRisks, credits_in, rests_in}
use Rattle.mgn_inter.specs.Rows.{leg_share}
use Rattle.mgn_inter.proofs.rows.move_credits.Given as goal

abbrev pub invariant-loop-k : goal.invariant-loop-k
invariant-loop-k l = record {
  long : length l.numbers ≡ length l.initial.numbers;
  numbers : KeepsRisks l.initial.numbers l.numbers;
  rests : rests_in l.numbers ≡ rests_in l.initial.numbers;
  moved : (g : ℕ) → slice_index (credits_in l.numbers) g + sum_by (leg_share g) (take l.k (zip l.legs l.old)) ≡ slice_index (credits_in l.initial.numbers) g + sum_by (leg_share g) (take l.k (zip l.legs l.new));
}
