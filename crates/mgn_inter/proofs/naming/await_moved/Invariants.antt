use Rattle.std.proofs.Common.{◌≡◌, ◌<◌, ℕ, false, true}
use Rattle.std.specs.Int.{bit_at}
use Rattle.mgn_params.specs.Tables.{credit_spread_at, legs_of}
use Rattle.mgn_inter.specs.Rows.{moved_at, names}
use Rattle.mgn_span.specs.Words.{leg_at}
use Rattle.mgn_inter.proofs.naming.await_moved.Given as goal

abbrev pub invariant-loop-leg : goal.invariant-loop-leg
invariant-loop-leg l = record {
  kept : (i : ℕ) → bit_at l.waiting i ≡ 0 → bit_at l.initial.waiting i ≡ 0;
  moved : (i j : ℕ) → bit_at l.waiting i ≡ 0 → j < l.leg-index → moved_at l.moved (leg_at l.legs j).commodity ≡ true → names (leg_at l.legs j).commodity (legs_of (credit_spread_at l.set.credits i)) ≡ false;
}
