use Rattle.std.proofs.Common.{◌≡◌, ◌<◌, ◌≤◌, ◌-◌, ℕ, false, length}
use Rattle.std.specs.Int.{bit_at}
use Rattle.mgn_params.specs.Tables.{credit_spread_at, legs_of}
use Rattle.mgn_span.specs.Credits.{forms}
use Rattle.mgn_inter.specs.Rows.{rests_at}
use Rattle.mgn_inter.proofs.inter.InterCredits.none_forms.Given as goal

abbrev pub invariant-loop-i : goal.invariant-loop-i
invariant-loop-i l = record {
  inside : l.i ≤ length l.set.credits;
  none : (j : ℕ) → j < l.i → bit_at l.naming j ≡ 1 → forms (rests_at l.self.deltas l.self.risks l.set.credits j) (legs_of (credit_spread_at l.set.credits j)) ≡ false;
}

abbrev pub decreases-loop-i : goal.decreases-loop-i
decreases-loop-i l = l.spreads - l.i
