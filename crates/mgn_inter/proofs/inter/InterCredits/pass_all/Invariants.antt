use Rattle.std.proofs.Common.{◌≡◌, ◌<◌, ◌≤◌, ◌-◌, ℕ, true, false, length, replicate, slice_set}
use Rattle.std.specs.Int.{bit_at}
use Rattle.mgn_span.specs.Scan.{value_at}
use Rattle.mgn_inter.specs.Credited.{IsAtTurn}
use Rattle.mgn_inter.specs.Quiet.{AreAlike, NoneForms}
use Rattle.mgn_inter.specs.Rows.{Credited, KeepsNumbers}
use Rattle.mgn_inter.specs.Told.{credits_at}
use Rattle.mgn_inter.proofs.inter.InterCredits.pass_all.Given as goal

abbrev pub invariant-loop-i : goal.invariant-loop-i
invariant-loop-i l = record {
  turn : (was : Credited) × IsAtTurn l.set l.g was (slice_set (replicate 256 false) l.g true) l.i l.self × AreAlike l.rest (value_at was.deltas l.g)
      × NoneForms l.set.credits was.deltas was.risks l.naming;
  inside : l.i ≤ length l.set.credits;
  here : l.i < length l.set.credits → bit_at l.naming l.i ≡ 1;
  rest : value_at l.self.rests l.g ≡ l.rest;
  numbers : KeepsNumbers l.initial.self l.self;
  credits : l.self.credits ≡ l.initial.self.credits;
  same : (j : ℕ) → credits_at l.self.kept j ≡ credits_at l.initial.self.kept j;
}

abbrev pub decreases-loop-i : goal.decreases-loop-i
decreases-loop-i l = l.spreads - l.i
