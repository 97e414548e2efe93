use Rattle.std.proofs.Common.{◌≡◌, ◌<◌, ◌≤◌, ◌-◌, ℕ, All, false, length, slice_index}
use Rattle.mgn_inter.specs.Credited.{IsAtTurn}
use Rattle.mgn_inter.specs.Rows.{AreWaiting, Credited, KeepsNumbers, kept_at, named}
use Rattle.mgn_inter.specs.Told.{told_of}
use Rattle.mgn_inter.proofs.inter.InterCredits.rework_reached.Given as goal

abbrev pub invariant-loop-i : goal.invariant-loop-i
invariant-loop-i l = record {
  turn : (was : Credited) × IsAtTurn l.set l.g was l.moved l.i l.self;
  waiting : AreWaiting l.set.credits l.g l.moved l.i l.waiting;
  numbers : KeepsNumbers l.initial.self l.self;
  inside : l.i ≤ length l.set.credits;
  places : All (λ i. i < length l.set.credits) l.reworked;
  others : (k : ℕ) → named k l.set.credits l.reworked ≡ false → slice_index l.self.credits k ≡ slice_index l.initial.self.credits k;
  left : (j : ℕ) → l.i ≤ j → kept_at l.self.kept j ≡ kept_at l.initial.self.kept j;
  told : l.reworked ≡ told_of l.initial.self.kept l.self.kept l.i;
}

abbrev pub decreases-loop-i : goal.decreases-loop-i
decreases-loop-i l = l.count - l.i
