use Rattle.std.proofs.Common.{◌-◌, ◌≤◌, length}
use Rattle.mgn_plain.specs.Months.{AreMonthSumsTo}
use Rattle.mgn_plain.proofs.deltas.add_months.Given as goal

abbrev pub invariant-loop-m : goal.invariant-loop-m
invariant-loop-m l = record {
  within : l.m ≤ length l.set.months;
  sums : AreMonthSumsTo l.set l.deltas l.m l.sums;
}

abbrev pub decreases-loop-m : goal.decreases-loop-m
decreases-loop-m l = length l.set.months - l.m
