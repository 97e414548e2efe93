use Rattle.std.proofs.Common.{◌≤◌, ◌-◌, length}
use Rattle.mgn_plain.specs.Sums.{AreSumsTo}
use Rattle.mgn_plain.proofs.sums.add_positions.Given as goal

abbrev pub invariant-loop-i : goal.invariant-loop-i
invariant-loop-i l = record {
  within : l.from ≤ length l.nets;
  so_far : AreSumsTo l.set l.nets l.from l.sums;
}

abbrev pub decreases-loop-i : goal.decreases-loop-i
decreases-loop-i l = length l.nets - l.from
