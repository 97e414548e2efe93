use Rattle.std.proofs.Common.{◌<◌, ℕ}
use Rattle.mgn_desk.specs.Desks.{AreNetsAt, nets_at}
use Rattle.mgn_plan.specs.Plans.{moved_nets}
use Rattle.mgn_unit.specs.Rows.{nets_in}
use Rattle.mgn_pricing.proofs.given.has_moved.Given as goal

abbrev pub invariant-loop-i : goal.invariant-loop-i
invariant-loop-i l = (k : ℕ) → k < l.i → AreNetsAt l.desk.marked k (nets_at (moved_nets l.change (nets_in l.row)) k)
