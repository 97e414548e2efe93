use Rattle.std.proofs.Common.{◌≡◌}
use Rattle.mgn_day.proofs.copies.whole_nets.Given as goal

abbrev pub invariant-loop-copy : goal.invariant-loop-copy
invariant-loop-copy l = l.nets.items ≡ l.yielded
