use Rattle.std.proofs.Common.{◌≡◌, length}
use Rattle.mgn_slots.proofs.slots.Slots.new.Given as goal

abbrev pub invariant-loop-made : goal.invariant-loop-made
invariant-loop-made _ l = length l.slots.items ≡ l._made
