use Rattle.std.proofs.Common.{◌≡◌, ◌-◌, ◌<◌, ℕ, length, true}
use Rattle.mgn_unit.specs.NewSets.{is_covered_at}
use Rattle.mgn_unit.proofs.new_set.are_covered.Given as goal

abbrev pub invariant-loop-contract : goal.invariant-loop-contract
invariant-loop-contract l = (k : ℕ) → k < l.from → is_covered_at l.old l.new l.nets k ≡ true

abbrev pub decreases-loop-contract : goal.decreases-loop-contract
decreases-loop-contract l = length l.nets - l.from
