use Rattle.std.proofs.Common.{◌≡◌, ◌-◌, ◌<◌, ◌≤◌, ℕ, length}
use Rattle.mgn_span.specs.Scan.{value_at}
use Rattle.mgn_nets.proofs.nets.Nets.next_different.Given as goal

abbrev pub invariant-loop-contract : goal.invariant-loop-contract
invariant-loop-contract l = record {
  from : l.fn.from ≤ l.contract;
  passed : (k : ℕ) → l.fn.from ≤ k → k < l.contract → value_at l.self k ≡ value_at l.other k;
}

abbrev pub decreases-loop-contract : goal.decreases-loop-contract
decreases-loop-contract l = length l.self - l.contract
