use Rattle.std.proofs.Common.{◌≡◌, ◌≢◌}
use Rattle.std.specs.List.{AllWithin}
use Rattle.mgn_unit.specs.declared.row.PricedNets.{PricedNets}
use Rattle.mgn_unit.proofs.prepared.required_beside.Given as goal

-- none before it has these nets, and nothing was worked out
abbrev pub invariant-loop-other : goal.invariant-loop-other
invariant-loop-other l =
    AllWithin (λ (it : PricedNets). it.nets.now ≢ l.nets) l.others 0 l.other-index × (l.work ≡ l.initial.work)
