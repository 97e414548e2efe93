use Rattle.std.proofs.Common.{◌≡◌, min, take}
use Rattle.std.specs.List.{fold}
use Rattle.mgn_span.specs.Credits.{leg_amount}
use Rattle.mgn_span.proofs.legs.amount_of_legs.Given as goal

abbrev pub invariant-loop-other : goal.invariant-loop-other
invariant-loop-other l =
    l.least ≡ fold (λ n other. min n (leg_amount l.rests other)) l.initial.least (take l.other-index l.others)
