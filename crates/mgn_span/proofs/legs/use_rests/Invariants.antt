use Rattle.std.proofs.Common.{◌≡◌, take}
use Rattle.mgn_span.specs.Credits.{rests_after}
use Rattle.mgn_span.proofs.legs.use_rests.Given as goal

abbrev pub invariant-loop-leg : goal.invariant-loop-leg
invariant-loop-leg l = l.rests ≡ rests_after l.initial.rests l.amount (take l.leg-index l.legs)
