use Rattle.std.proofs.Common.{◌≡◌, [], map, take, drop}
use Rattle.mgn_setfile.specs.Records.{repeat_place}
use Rattle.mgn_setfile.proofs.credits.repeat_place.Given as goal

abbrev pub invariant-loop-i : goal.invariant-loop-i
invariant-loop-i l =
    repeat_place [] (map (λ leg. leg.commodity) l.legs) ≡ repeat_place (take l.i (map (λ leg. leg.commodity) l.legs)) (drop l.i (map (λ leg. leg.commodity) l.legs))
