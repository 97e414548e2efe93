use Rattle.std.proofs.Common.{◌≡◌, take}
use Rattle.mgn_params.specs.Limits.{class_names}
use Rattle.mgn_params.proofs.set.copies.places_of_classes.Given as goal

abbrev pub invariant-loop-row : goal.invariant-loop-row
invariant-loop-row l = l.places ≡ class_names (take l.row-index l.classes)
