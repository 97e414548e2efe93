use Rattle.std.proofs.Common.{◌∙◌, ap, None, Option, List, ℕ}
use Rattle.std.proofs.lemmas.List.{length-set}
use Rattle.std.specs.Prelude.{slice_index_or, slice_set}
use Rattle.mgn_world.specs.World.{freed}
use Rattle.mgn_world.proofs.Shows.{change_more}
use Rattle.mgn_world.proofs.units.free.Goals as goal

pub loop-unit-preserved : goal.loop-unit-preserved
loop-unit-preserved c = record {
  so_far =
      (λ j. slice_set c.loop-unit.locks c.loop-unit.unit (c.freed.ensures j))
      ∙ ap (λ (xs : List (Option ℕ)). slice_set xs c.loop-unit.unit (freed c.args.place (slice_index_or xs c.loop-unit.unit None))) c.loop-unit.invariant.so_far
      ∙ change_more (freed c.args.place) None c.args.locks.now c.loop-unit.unit c.loop-unit-test.true;
  long = length-set c.loop-unit.locks c.loop-unit.unit c.freed.result ∙ c.loop-unit.invariant.long;
}
