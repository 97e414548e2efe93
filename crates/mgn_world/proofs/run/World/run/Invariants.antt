use Rattle.std.proofs.Common.{◌≡◌}
use Rattle.mgn_world.specs.Claims.{IsReached}
use Rattle.mgn_world.specs.World.{opening, run}
use Rattle.mgn_world.specs.Worlds.{IsSound, shown}
use Rattle.mgn_world.proofs.run.World.run.Given as goal

abbrev pub invariant-loop-step : goal.invariant-loop-step
invariant-loop-step l = record {
  left : run (shown l.kept) l.step-iterator.rest.items ≡ run (opening l.fn.first) l.fn.steps.items;
  sound : IsSound l.kept;
  reached : IsReached (shown l.kept);
}
