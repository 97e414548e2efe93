use Rattle.std.proofs.Common.{◌≡◌, ◌++◌, drop, map, take, length}
use Rattle.mgn_world.specs.World.{freed}
use Rattle.mgn_world.proofs.units.free.Given as goal

abbrev pub invariant-loop-unit : goal.invariant-loop-unit
invariant-loop-unit l = record {
  so_far : l.locks ≡ map (freed l.place) (take l.unit l.initial.locks) ++ drop l.unit l.initial.locks;
  long : length l.locks ≡ length l.initial.locks;
}
