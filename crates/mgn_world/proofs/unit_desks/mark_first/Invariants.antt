use Rattle.std.proofs.Common.{◌≡◌, drop, map}
use Rattle.mgn_world.specs.DeskMoves.{desk_shown}
use Rattle.mgn_world.specs.World.{mark_first}
use Rattle.mgn_world.proofs.unit_desks.mark_first.Given as goal

abbrev pub invariant-loop-one : goal.invariant-loop-one
invariant-loop-one l = record {
  rest : mark_first l.version (drop l.one-index l.seen) (map desk_shown l.initial.desks) ≡ mark_first l.version l.seen (map desk_shown l.initial.desks);
  same : l.desks ≡ l.initial.desks;
}
