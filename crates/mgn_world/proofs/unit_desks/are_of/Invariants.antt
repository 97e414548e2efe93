use Rattle.std.proofs.Common.{◌≡◌, drop, map}
use Rattle.mgn_world.specs.DeskMoves.{desk_shown}
use Rattle.mgn_world.specs.World.{are_of}
use Rattle.mgn_world.proofs.unit_desks.are_of.Given as goal

abbrev pub invariant-loop-one : goal.invariant-loop-one
invariant-loop-one l = are_of l.version (map desk_shown l.desks) (drop l.one-index l.seen) ≡ are_of l.version (map desk_shown l.desks) l.seen
