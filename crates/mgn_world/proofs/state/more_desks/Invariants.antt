use Rattle.std.proofs.Common.{◌≡◌, ◌≤◌, ◌++◌, ◌-◌, List, None, length, map, replicate}
use Rattle.mgn_params.specs.Tables.{Tables}
use Rattle.mgn_world.specs.DeskMoves.{AreRightDesks, desk_shown}
use Rattle.mgn_world.proofs.state.more_desks.Given as goal

abbrev pub invariant-loop-unit : goal.invariant-loop-unit
invariant-loop-unit l = record {
  so_far : map desk_shown l.desks.items ≡ map desk_shown l.initial.desks.items ++ replicate (l.unit - length (map desk_shown l.initial.desks.items)) None;
  stays : l.units ≤ length l.initial.desks.items → l.unit ≡ length l.initial.desks.items;
  from : length l.initial.desks.items ≤ l.unit;
  long : length l.desks.items ≡ l.unit;
  sound : (sets : List Tables) → AreRightDesks sets l.initial.desks.items → AreRightDesks sets l.desks.items;
}
