use Rattle.std.proofs.Common.{◌≡◌, None, length, map, replicate, take, vec_len}
use Rattle.std.specs.Vec.{vec_capacity}
use Rattle.mgn_unit.specs.Rows.{nets_in}
use Rattle.mgn_world.proofs.phases.Gathering.new.Given as goal

abbrev pub invariant-loop-row : goal.invariant-loop-row
invariant-loop-row l = record {
  copies : l.nets.items ≡ map nets_in (take l.row-index l.rows);
  none : l.prepared.items ≡ replicate l.row-index None;
  long : vec_len l.nets ≡ l.row-index;
  long_prepared : vec_len l.prepared ≡ l.row-index;
  room : vec_capacity l.nets ≡ length l.rows;
  room_prepared : vec_capacity l.prepared ≡ length l.rows;
}
