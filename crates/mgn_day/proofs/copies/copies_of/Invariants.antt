use Rattle.std.proofs.Common.{◌≡◌, length, map, take, vec_len}
use Rattle.std.specs.Vec.{vec_capacity}
use Rattle.mgn_unit.specs.Rows.{nets_in}
use Rattle.mgn_day.proofs.copies.copies_of.Given as goal

abbrev pub invariant-loop-row : goal.invariant-loop-row
invariant-loop-row l = record {
  copies : l.copies.items ≡ map nets_in (take l.row-index l.rows);
  long : vec_len l.copies ≡ l.row-index;
  room : vec_capacity l.copies ≡ length l.rows;
}
