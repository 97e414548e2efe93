use Rattle.std.proofs.Common.{◌≡◌, length, map, take, vec_len}
use Rattle.std.specs.Vec.{vec_capacity}
use Rattle.mgn_unit.specs.NewSets.{ArePrepared}
use Rattle.mgn_prepare.specs.Marks.{mark_of}
use Rattle.mgn_prepare.proofs.alone.mark_alone.Given as goal

abbrev pub invariant-loop-unit : goal.invariant-loop-unit
invariant-loop-unit g l = record {
  marks : l.marks.items ≡ map (mark_of l.marker.old.now l.marker.new.now) (take l.unit l.nets);
  prepared : ArePrepared l.marker.new.now l.marks.items;
  old_is : l.marker.old.now ≡ l.old;
  new_is : l.marker.new.now ≡ l.new;
  long : vec_len l.marks ≡ l.unit;
  room : vec_capacity l.marks ≡ length l.nets;
}
