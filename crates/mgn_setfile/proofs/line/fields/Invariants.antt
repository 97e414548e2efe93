use Rattle.std.proofs.Common.{◌≡◌, length, map, take, vec_len}
use Rattle.std.specs.Vec.{vec_capacity}
use Rattle.csv.specs.Records.{fields_of}
use Rattle.mgn_setfile.proofs.line.fields.Given as goal

abbrev pub invariant-loop-i : goal.invariant-loop-i
invariant-loop-i l = record {
  so_far : map (λ s. s.now) l.words.items ≡ take l.i (fields_of l.row);
  len : vec_len l.words ≡ l.i;
  room : vec_capacity l.words ≡ length (fields_of l.row);
}
