use Rattle.std.proofs.Common.{◌≡◌, length, map, take}
use Rattle.csv.specs.Records.{fields_of}
use Rattle.mgn_setfile.proofs.line.short_fields.Given as goal

abbrev pub invariant-loop-i : goal.invariant-loop-i
invariant-loop-i l = record {
  so_far : map (λ s. s.now) (take l.i l.words) ≡ take l.i (fields_of l.row);
  len : length l.words ≡ 24;
}
