use Rattle.std.proofs.Common.{◌≡◌, ◌+◌, ◌≤◌, map, take, drop, All, length}
use Rattle.std.specs.Prelude.{◌^◌, unsigned_abs}
use Rattle.mgn_setfile.specs.Records.{values_from}
use Rattle.mgn_setfile.proofs.RecordLemmas.{fronted}
use Rattle.mgn_setfile.proofs.contracts.read_values.Given as goal

abbrev pub invariant-loop-i : goal.invariant-loop-i
invariant-loop-i l = record {
  so_far : values_from 9 (map (λ s. s.now) l.words) ≡ fronted (take l.i l.values) (values_from (9 + l.i) (drop l.i (map (λ s. s.now) l.words)));
  all : length l.values ≡ 16;
  small : All (λ v. unsigned_abs v ≤ 10 ^ 8) l.values;
}
