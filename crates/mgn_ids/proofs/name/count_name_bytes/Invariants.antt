use Rattle.std.proofs.Common.{◌≡◌, ◌≤◌, take}
use Rattle.std.specs.List.{count_by}
use Rattle.mgn_ids.specs.Name.{is_name_byte}
use Rattle.mgn_ids.proofs.name.count_name_bytes.Given as goal

abbrev pub invariant-loop-i : goal.invariant-loop-i
invariant-loop-i l = record {
  counted : l.count ≡ count_by is_name_byte (take l.i l.row);
  few : l.count ≤ l.i;
}
