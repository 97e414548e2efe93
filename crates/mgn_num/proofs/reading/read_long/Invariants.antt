use Rattle.std.proofs.Common.{◌≡◌, ◌+◌, ◌^◌, min, true, take}
use Rattle.std.specs.List.{list_all}
use Rattle.mgn_num.specs.Text.{number_from, is_digit}
use Rattle.mgn_num.proofs.reading.read_long.Given as goal

abbrev pub invariant-loop-byte : goal.invariant-loop-byte
invariant-loop-byte l = record {
  so_far : l.number ≡ min (number_from (take l.byte-index l.digits)) (10 ^ 36 + 1);
  digits : list_all is_digit (take l.byte-index l.digits) ≡ true;
}
