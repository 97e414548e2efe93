use Rattle.std.proofs.Common.{◌≡◌, ◌<◌, ◌^◌, true, take}
use Rattle.std.specs.List.{list_all}
use Rattle.mgn_num.specs.Text.{number_from, is_digit}
use Rattle.mgn_num.proofs.reading.read_short.Given as goal

abbrev pub invariant-loop-byte : goal.invariant-loop-byte
invariant-loop-byte l = record {
  so_far : l.number ≡ number_from (take l.byte-index l.digits);
  digits : list_all is_digit (take l.byte-index l.digits) ≡ true;
  short : l.number < 10 ^ l.byte-index;
}
