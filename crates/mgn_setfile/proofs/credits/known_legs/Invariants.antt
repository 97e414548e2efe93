use Rattle.std.proofs.Common.{◌≡◌, ◌-◌, drop, length, replicate, take}
use Rattle.mgn_setfile.specs.Records.{known_legs}
use Rattle.mgn_params.specs.Tables.{no_leg}
use Rattle.mgn_setfile.proofs.RecordLemmas.{fronted}
use Rattle.mgn_setfile.proofs.credits.known_legs.Given as goal

abbrev pub invariant-loop-i : goal.invariant-loop-i
invariant-loop-i l = record {
  so_far : known_legs 0 l.legs ≡ fronted (take l.i l.row) (known_legs l.i (drop l.i l.legs));
  rest : drop l.i l.row ≡ replicate (4 - l.i) no_leg;
  all : length l.row ≡ 4;
}
