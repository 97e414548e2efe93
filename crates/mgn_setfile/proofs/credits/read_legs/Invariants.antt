use Rattle.std.proofs.Common.{◌≡◌, ◌+◌, ◌*◌, All, length, map}
use Rattle.mgn_setfile.specs.Records.{IsFoundLeg, legs_from}
use Rattle.mgn_setfile.proofs.RecordLemmas.{fronted}
use Rattle.mgn_setfile.proofs.credits.read_legs.Given as goal

abbrev pub invariant-loop-rest : goal.invariant-loop-rest
invariant-loop-rest l = record {
  so_far : legs_from l.set 0 (map (λ s. s.now) l.words) ≡ fronted l.legs.items (legs_from l.set l.before (map (λ s. s.now) l.rest));
  bound : All (IsFoundLeg (length l.set.commodities)) l.legs.items;
  before : length l.legs.items ≡ l.before;
  count : 3 * l.before + length l.rest ≡ length l.words;
}

abbrev pub decreases-loop-rest : goal.decreases-loop-rest
decreases-loop-rest l = length l.rest
