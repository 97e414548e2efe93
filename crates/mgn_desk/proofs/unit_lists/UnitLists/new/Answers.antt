use Rattle.std.proofs.Common.{arith}
use Rattle.std.proofs.lemmas.Int.{ints}
use Rattle.mgn_desk.proofs.RowFacts.{nothing_charged, nothing_risked}
use Rattle.mgn_desk.proofs.unit_lists.UnitLists.new.Goals as goal

pub invariant_of-new-15 : goal.invariant_of-new-15
invariant_of-new-15 c =
    record {
      charge = nothing_charged;
      small = omega (arith, ints);
      doubled_risk = nothing_risked;
      not_negative = omega (arith, ints);
      doubled_small = omega (arith, ints);
    }
