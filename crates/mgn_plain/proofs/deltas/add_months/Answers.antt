use Rattle.std.proofs.Common.{◌+◌, arith}
use Rattle.mgn_plain.proofs.DeltaLemmas.{months_flat_to}
use Rattle.mgn_plain.proofs.deltas.add_months.Goals as goal

pub loop-m-init : goal.loop-m-init
loop-m-init c =
    let next = c.next_moved-m.ensures in
    record {
      within = omega (arith, next.within.1, c.requires.deltas.1.one_delta_each);
      sums = months_flat_to c.args.set.now c.args.deltas.now 0 c.next_moved-m.result c.args.sums.now next.within.0 next.passed c.requires.sums;
    }

pub loop-m-preserved : goal.loop-m-preserved
loop-m-preserved c =
    let next = c.next_moved-m-in-loop-m.ensures in
    record {
      within = omega (arith, next.within.1, c.requires.deltas.1.one_delta_each);
      sums = months_flat_to c.args.set.now c.args.deltas.now (c.loop-m.m + 1) c.next_moved-m-in-loop-m.result c.add_month.new.sums next.within.0 next.passed c.add_month.ensures;
    }
