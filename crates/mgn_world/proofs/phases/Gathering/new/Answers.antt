use Rattle.std.proofs.Common.{◌≡◌, arith, length}
use Rattle.mgn_world.proofs.Gathered.{all_copied, none_prepared, not_prepared}
use Rattle.mgn_world.proofs.phases.Gathering.new.Goals as goal

pub invariant_of-result : goal.invariant_of-result
invariant_of-result c =
    let n : c.loop-row.row-index ≡ length c.args.rows.now = omega (arith, c.loop-row-test.false, c.loop-row.auto) in
    none_prepared c.args.set c.args.rows.now c.loop-row.row-index c.loop-row.nets.items c.loop-row.prepared.items n c.loop-row.invariant.copies c.loop-row.invariant.none

pub returns : goal.returns
returns c =
    let n : c.loop-row.row-index ≡ length c.args.rows.now = omega (arith, c.loop-row-test.false, c.loop-row.auto) in
    λ j. record {
      set = c.args.set;
      version = c.args.version;
      nets = all_copied c.args.rows.now c.loop-row.row-index c.loop-row.nets.items n c.loop-row.invariant.copies j;
      prepared = not_prepared (length c.args.rows.now) c.loop-row.row-index c.loop-row.prepared.items n c.loop-row.invariant.none j;
    }
