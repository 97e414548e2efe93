use Rattle.std.proofs.Common.{◌≡◌, ◌∙◌, ℕ, arith, ap, length, map, take}
use Rattle.std.proofs.Math.Seq.{take-length}
use Rattle.mgn_unit.specs.Rows.{nets_in}
use Rattle.mgn_day.proofs.copies.copies_of.Goals as goal

pub returns : goal.returns
returns c =
    let n : c.loop-row.row-index ≡ length c.args.rows.now = omega (arith, c.loop-row-test.false, c.loop-row.auto) in
    c.loop-row.invariant.copies ∙ ap (λ (k : ℕ). map nets_in (take k c.args.rows.now)) n ∙ ap (map nets_in) (take-length c.args.rows.now)
