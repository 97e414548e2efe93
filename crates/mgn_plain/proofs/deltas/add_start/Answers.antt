use Rattle.std.proofs.Common.{◌≡◌, ◌<◌, ◌∙◌, ℕ, List, [], ap, arith}
use Rattle.std.specs.Prelude.{slice_index}
use Rattle.std.proofs.lemmas.List.{get_or_default}
use Rattle.mgn_plain.specs.Kept.{leg_of}
use Rattle.mgn_plain.proofs.deltas.add_start.Goals as goal
use Rattle.mgn_plain.proofs.deltas.add_start.Goals.{then-is_negative, else-is_negative}

pub overflow_add-row : goal.overflow_add-row
overflow_add-row c =
    let starts = c.args.starts.now in
    let commodity = c.args.month.now.commodity in
    let leg = c.if-is_negative.leg in
    let low : leg < 16 = elim c.if-is_negative.branch [
      | then-is_negative w ↦ omega (arith, w.leg-is, c.requires.tier)
      | else-is_negative w ↦ omega (arith, w.leg-is, c.requires.tier)
    ] in
    let is : slice_index c.row_mut-row.result.now leg ≡ leg_of starts commodity leg =
    ap (λ (row : List ℕ). slice_index row leg) (c.row_mut-row.ensures.value ∙ get_or_default starts commodity c.row_mut-row.result.now [] c.requires.commodity) in
    omega (arith, is, c.requires.room commodity leg c.requires.commodity low, c.size.ensures.value, c.requires.delta)
