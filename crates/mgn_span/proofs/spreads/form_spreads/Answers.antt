use Rattle.std.proofs.Common.{◌≡◌, ◌<◌, ◌∙◌, ◌++◌, ◌+◌, ap, length, sym, take, get_or, arith}
use Rattle.std.specs.List.{flat_map}
use Rattle.mgn_params.specs.Tables.{no_spread}
use Rattle.mgn_span.specs.Stages.{left_by, stages_of_spread}
use Rattle.mgn_span.proofs.SpreadLemmas.{stages_more}
use Rattle.mgn_span.proofs.StageSteps.{charges_of-append, left_by-append, left_by_le}
use Rattle.mgn_span.proofs.spreads.form_spreads.Goals as goal

pub form_spread-charged-requires-clause-left : goal.form_spread-charged-requires-clause-left
form_spread-charged-requires-clause-left c = λ k.
    rw c.loop-spread.invariant.left (omega (arith, left_by_le c.args.left.now (flat_map stages_of_spread (take c.loop-spread.spread-index c.args.spreads.now)) k, c.requires.left k))

pub loop-spread-preserved : goal.loop-spread-preserved
loop-spread-preserved c =
    let starts = c.args.left.now in
    let spreads = c.args.spreads.now in
    let i = c.loop-spread.spread-index in
    let inside : i < length spreads = omega arith in
    let before = flat_map stages_of_spread (take i spreads) in
    let own = stages_of_spread (get_or spreads i no_spread) in
    let more : flat_map stages_of_spread (take (i + 1) spreads) ≡ before ++ own = stages_more spreads i no_spread inside in
    let charge = rw c.loop-spread.invariant.left at c.form_spread-charged.ensures.charge in
    record {
      left = c.form_spread-charged.ensures.left ∙ rw c.loop-spread.invariant.left (sym (ap (left_by starts) more ∙ left_by-append starts before own));
      charge = rw more (omega (arith, c.loop-spread.invariant.charge, charge, charges_of-append starts before own));
      small = omega (arith, c.loop-spread.invariant.small, c.form_spread-charged.ensures.small);
    }
