use Rattle.std.proofs.Common.{◌<◌, ◌≤◌, ◌∙◌, [], ap, arith, ⊎_elim}
use Rattle.std.proofs.lemmas.Bool.{cases_lt}
use Rattle.std.proofs.lemmas.List.{get_or_default}
use Rattle.mgn_params.specs.Shelves.{set_at}
use Rattle.mgn_params.specs.Tables.{no_tables}
use Rattle.mgn_params.proofs.shelf.place_of_set.Goals as goal

pub loop-place-init : goal.loop-place-init
loop-place-init c i before same = omega arith

pub loop-place-preserved : goal.loop-place-preserved
loop-place-preserved c i before same =
    ⊎_elim
    (λ (earlier : i < c.loop-place.place). c.loop-place.invariant i earlier same)
    (λ (here : c.loop-place.place ≤ i).
    let found = c.index-sets-place.is
    ∙ get_or_default c.args.sets.now c.loop-place.place c.index-sets-place.result (no_tables []) c.loop-place-test.true
    ∙ ap (set_at c.args.sets.now) (omega arith) ∙ same in
    let told = c.is_same.ensures.1 found in
    cc)
    (cases_lt i c.loop-place.place)

pub returns-clause-absent : goal.returns-clause-absent
returns-clause-absent c i inside same = absurd (c.loop-place.invariant i (omega arith) same)
