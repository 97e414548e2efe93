use Rattle.std.proofs.Common.{ap, ◌∙◌, sym, subst}
use Rattle.mgn_desk.specs.declared.moves.Moves.{Moves}
use Rattle.mgn_desk.specs.Desks.{CanMoveMarked, moved_desk, shown}
use Rattle.mgn_unit.specs.Rows.{nets_in}
use Rattle.mgn_pricing.proofs.Moved.{can_move, priced-by, row-gains}
use Rattle.mgn_pricing.proofs.desks.foresee.Goals as goal

pub apply-requires-clause-nets : goal.apply-requires-clause-nets
apply-requires-clause-nets c =
    subst (λ (m : Moves). CanMoveMarked m c.args.desk.now.marked) (sym c.moves_of.ensures)
    (can_move c.args.set.now c.args.version (nets_in c.args.row.now) c.args.change.now c.args.desk.now.marked (row-gains c.args.set.now c.args.row.now c.args.change.now c.requires.row c.requires.change c.requires.roomy) c.requires.ready)

pub returns-clause-priced : goal.returns-clause-priced
returns-clause-priced c =
    let before = c.args.desk.now in
    let after = c.apply.new.self in
    let moved = c.apply.ensures.moved ∙ ap (λ (m : Moves). moved_desk m (shown before)) c.moves_of.ensures in
    priced-by c.args.set.now c.args.version c.args.row.now c.args.change.now before after c.requirements.result c.requires.ready moved (c.requirements.ensures.requirements c.args.set.now c.apply.ensures.of_set) c.requirements.ensures.small
