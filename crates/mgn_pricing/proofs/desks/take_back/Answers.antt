use Rattle.std.proofs.Common.{ap, ◌∙◌, sym, subst}
use Rattle.mgn_desk.specs.declared.moves.Moves.{Moves}
use Rattle.mgn_desk.specs.Desks.{CanMoveMarked, Shown, marked_with, moved_desk}
use Rattle.mgn_desk.specs.Portfolios.{opposite}
use Rattle.mgn_unit.specs.Rows.{nets_in}
use Rattle.mgn_unit.proofs.RowNets.{row-nets}
use Rattle.mgn_pricing.proofs.Moved.{can_move_back, moved-shown, ready-shown}
use Rattle.mgn_pricing.proofs.Planned.{ready-of}
use Rattle.mgn_pricing.proofs.desks.take_back.Goals as goal

pub take_back-requires-clause-nets : goal.take_back-requires-clause-nets
take_back-requires-clause-nets c =
    subst (λ (m : Moves). CanMoveMarked (opposite m) c.args.desk.now.marked) (sym c.moves_of.ensures)
    (can_move_back c.args.set.now c.args.version (nets_in c.args.row.now) c.args.change.now c.args.desk.now.marked c.requires.change.contract (row-nets c.args.set.now c.args.row.now c.requires.row) c.requires.ready)

pub returns : goal.returns
returns c =
    let old = c.args.desk.now in
    let before : Shown = marked_with old.unit c.args.version (nets_in c.args.row.now) in
    let moved = moved-shown c.args.set.now c.args.version c.args.row.now c.args.change.now old c.requires.ready ∙ ap (λ (m : Moves). moved_desk m before) (sym c.moves_of.ensures) in
    let ready = ready-shown c.args.set.now c.args.version old.unit (nets_in c.args.row.now) c.take_back.new.self c.take_back.ensures.of_set (c.take_back.ensures.before before moved) in
    record { ready = ready; number = ap (λ (s : Shown). s.unit) c.take_back.ensures.moved; of_version = ready-of c.args.set.now c.args.version (nets_in c.args.row.now) c.take_back.new.self.marked ready }
