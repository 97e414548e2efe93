use Rattle.std.proofs.Common.{◌∙◌, ap}
use Rattle.mgn_params.specs.Shelves.{set_at}
use Rattle.mgn_desk.specs.declared.moves.Moves.{Moves}
use Rattle.mgn_desk.specs.Desks.{Shown, moved_marked}
use Rattle.mgn_pricing.specs.Desks.{moves_of}
use Rattle.std.specs.Prelude.{slice_index_or}
use Rattle.mgn_world.specs.DeskMoves.{desk_shown}
use Rattle.mgn_world.proofs.Shows.{ready_inside, shows_set}
use Rattle.mgn_world.proofs.unit_desks.apply_one.Goals as goal

pub returns-clause-moved : goal.returns-clause-moved
returns-clause-moved c =
    shows_set c.args.desks.now c.args.change.now.unit c.apply.new.self c.index-desks-change.result (moved_marked (moves_of c.args.change.now.change))
    (ready_inside (set_at c.args.shelf.now c.args.version) c.args.version (moves_of c.args.change.now.change) c.args.desks.now c.args.change.now.unit c.requires.ready)
    (ap (λ (s : Shown). s.marked) c.apply.ensures.moved ∙ ap (λ (m : Moves). moved_marked m (desk_shown (slice_index_or c.args.desks.now c.args.change.now.unit c.index-desks-change.result))) c.moves_of.ensures)
