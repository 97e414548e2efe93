use Rattle.std.proofs.Common.{◌∙◌, map, ap, Some}
use Rattle.std.specs.Prelude.{slice_set}
use Rattle.mgn_desk.specs.Desks.{Shown}
use Rattle.mgn_world.specs.DeskMoves.{desk_shown}
use Rattle.mgn_world.proofs.unit_desks.mark.Goals as goal
use Rattle.std.proofs.lemmas.List.{map-set}
use Rattle.std.proofs.lemmas.Result.{on_ok_weaker}

pub returns-clause-marked : goal.returns-clause-marked
returns-clause-marked c =
    on_ok_weaker c.mark.result
    (λ is.
    map-set desk_shown c.args.desks.now c.args.seen.now.unit c.mark.new.self
    ∙ ap (slice_set (map desk_shown c.args.desks.now) c.args.seen.now.unit) (ap (λ (s : Shown). s.marked) is ∙ (λ j. Some record { version = c.args.version; nets = c.each_ref-nets.ensures j })))
    c.mark.ensures.marked
