use Rattle.std.proofs.Common.{◌∙◌, List, arith, sym, ap}
use Rattle.std.specs.Prelude.{slice_index_or}
use Rattle.mgn_desk.specs.Desks.{DeskRows}
use Rattle.mgn_world.specs.World.{World, desk_at}
use Rattle.mgn_world.specs.Worlds.{required}
use Rattle.mgn_world.proofs.Shows.{required_is}
use Rattle.mgn_world.proofs.run.World.requirements.Goals as goal

pub returns : goal.returns
returns c =
    let kept = c.self.inside.kept in
    let same = c.deref.ensures.value in
    required_is kept.shelf kept.desks.items c.args.unit c.in_ok-desk.desk.now c.requirements.result c.in_ok-version.field-0
    (omega (arith, c.in_ok-desk.ensures.lookup.3.0))
    (c.in_ok-desk.ensures.lookup.1 ∙ ap (λ (xs : List DeskRows). slice_index_or xs c.args.unit c.in_ok-desk.desk.now) same)
    c.self.invariant.desks.right c.requirements.ensures.requirements (sym c.version.ensures ∙ c.in_ok-version.was)
    ∙ ap (λ (w : World). required w.sets (desk_at w c.args.unit)) c.self.view_is
