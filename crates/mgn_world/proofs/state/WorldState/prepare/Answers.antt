use Rattle.std.proofs.Common.{◌≡◌, ◌<◌, ◌∙◌, arith, ap, length, List, subst, sym, refl}
use Rattle.std.specs.Prelude.{slice_set}
use Rattle.std.proofs.lemmas.List.{set-set}
use Rattle.mgn_params.specs.Shelves.{set_at}
use Rattle.mgn_params.specs.Tables.{Tables}
use Rattle.mgn_world.specs.declared.phases.Phase.{Phase}
use Rattle.mgn_world.specs.declared.phases.Phase.TheVariants.{Gathered, Idle}
use Rattle.mgn_world.specs.Phases.{Gathering}
use Rattle.mgn_world.specs.World.{prepared_more}
use Rattle.mgn_world.specs.Worlds.{IsGathered, shown}
use Rattle.mgn_world.proofs.Entered.{prepared_sound, prepares_is}
use Rattle.mgn_world.proofs.Sounds.{after_sound, of_phase}
use Rattle.mgn_world.proofs.state.WorldState.prepare.Goals as goal

pub returns-clause-step : goal.returns-clause-step
returns-clause-step c =
    let is = c.in-Some.ensures.found in
    let took = (c.in-Some.ensures.taken c.in-Some.gathering is).1 in
    let put = c.set_phase.ensures ∙ ap (λ (xs : List Phase). slice_set xs c.args.place (Gathered c.prepare.new.self)) took ∙ set-set c.args.self.now.phases.items c.args.place Idle (Gathered c.prepare.new.self) in
    let version : c.gathering.inside.version ≡ c.in-Some.gathering.version = ap (λ (g : Gathering). g.version) c.gathering.view_is in
    let old = c.set_of-old.ensures ∙ ap (set_at c.args.self.now.shelf) version in
    prepares_is (shown c.args.self.now) c.args.place c.args.unit c.in-Some.gathering c.prepare.new.self c.set_phase.new.phases.items is
    (c.in_ok-prepare.ensures ∙ ap (λ (t : Tables). prepared_more t c.args.unit c.in-Some.gathering) old) put

pub returns-clause-sound : goal.returns-clause-sound
returns-clause-sound c =
    let is = c.in-Some.ensures.found in
    let took = (c.in-Some.ensures.taken c.in-Some.gathering is).1 in
    let put = c.set_phase.ensures ∙ ap (λ (xs : List Phase). slice_set xs c.args.place (Gathered c.prepare.new.self)) took ∙ set-set c.args.self.now.phases.items c.args.place Idle (Gathered c.prepare.new.self) in
    let inside : c.args.place < length c.args.self.now.phases.items = omega (arith, c.requires.place, c.requires.sound.sixteen) in
    let gathered : IsGathered c.args.self.now.shelf c.in-Some.gathering = of_phase c.args.self.now.shelf (length c.args.self.now.desks.items) c.args.self.now.phases.items c.args.place (Gathered c.in-Some.gathering) inside c.requires.sound.phases is in
    after_sound c.args.self.now record { shelf = c.args.self.now.shelf; book = c.args.self.now.book; desks = c.args.self.now.desks; locks = c.args.self.now.locks; phases = c.set_phase.new.phases } c.args.place (Gathered c.prepare.new.self)
    c.requires.sound refl c.requires.sound.book refl
    (subst (IsGathered c.args.self.now.shelf) (sym c.in_ok-prepare.ensures) (prepared_sound c.args.self.now.shelf c.set_of-old.result.now c.args.unit c.in-Some.gathering gathered)) put
