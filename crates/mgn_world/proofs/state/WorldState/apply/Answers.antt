use Rattle.std.proofs.Common.{◌≡◌, ◌<◌, ◌∙◌, arith, All, List, ap, length, map, subst, sym, true}
use Rattle.std.proofs.lemmas.List.{length-set, with_items_is}
use Rattle.std.specs.Vec.{with_items}
use Rattle.mgn_params.specs.Shelves.{set_at}
use Rattle.mgn_desk.specs.Desks.{DeskRows}
use Rattle.mgn_world.specs.declared.phases.Phase.{Phase}
use Rattle.mgn_world.specs.declared.phases.Phase.TheVariants.{Applied, Looked}
use Rattle.mgn_world.specs.DeskMoves.{AreRightDesks, AreReadyFor, desk_shown}
use Rattle.mgn_world.specs.Phases.{View}
use Rattle.mgn_world.specs.World.{are_of, planned_desks}
use Rattle.mgn_world.specs.Worlds.{IsPhase, shown}
use Rattle.mgn_world.proofs.Ready.{apply_ready}
use Rattle.mgn_world.proofs.Sounds.{applies_is, at_phase, of_phase, phases_set}
use Rattle.mgn_world.proofs.state.WorldState.apply.Goals as goal

pub apply-requires-clause-ready : goal.apply-requires-clause-ready
apply-requires-clause-ready c =
    let l : View = record { version = c.view.inside.version; plan = c.view.inside.plan; seen = c.view.inside.seen.items } in
    let inside : c.args.place < length c.args.self.now.phases.items = omega (arith, c.requires.place, c.requires.sound.sixteen) in
    let is = at_phase c.args.self.now.phases.items c.args.place c.index.result.now (Looked c.in-Looked.field-0 l) inside c.index.ensures (c.in-Looked.is ∙ ap (Looked c.in-Looked.field-0) (sym c.view.view_is)) in
    let of : are_of l.version (map desk_shown c.args.self.now.desks.items) l.seen ≡ true = sym (c.if-not-are_of.ensures ∙ (λ j. are_of c.view.inside.version (map desk_shown (c.as_slice.ensures.value j)) (c.as_slice-2.ensures.value j))) in
    subst (λ (ds : List DeskRows). AreReadyFor (set_at c.args.self.now.shelf l.version) l.version l.plan (map desk_shown ds)) (sym c.as_mut_slice.ensures.value)
    (apply_ready (shown c.args.self.now) c.args.place (length c.args.self.now.desks.items) c.in-Looked.field-0 l c.requires.good is
    (of_phase c.args.self.now.shelf (length c.args.self.now.desks.items) c.args.self.now.phases.items c.args.place (Looked c.in-Looked.field-0 l) inside c.requires.sound.phases is) of)

pub returns-clause-step : goal.returns-clause-step
returns-clause-step c =
    let l : View = record { version = c.view.inside.version; plan = c.view.inside.plan; seen = c.view.inside.seen.items } in
    let inside : c.args.place < length c.args.self.now.phases.items = omega (arith, c.requires.place, c.requires.sound.sixteen) in
    let is = at_phase c.args.self.now.phases.items c.args.place c.index.result.now (Looked c.in-Looked.field-0 l) inside c.index.ensures (c.in-Looked.is ∙ ap (Looked c.in-Looked.field-0) (sym c.view.view_is)) in
    let of : are_of l.version (map desk_shown c.args.self.now.desks.items) l.seen ≡ true = sym (c.if-not-are_of.ensures ∙ (λ j. are_of c.view.inside.version (map desk_shown (c.as_slice.ensures.value j)) (c.as_slice-2.ensures.value j))) in
    let all = with_items_is c.args.self.now.desks c.apply.new.desks (c.apply.ensures.long ∙ c.as_mut_slice.ensures.len) in
    applies_is (shown c.args.self.now) c.args.place c.in-Looked.field-0 l (map desk_shown (with_items c.args.self.now.desks c.apply.new.desks).items) c.set_applied.new.phases.items is of
    (ap (λ (ds : List DeskRows). map desk_shown ds) all ∙ c.apply.ensures.moved ∙ ap (λ (ds : List DeskRows). planned_desks l.plan (map desk_shown ds)) c.as_mut_slice.ensures.value)
    (c.set_applied.ensures c.in-Looked.field-0 l is)

pub returns-clause-sound : goal.returns-clause-sound
returns-clause-sound c =
    let l : View = record { version = c.view.inside.version; plan = c.view.inside.plan; seen = c.view.inside.seen.items } in
    let inside : c.args.place < length c.args.self.now.phases.items = omega (arith, c.requires.place, c.requires.sound.sixteen) in
    let is = at_phase c.args.self.now.phases.items c.args.place c.index.result.now (Looked c.in-Looked.field-0 l) inside c.index.ensures (c.in-Looked.is ∙ ap (Looked c.in-Looked.field-0) (sym c.view.view_is)) in
    let set = c.set_applied.ensures c.in-Looked.field-0 l is in
    let desks = (with_items c.args.self.now.desks c.apply.new.desks).items in
    let all : desks ≡ c.apply.new.desks = with_items_is c.args.self.now.desks c.apply.new.desks (c.apply.ensures.long ∙ c.as_mut_slice.ensures.len) in
    let seen = of_phase c.args.self.now.shelf (length c.args.self.now.desks.items) c.args.self.now.phases.items c.args.place (Looked c.in-Looked.field-0 l) inside c.requires.sound.phases is in
    record {
      book = c.requires.sound.book;
      sixteen = ap (λ (xs : List Phase). length xs) set ∙ length-set c.args.self.now.phases.items c.args.place (Applied c.in-Looked.field-0 l) ∙ c.requires.sound.sixteen;
      desks = subst (AreRightDesks c.args.self.now.shelf) (sym all) c.apply.ensures.desks;
      phases = subst (All (IsPhase c.args.self.now.shelf (length desks))) (sym set)
          (phases_set c.args.self.now.shelf (length desks) (length c.args.self.now.desks.items) c.args.self.now.phases.items c.args.place (Applied c.in-Looked.field-0 l)
          (ap (λ (ds : List DeskRows). length ds) all ∙ c.apply.ensures.long ∙ ap (λ (ds : List DeskRows). length ds) c.as_mut_slice.ensures.value) seen c.requires.sound.phases);
    }
