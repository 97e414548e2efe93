use Rattle.std.proofs.Common.{◌≡◌, ◌<◌, ◌∙◌, arith, All, List, ap, length, map, subst, sym}
use Rattle.std.specs.Prelude.{if◌then◌else◌, slice_set}
use Rattle.std.proofs.lemmas.List.{length-set, with_items_is}
use Rattle.std.specs.Vec.{with_items}
use Rattle.mgn_params.specs.Shelves.{set_at}
use Rattle.mgn_desk.specs.Desks.{DeskRows}
use Rattle.mgn_world.specs.declared.phases.Phase.{Phase}
use Rattle.mgn_world.specs.declared.phases.Phase.TheVariants.{Ended, Failed, Held}
use Rattle.mgn_world.specs.DeskMoves.{AreRightDesks, CanGiveBack, desk_shown}
use Rattle.mgn_world.specs.Phases.{View}
use Rattle.mgn_world.specs.Worlds.{IsPhase, shown}
use Rattle.mgn_world.proofs.Ready.{back_ready}
use Rattle.mgn_world.proofs.Sounds.{after_back, at_phase, of_phase, phases_set}
use Rattle.mgn_world.proofs.state.WorldState.back.Goals as goal

pub take_back-requires-clause-ready : goal.take_back-requires-clause-ready
take_back-requires-clause-ready c =
    let l : View = record { version = c.view.inside.version; plan = c.view.inside.plan; seen = c.view.inside.seen.items } in
    let failed : Phase = Failed c.in-Failed.call l c.in-Failed.again in
    let inside : c.args.place < length c.args.self.now.phases.items = omega (arith, c.requires.place, c.requires.sound.sixteen) in
    let is = at_phase c.args.self.now.phases.items c.args.place c.index.result.now failed inside c.index.ensures (c.in-Failed.is ∙ ap (λ (v : View). Failed c.in-Failed.call v c.in-Failed.again) (sym c.view.view_is)) in
    subst (λ (ds : List DeskRows). CanGiveBack (set_at c.args.self.now.shelf l.version) l.version l.plan (map desk_shown ds)) (sym c.as_mut_slice.ensures.value)
    (back_ready (shown c.args.self.now) c.args.place (length c.args.self.now.desks.items) c.in-Failed.call l c.in-Failed.again c.requires.good is
    (of_phase c.args.self.now.shelf (length c.args.self.now.desks.items) c.args.self.now.phases.items c.args.place failed inside c.requires.sound.phases is))

pub returns-clause-sound : goal.returns-clause-sound
returns-clause-sound c =
    let next : Phase = if c.in-Failed.again then Held c.in-Failed.call else Ended c.in-Failed.call in
    let set = c.set_phase.ensures ∙ ap (λ (st : Phase). slice_set c.args.self.now.phases.items c.args.place st) c.after_back-next.ensures in
    let desks = (with_items c.args.self.now.desks c.take_back.new.desks).items in
    let all : desks ≡ c.take_back.new.desks = with_items_is c.args.self.now.desks c.take_back.new.desks (c.take_back.ensures.long ∙ c.as_mut_slice.ensures.len) in
    record {
      book = c.requires.sound.book;
      sixteen = ap (λ (xs : List Phase). length xs) set ∙ length-set c.args.self.now.phases.items c.args.place next ∙ c.requires.sound.sixteen;
      desks = subst (AreRightDesks c.args.self.now.shelf) (sym all) c.take_back.ensures.desks;
      phases = subst (All (IsPhase c.args.self.now.shelf (length desks))) (sym set)
          (phases_set c.args.self.now.shelf (length desks) (length c.args.self.now.desks.items) c.args.self.now.phases.items c.args.place next
          (ap (λ (ds : List DeskRows). length ds) all ∙ c.take_back.ensures.long ∙ ap (λ (ds : List DeskRows). length ds) c.as_mut_slice.ensures.value)
          (after_back c.args.self.now.shelf (length c.args.self.now.desks.items) c.in-Failed.call c.in-Failed.again) c.requires.sound.phases);
    }
