use Rattle.std.proofs.Common.{◌≡◌, ◌<◌, ◌≤◌, ◌+◌, ◌∙◌, ℕ, arith, All, List, ap, length, map, refl, subst, sym}
use Rattle.std.specs.Prelude.{slice_set}
use Rattle.std.proofs.lemmas.List.{length-map, length-set}
use Rattle.mgn_params.specs.Shelves.{set_at}
use Rattle.mgn_unit.specs.declared.row.Row.{Row}
use Rattle.mgn_world.specs.declared.phases.Phase.{Phase}
use Rattle.mgn_world.specs.declared.phases.Phase.TheVariants.{Held, Looked}
use Rattle.mgn_world.specs.DeskMoves.{desk_shown}
use Rattle.mgn_world.specs.Phases.{View}
use Rattle.mgn_world.specs.World.{plan_units, seen_at}
use Rattle.mgn_world.specs.Worlds.{IsPhase, IsSeen, seen_in, shown}
use Rattle.mgn_world.proofs.Looking.{looks_is, seen_all, seen_sound}
use Rattle.mgn_world.proofs.Simple.{session}
use Rattle.mgn_world.proofs.Sounds.{at_phase, phases_set}
use Rattle.mgn_world.proofs.state.WorldState.look.Goals as goal

pub overflow_add-looked : goal.overflow_add-looked
overflow_add-looked c =
    let inside : c.args.place < length c.args.self.now.phases.items = omega (arith, c.requires.place, c.requires.sound.sixteen) in
    let is = at_phase c.args.self.now.phases.items c.args.place c.index.result.now (Held c.in-Held.call) inside c.index.ensures c.in-Held.is in
    let few : c.in-Held.call.looks + c.in-Held.call.began ≤ c.args.self.now.book.book.state.version = (session (shown c.args.self.now) c.args.place (Held c.in-Held.call) c.requires.good is).1 in
    let version : c.args.self.now.book.book.state.version ≤ 64 = subst (λ (n : ℕ). n ≤ 64) (c.number.ensures.value ∙ c.version-version.ensures) c.number.ensures.small in
    omega (arith, few, version)

pub returns : goal.returns
returns c =
    let w = shown c.args.self.now in
    let b = c.args.self.now.book.book in
    let t = set_at c.args.self.now.shelf b.state.version in
    let inside : c.args.place < length c.args.self.now.phases.items = omega (arith, c.requires.place, c.requires.sound.sixteen) in
    let is = at_phase c.args.self.now.phases.items c.args.place c.index.result.now (Held c.in-Held.call) inside c.index.ensures c.in-Held.is in
    let saw : c.in_ok-seen.seen.items ≡ map (seen_at t b.state.accounts) (plan_units c.plan-plan.result) =
    c.in_ok-seen.ensures ∙ ap (λ (rows : List Row). map (seen_in rows) (plan_units c.plan-plan.result)) c.rows.ensures
    ∙ seen_all t b c.plan-plan.result c.requires.sound.book.kept c.plan-plan.ensures.possible
    in
    let looked : View → Phase = λ (l : View). Looked record { command = c.in-Held.call.command; began = c.in-Held.call.began; looks = c.in-Held.call.looks + 1 } l in
    let now : Phase = looked record { version = b.state.version; plan = c.plan-plan.result; seen = c.in_ok-seen.seen.items } in
    let put : c.set_phase.new.phases.items ≡ slice_set c.args.self.now.phases.items c.args.place now =
    c.set_phase.ensures ∙ ap (λ (n : ℕ). slice_set c.args.self.now.phases.items c.args.place (looked record { version = n; plan = c.plan-plan.result; seen = c.in_ok-seen.seen.items })) c.version-version.ensures
    in
    let long : length c.args.self.now.desks.items ≡ length b.rows = sym (length-map c.args.self.now.desks.items desk_shown) ∙ c.requires.good.desks_long ∙ c.requires.sound.book.kept.units in
    let seen : IsSeen c.args.self.now.shelf (length c.args.self.now.desks.items) record { version = b.state.version; plan = c.plan-plan.result; seen = c.in_ok-seen.seen.items } =
    seen_sound c.args.self.now.shelf (length c.args.self.now.desks.items) b c.plan-plan.result c.in_ok-seen.seen.items c.requires.sound.book.shown long c.requires.sound.book.kept c.plan-plan.ensures.possible saw
    in
    record {
      step = looks_is w c.args.place c.in-Held.call c.plan-plan.result c.in_ok-seen.seen.items c.set_phase.new.phases.items is c.plan-plan.ensures.plan c.in_default-plan.not-Nothing saw put;
      sound = record {
        book = c.requires.sound.book;
        sixteen = ap (λ (xs : List Phase). length xs) put ∙ length-set c.args.self.now.phases.items c.args.place now ∙ c.requires.sound.sixteen;
        desks = c.requires.sound.desks;
        phases = subst (All (IsPhase c.args.self.now.shelf (length c.args.self.now.desks.items))) (sym put)
            (phases_set c.args.self.now.shelf (length c.args.self.now.desks.items) (length c.args.self.now.desks.items) c.args.self.now.phases.items c.args.place now refl seen c.requires.sound.phases);
      };
    }
