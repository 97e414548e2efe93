use Rattle.std.proofs.Common.{◌≡◌, ◌<◌, ◌+◌, ◌∙◌, arith, ap, length, sym, ℕ, Bor, [], ◌∷◌}
use Rattle.mgn_params.specs.Shelves.{set_at}
use Rattle.mgn_desk.specs.Desks.{DeskRows}
use Rattle.mgn_plan.specs.declared.plans.Plan.TheVariants.{One, Two}
use Rattle.mgn_pricing.specs.Given.{IsRight}
use Rattle.mgn_world.specs.declared.phases.Phase.TheVariants.{Applied}
use Rattle.mgn_world.specs.Phases.{View}
use Rattle.mgn_world.proofs.Decided.{all_one, all_two, as_asked, command_or, decided_one, decided_two, one_among, plan_or, planned_inside, right_at, two_among}
use Rattle.mgn_world.proofs.Sounds.{at_phase}
use Rattle.mgn_world.proofs.state.WorldState.decide.Goals as goal

pub index-requires-in-One : goal.index-requires-in-One
index-requires-in-One c =
    let l : View = record { version = c.view.inside.version; plan = c.view.inside.plan; seen = c.view.inside.seen.items } in
    let inside : c.args.place < length c.args.self.now.phases.items = omega (arith, c.requires.place, c.requires.sound.sixteen) in
    let is = at_phase c.args.self.now.phases.items c.args.place c.index.result.now (Applied c.in-Applied.call l) inside c.index.ensures (c.in-Applied.is ∙ ap (Applied c.in-Applied.call) (sym c.view.view_is)) in
    let less = planned_inside c.args.self.now c.args.place c.in-Applied.call l c.in-One.change.unit c.requires.good is (one_among l c.in-One.change c.in-One.is) in
    omega (arith, less, c.args.self.now.desks.ok)

pub commit-requires-clause-right : goal.commit-requires-clause-right
commit-requires-clause-right c =
    let l : View = record { version = c.view.inside.version; plan = c.view.inside.plan; seen = c.view.inside.seen.items } in
    let inside : c.args.place < length c.args.self.now.phases.items = omega (arith, c.requires.place, c.requires.sound.sixteen) in
    let is = at_phase c.args.self.now.phases.items c.args.place c.index.result.now (Applied c.in-Applied.call l) inside c.index.ensures (c.in-Applied.is ∙ ap (Applied c.in-Applied.call) (sym c.view.view_is)) in
    let less = planned_inside c.args.self.now c.args.place c.in-Applied.call l c.in-One.change.unit c.requires.good is (one_among l c.in-One.change c.in-One.is) in
    let version = c.args.self.now.book.book.state.version in
    all_one (λ (d : Bor DeskRows). IsRight (set_at c.args.self.now.shelf version) version d.now.marked) _
    (right_at c.args.self.now.shelf version c.args.self.now.desks.items c.in-One.change.unit c.index-in-One.result.now c.requires.sound.desks less c.index-in-One.ensures)

pub index-requires-in-Two : goal.index-requires-in-Two
index-requires-in-Two c =
    let l : View = record { version = c.view.inside.version; plan = c.view.inside.plan; seen = c.view.inside.seen.items } in
    let inside : c.args.place < length c.args.self.now.phases.items = omega (arith, c.requires.place, c.requires.sound.sixteen) in
    let is = at_phase c.args.self.now.phases.items c.args.place c.index.result.now (Applied c.in-Applied.call l) inside c.index.ensures (c.in-Applied.is ∙ ap (Applied c.in-Applied.call) (sym c.view.view_is)) in
    let less = planned_inside c.args.self.now c.args.place c.in-Applied.call l c.in-Two.giver.unit c.requires.good is (two_among l c.in-Two.giver c.in-Two.taker c.in-Two.is).0 in
    omega (arith, less, c.args.self.now.desks.ok)

pub index-requires-in-Two-2 : goal.index-requires-in-Two-2
index-requires-in-Two-2 c =
    let l : View = record { version = c.view.inside.version; plan = c.view.inside.plan; seen = c.view.inside.seen.items } in
    let inside : c.args.place < length c.args.self.now.phases.items = omega (arith, c.requires.place, c.requires.sound.sixteen) in
    let is = at_phase c.args.self.now.phases.items c.args.place c.index.result.now (Applied c.in-Applied.call l) inside c.index.ensures (c.in-Applied.is ∙ ap (Applied c.in-Applied.call) (sym c.view.view_is)) in
    let less = planned_inside c.args.self.now c.args.place c.in-Applied.call l c.in-Two.taker.unit c.requires.good is (two_among l c.in-Two.giver c.in-Two.taker c.in-Two.is).1 in
    omega (arith, less, c.args.self.now.desks.ok)

pub commit-requires-in-Two-clause-right : goal.commit-requires-in-Two-clause-right
commit-requires-in-Two-clause-right c =
    let l : View = record { version = c.view.inside.version; plan = c.view.inside.plan; seen = c.view.inside.seen.items } in
    let inside : c.args.place < length c.args.self.now.phases.items = omega (arith, c.requires.place, c.requires.sound.sixteen) in
    let is = at_phase c.args.self.now.phases.items c.args.place c.index.result.now (Applied c.in-Applied.call l) inside c.index.ensures (c.in-Applied.is ∙ ap (Applied c.in-Applied.call) (sym c.view.view_is)) in
    let among = two_among l c.in-Two.giver c.in-Two.taker c.in-Two.is in
    let first = planned_inside c.args.self.now c.args.place c.in-Applied.call l c.in-Two.giver.unit c.requires.good is among.0 in
    let second = planned_inside c.args.self.now c.args.place c.in-Applied.call l c.in-Two.taker.unit c.requires.good is among.1 in
    let version = c.args.self.now.book.book.state.version in
    all_two (λ (d : Bor DeskRows). IsRight (set_at c.args.self.now.shelf version) version d.now.marked) _ _
    (right_at c.args.self.now.shelf version c.args.self.now.desks.items c.in-Two.giver.unit c.index-in-Two.result.now c.requires.sound.desks first c.index-in-Two.ensures)
    (right_at c.args.self.now.shelf version c.args.self.now.desks.items c.in-Two.taker.unit c.index-in-Two-2.result.now c.requires.sound.desks second c.index-in-Two-2.ensures)

pub returns-in-One-clause-decided : goal.returns-in-One-clause-decided
returns-in-One-clause-decided c = λ k l e.
    let m : View = record { version = c.view.inside.version; plan = c.view.inside.plan; seen = c.view.inside.seen.items } in
    let inside : c.args.place < length c.args.self.now.phases.items = omega (arith, c.requires.place, c.requires.sound.sixteen) in
    let is = at_phase c.args.self.now.phases.items c.args.place c.index.result.now (Applied c.in-Applied.call m) inside c.index.ensures (c.in-Applied.is ∙ ap (Applied c.in-Applied.call) (sym c.view.view_is)) in
    let same : Applied c.in-Applied.call m ≡ Applied k l = sym is ∙ e in
    let plan : l.plan ≡ One c.in-One.change = ap (plan_or m) (sym same) ∙ c.in-One.is in
    let asked : c.in-Applied.call.command ≡ k.command = ap (command_or k) same in
    decided_one c.args.self.now c.args.place k l c.in-One.change c.index-in-One.result.now c.commit.result c.commit.new.self c.requires.good c.requires.sound e plan c.index-in-One.ensures c.commit.ensures.stands
    (as_asked c.args.self.now c.args.place k (c.index-in-One.result.now ∷ []) c.session_at-session.result (c.calls-number.result + 1) c.in-Applied.call.command c.commit.result c.commit.new.self c.session_at-session.ensures (ap (λ (n : ℕ). n + 1) c.calls-number.ensures.count) asked c.commit.ensures.committed)

pub returns-in-Two-clause-decided : goal.returns-in-Two-clause-decided
returns-in-Two-clause-decided c = λ k l e.
    let m : View = record { version = c.view.inside.version; plan = c.view.inside.plan; seen = c.view.inside.seen.items } in
    let inside : c.args.place < length c.args.self.now.phases.items = omega (arith, c.requires.place, c.requires.sound.sixteen) in
    let is = at_phase c.args.self.now.phases.items c.args.place c.index.result.now (Applied c.in-Applied.call m) inside c.index.ensures (c.in-Applied.is ∙ ap (Applied c.in-Applied.call) (sym c.view.view_is)) in
    let same : Applied c.in-Applied.call m ≡ Applied k l = sym is ∙ e in
    let plan : l.plan ≡ Two c.in-Two.giver c.in-Two.taker = ap (plan_or m) (sym same) ∙ c.in-Two.is in
    let asked : c.in-Applied.call.command ≡ k.command = ap (command_or k) same in
    decided_two c.args.self.now c.args.place k l c.in-Two.giver c.in-Two.taker c.index-in-Two.result.now c.index-in-Two-2.result.now c.commit-in-Two.result c.commit-in-Two.new.self c.requires.good c.requires.sound e plan c.index-in-Two.ensures c.index-in-Two-2.ensures c.commit-in-Two.ensures.stands
    (as_asked c.args.self.now c.args.place k (c.index-in-Two.result.now ∷ c.index-in-Two-2.result.now ∷ []) c.session_at-session.result (c.calls-number.result + 1) c.in-Applied.call.command c.commit-in-Two.result c.commit-in-Two.new.self c.session_at-session.ensures (ap (λ (n : ℕ). n + 1) c.calls-number.ensures.count) asked c.commit-in-Two.ensures.committed)
