use Rattle.std.proofs.Common.{Global, Vec, ◌≡◌, ◌+◌, ◌∙◌, ap, List, ℕ, Option, subst, sym, refl}
use Rattle.mgn_params.specs.Shelves.{set_at}
use Rattle.mgn_unit.specs.NewSets.{ArePrepared, PreparedUnit}
use Rattle.mgn_world.specs.declared.phases.Phase.{Phase}
use Rattle.mgn_world.specs.declared.phases.Phase.TheVariants.{Idle}
use Rattle.mgn_world.specs.declared.state.WorldState.{WorldState}
use Rattle.mgn_world.specs.Phases.{Gathering}
use Rattle.mgn_world.proofs.Entered.{gathering_or, switched_is}
use Rattle.mgn_world.proofs.Sounds.{after_sound, grown_sound, housed_sound, on_both, stands_in}
use Rattle.mgn_world.proofs.state.WorldState.commit_set.Goals as goal

pub commit_switch-requires-clause-prepared : goal.commit_switch-requires-clause-prepared
commit_switch-requires-clause-prepared c =
    subst (λ (xs : List (Option PreparedUnit)). ArePrepared c.into_parts-set.result.0 xs) (sym c.new-prepared.ensures.units) c.into_parts-set.ensures.prepared

pub commit_switch-requires-clause-current : goal.commit_switch-requires-clause-current
commit_switch-requires-clause-current c =
    let book = c.args.self.now.book.book in
    c.new-prepared.ensures.current (set_at c.args.self.now.shelf book.state.version) c.into_parts-set.result.0 book.rows

pub returns-in-Full-clause-sound : goal.returns-in-Full-clause-sound
returns-in-Full-clause-sound c =
    let took = c.in-Some.ensures.taken c.in-Some.gathering c.in-Some.ensures.found in
    after_sound c.args.self.now record { shelf = c.commit_switch.new.shelf; book = c.commit_switch.new.self; desks = c.args.self.now.desks; locks = c.args.self.now.locks; phases = c.take_gathering.new.phases } c.args.place Idle
    c.requires.sound c.in-Full.ensures.sets c.in-Full.ensures.stands refl tt took.1

pub returns-clause-step : goal.returns-clause-step
returns-clause-step c =
    on_both c.house.result
    (λ desks locks. λ g is.
    let took = c.in-Some.ensures.taken g is in
    let same : c.in-Some.gathering ≡ g = ap (gathering_or g) took.0 in
    switched_is c.args.self.now c.house.new.self c.args.place c.session_at-session.result (c.calls-number.result + 1) g c.into_parts-set.result.0 c.in-Done.field-0 c.in-Done.field-1 c.commit_switch.new.self c.commit_switch.new.shelf
    c.session_at-session.ensures (ap (λ (n : ℕ). n + 1) c.calls-number.ensures.count) (c.into_parts-set.ensures.set ∙ ap (λ (x : Gathering). x.set) same)
    c.in-Done.ensures.stands c.in-Done.ensures.committed c.in-Done.ensures.sets c.house.ensures.shelf c.house.ensures.book desks locks
    (ap (λ (v : Vec Phase Global). v.items) c.house.ensures.phases ∙ took.1))
    c.house.ensures.desks c.house.ensures.locks

pub returns-clause-sound : goal.returns-clause-sound
returns-clause-sound c =
    let took = c.in-Some.ensures.taken c.in-Some.gathering c.in-Some.ensures.found in
    let mid : WorldState = record { shelf = c.commit_switch.new.shelf; book = c.commit_switch.new.self; desks = c.args.self.now.desks; locks = c.args.self.now.locks; phases = c.take_gathering.new.phases } in
    let sound = grown_sound c.args.self.now mid c.args.place c.into_parts-set.result.0 c.in-Done.field-1 c.requires.sound c.in-Done.ensures.sets c.in-Done.ensures.stands refl took.1 in
    on_both c.house.result
    (λ desks more. housed_sound mid c.house.new.self sound c.house.ensures.shelf (stands_in mid c.house.new.self c.in-Done.ensures.stands c.house.ensures.shelf c.house.ensures.book) c.house.ensures.phases (desks sound.desks) more)
    c.house.ensures.sound c.house.ensures.grown
