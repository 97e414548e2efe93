use Rattle.std.proofs.Common.{Global, Vec, ◌≡◌, ◌∙◌, ap, length, ℕ, map}
use Rattle.std.specs.Prelude.{false, true, if◌then◌else◌, slice_index_or, slice_set}
use Rattle.mgn_world.specs.declared.phases.Call.{Call}
use Rattle.mgn_world.specs.declared.phases.Phase.{Phase}
use Rattle.mgn_world.specs.declared.phases.Phase.TheVariants.{Applied, Ended, Failed, Idle}
use Rattle.mgn_world.specs.declared.state.WorldState.{WorldState}
use Rattle.mgn_world.specs.DeskMoves.{desk_shown}
use Rattle.mgn_world.specs.Phases.{View}
use Rattle.mgn_world.specs.World.{phase_at}
use Rattle.mgn_world.specs.Worlds.{shown}
use Rattle.mgn_world.proofs.Decided.{phase_seen}
use Rattle.mgn_world.proofs.Entered.{applied_of, settled_phase, stale_is}
use Rattle.mgn_world.proofs.Sounds.{after_sound, housed_sound, on_both, stands_in}
use Rattle.mgn_world.proofs.state.WorldState.commit_call.Goals as goal

-- (the phases as they were, and the one that is put)
same_phases : (w : WorldState) (v now : Vec Phase Global) (p : ℕ) (k : Call) (l : View) (st : Phase) → v ≡ w.phases → phase_at (shown w) p ≡ Applied k l → (slice_index_or v.items p Idle ≡ Applied k l → now.items ≡ slice_set v.items p st) → now.items ≡ slice_set w.phases.items p st
same_phases w v now p k l st same is put =
    put (ap (λ (x : Vec Phase Global). slice_index_or x.items p Idle) same ∙ is) ∙ ap (λ (x : Vec Phase Global). slice_set x.items p st) same

pub returns-in-Full-clause-sound : goal.returns-in-Full-clause-sound
returns-in-Full-clause-sound c =
    let at = applied_of (phase_at (shown c.args.self.now) c.args.place) c.requires.applied in
    let put = same_phases c.args.self.now c.decide.new.self.phases c.set_failed.new.phases c.args.place at.0 at.1.0 (Failed at.0 at.1.0 false) c.decide.ensures.phases at.1.1 (c.set_failed.ensures at.0 at.1.0) in
    after_sound c.args.self.now record { shelf = c.decide.new.self.shelf; book = c.decide.new.self.book; desks = c.decide.new.self.desks; locks = c.decide.new.self.locks; phases = c.set_failed.new.phases } c.args.place (Failed at.0 at.1.0 false)
    c.requires.sound c.decide.ensures.shelf c.decide.ensures.stands c.decide.ensures.desks (phase_seen c.args.self.now c.args.place at.0 at.1.0 c.requires.sound at.1.1) put

pub returns-in-Stale-clause-step : goal.returns-in-Stale-clause-step
returns-in-Stale-clause-step c =
    let at = applied_of (phase_at (shown c.args.self.now) c.args.place) c.requires.applied in
    let put = same_phases c.args.self.now c.decide.new.self.phases c.set_failed-in-Stale.new.phases c.args.place at.0 at.1.0 (Failed at.0 at.1.0 true) c.decide.ensures.phases at.1.1 (c.set_failed-in-Stale.ensures at.0 at.1.0) in
    let decided = c.in-Stale.ensures.decided at.0 at.1.0 at.1.1 in
    (λ j. record {
      sets = c.decide.ensures.shelf j;
      state = (decided.0 j).book.state;
      history = (decided.0 j).history;
      desks = map desk_shown (c.decide.ensures.desks j).items;
      locks = (c.decide.ensures.locks j).items;
      phases = c.set_failed-in-Stale.new.phases.items;
    })
    ∙ stale_is (shown c.args.self.now) c.args.place at.0 at.1.0 c.set_failed-in-Stale.new.phases.items at.1.1 decided.1 decided.2 put

pub returns-in-Stale-clause-sound : goal.returns-in-Stale-clause-sound
returns-in-Stale-clause-sound c =
    let at = applied_of (phase_at (shown c.args.self.now) c.args.place) c.requires.applied in
    let put = same_phases c.args.self.now c.decide.new.self.phases c.set_failed-in-Stale.new.phases c.args.place at.0 at.1.0 (Failed at.0 at.1.0 true) c.decide.ensures.phases at.1.1 (c.set_failed-in-Stale.ensures at.0 at.1.0) in
    after_sound c.args.self.now record { shelf = c.decide.new.self.shelf; book = c.decide.new.self.book; desks = c.decide.new.self.desks; locks = c.decide.new.self.locks; phases = c.set_failed-in-Stale.new.phases } c.args.place (Failed at.0 at.1.0 true)
    c.requires.sound c.decide.ensures.shelf c.decide.ensures.stands c.decide.ensures.desks (phase_seen c.args.self.now c.args.place at.0 at.1.0 c.requires.sound at.1.1) put

pub returns-clause-sound : goal.returns-clause-sound
returns-clause-sound c =
    let at = applied_of (phase_at (shown c.args.self.now) c.args.place) c.requires.applied in
    let next : Phase = if c.is_done.result then Ended at.0 else Failed at.0 at.1.0 false in
    let put = same_phases c.args.self.now c.decide.new.self.phases c.set_settled.new.phases c.args.place at.0 at.1.0 next c.decide.ensures.phases at.1.1 (c.set_settled.ensures at.0 at.1.0) in
    let mid : WorldState = record { shelf = c.decide.new.self.shelf; book = c.decide.new.self.book; desks = c.decide.new.self.desks; locks = c.decide.new.self.locks; phases = c.set_settled.new.phases } in
    let sound = after_sound c.args.self.now mid c.args.place next
    c.requires.sound c.decide.ensures.shelf c.decide.ensures.stands c.decide.ensures.desks
    (settled_phase c.args.self.now.shelf (length c.args.self.now.desks.items) at.0 at.1.0 c.is_done.result (phase_seen c.args.self.now c.args.place at.0 at.1.0 c.requires.sound at.1.1)) put
    in
    on_both c.house.result
    (λ desks more. housed_sound mid c.house.new.self sound c.house.ensures.shelf (stands_in mid c.house.new.self c.decide.ensures.stands c.house.ensures.shelf c.house.ensures.book) c.house.ensures.phases (desks sound.desks) more)
    c.house.ensures.sound c.house.ensures.grown
