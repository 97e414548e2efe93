-- Begin without units, and commits: for the laws of their outcomes, and for switches.
use Rattle.std.proofs.Common.{◌≡◌, ◌≢◌, ◌<◌, ◌∙◌, ℕ, Bool, true, false, List, [], length, sym, ap, subst, refl, arith, Result, Ok, Err}
use Rattle.std.specs.Prelude.{◌&&◌, if◌then◌else◌, nat_le, nat_lt, slice_index_or, slice_set}
use Rattle.std.proofs.lemmas.Bool.Decides.{nat_tests}
use Rattle.std.proofs.lemmas.List.{get_or-set_same, get_or-set_other}
use Rattle.mgn_params.specs.Shelves.{set_at}
use Rattle.mgn_params.specs.Tables.{Tables}
use Rattle.mgn_machine.specs.declared.command.Command.{Command}
use Rattle.mgn_machine.specs.declared.reply.Refusal.{Refusal}
use Rattle.mgn_machine.specs.declared.reply.Reply.{Reply}
use Rattle.mgn_machine.specs.declared.reply.Reply.TheVariants.{Done, Figures, NewSet, Refused, Statement, Totals}
use Rattle.mgn_machine.specs.declared.request.Request.{Request}
use Rattle.mgn_machine.specs.declared.request.Request.TheVariants.{Do, Switch}
use Rattle.mgn_machine.specs.NewSet.{on_call, set_fits}
use Rattle.mgn_machine.specs.Step.{step, switched}
use Rattle.mgn_unit.specs.NewSets.{is_unit_covered}
use Rattle.mgn_plan.specs.Plans.{plan_of}
use Rattle.mgn_book.specs.BookViews.{sets_after}
use Rattle.mgn_world.specs.Claims.{IsReached}
use Rattle.mgn_world.specs.declared.phases.Call.{Call}
use Rattle.mgn_world.specs.declared.phases.Deed.TheVariants.{Begin, Commit, Gather, Prepare}
use Rattle.mgn_world.specs.declared.phases.Phase.{Phase}
use Rattle.mgn_world.specs.declared.phases.Phase.TheVariants.{Idle, Applied, Failed, Ended, Gathered}
use Rattle.mgn_world.specs.Phases.{Gathering, View}
use Rattle.mgn_world.specs.World.{World, are_stale, begin_on, commits, entered, gathers, in_force, is_apart, is_done, is_full, next, no_nets, phase_at, placed, prepared_more, prepares, stepped, units_of, with_phase}
use Rattle.mgn_world.proofs.Commits.{now_in_force, stale_passed}
use Rattle.mgn_world.proofs.Decided.{not_full}
use Rattle.mgn_world.proofs.Locks.{lengthened_at}
use Rattle.mgn_world.proofs.Said.{commit_placed, good_reached}
use Rattle.world_laws.specs.Calls.{Commits}
use Rattle.world_laws.specs.Moves.{ComesTo, step_of}
use Rattle.world_laws.proofs.Calling.{applied_there, comes}
use Rattle.world_laws.proofs.Places.{busy_inside, by_does, next_is}
use Rattle.world_laws.proofs.Taking.{begins_by}

-- A history that is full, and one that is not.

pub full : (n : ℕ) → n ≡ 1000000 → nat_le 1000000 n ≡ true
full n e = grind (arith, nat_tests)

entered_now : (w : World) (p : ℕ) (request : Request) → length w.history < 1000000 → entered w p request ≡ stepped w p request (step w.sets w.state request)
entered_now w p request few = ap (λ (b : Bool). if b then w else stepped w p request (step w.sets w.state request)) (not_full (length w.history) few)

pub entered_full : (w : World) (p : ℕ) (request : Request) → length w.history ≡ 1000000 → entered w p request ≡ w
entered_full w p request e = ap (λ (b : Bool). if b then w else stepped w p request (step w.sets w.state request)) (full (length w.history) e)

-- a step of the machine, in a phase
pub committed : (w : World) (p : ℕ) (request : Request) (st : Phase) → p < length w.phases → Commits p request st w (with_phase (stepped w p request (step w.sets w.state request)) p st)
committed w p request st there = record {
  phase = get_or-set_same w.phases p st Idle there;
  others = λ q other. get_or-set_other w.phases p q st Idle other;
  enters = record { state = refl; sets = refl; history = refl };
  units = record {
    desks = λ u. lengthened_at (step w.sets w.state request).0.units w.desks u;
    holders = λ u. lengthened_at (step w.sets w.state request).0.units w.locks u;
  };
}

-- Begin without units

pub begin_commits : (w : World) (p : ℕ) (c : Command) → p < length w.phases → phase_at w p ≡ Idle → units_of w.state c ≡ [] → length w.history < 1000000 → Commits p (Do c) Idle w (next w (step_of p (Begin c)))
begin_commits w p c there idle none few =
    subst (Commits p (Do c) Idle w) (sym (begins_by w p c there idle ∙ ap (begin_on w p c) none ∙ entered_now w p (Do c) few)) record {
      phase = idle;
      others = λ q other. refl;
      enters = record { state = refl; sets = refl; history = refl };
      units = record {
        desks = λ u. lengthened_at (step w.sets w.state (Do c)).0.units w.desks u;
        holders = λ u. lengthened_at (step w.sets w.state (Do c)).0.units w.locks u;
      };
    }

-- Commit of an applied call

commit_is : (w : World) (p : ℕ) (k : Call) (l : View) → phase_at w p ≡ Applied k l → next w (step_of p Commit) ≡ commits w p (Applied k l)
commit_is w p k l is = next_is w p Commit (applied_there w p k l is) ∙ ap (commits w p) is

pub commit_full : (w : World) (p : ℕ) (k : Call) (l : View) → phase_at w p ≡ Applied k l → length w.history ≡ 1000000 → ComesTo p (Failed k l false) w (next w (step_of p Commit))
commit_full w p k l is e =
    let stale : Bool = are_stale w.state.version w.desks l.seen in
    let apart : Bool = is_apart w (plan_of (in_force w) w.state k.command) in
    subst (ComesTo p (Failed k l false) w) (sym (commit_is w p k l is
    ∙ ap (λ (b : Bool). if b then with_phase w p (Failed k l false) else if stale then with_phase w p (Failed k l true) else if apart then with_phase w p (Failed k l false) else placed w p k l (step w.sets w.state (Do k.command))) (full (length w.history) e)))
    (comes w p (Failed k l false) (applied_there w p k l is))

-- the test of desks is that of versions
stale_by : (w : World) (p : ℕ) (k : Call) (l : View) (b : Bool) → are_stale w.state.version w.desks l.seen ≡ b → IsReached w → phase_at w p ≡ Applied k l → l.version < w.state.version → b ≡ true
stale_by w p k l true e reached is less = refl
stale_by w p k l false e reached is less = let same = now_in_force w p k l (good_reached w reached) is e in absurd (omega (arith, same, less))

fresh_by : (w : World) (p : ℕ) (k : Call) (l : View) (b : Bool) → are_stale w.state.version w.desks l.seen ≡ b → IsReached w → phase_at w p ≡ Applied k l → l.version ≡ w.state.version → b ≡ false
fresh_by w p k l true e reached is same = let less = stale_passed w p k l (good_reached w reached) is e in absurd (omega (arith, same, less))
fresh_by w p k l false e reached is same = refl

pub commit_stale : (w : World) (p : ℕ) (k : Call) (l : View) → IsReached w → phase_at w p ≡ Applied k l → length w.history < 1000000 → l.version < w.state.version → ComesTo p (Failed k l true) w (next w (step_of p Commit))
commit_stale w p k l reached is few less =
    let stale : Bool = are_stale w.state.version w.desks l.seen in
    let apart : Bool = is_apart w (plan_of (in_force w) w.state k.command) in
    let rest : World = if apart then with_phase w p (Failed k l false) else placed w p k l (step w.sets w.state (Do k.command)) in
    subst (ComesTo p (Failed k l true) w) (sym (commit_is w p k l is
    ∙ ap (λ (b : Bool). if b then with_phase w p (Failed k l false) else if stale then with_phase w p (Failed k l true) else rest) (not_full (length w.history) few)
    ∙ ap (λ (b : Bool). if b then with_phase w p (Failed k l true) else rest) (stale_by w p k l stale refl reached is less)))
    (comes w p (Failed k l true) (applied_there w p k l is))

-- one step of the machine, and what its reply makes of the phase
pub commit_now : (w : World) (p : ℕ) (k : Call) (l : View) → IsReached w → phase_at w p ≡ Applied k l → length w.history < 1000000 → l.version ≡ w.state.version → (b : Bool) → is_done (step w.sets w.state (Do k.command)).1 ≡ b
    → Commits p (Do k.command) (if b then Ended k else Failed k l false) w (next w (step_of p Commit))
commit_now w p k l reached is few same b done =
    subst (Commits p (Do k.command) (if b then Ended k else Failed k l false) w)
    (sym (commit_placed w p k l reached is (not_full (length w.history) few) (fresh_by w p k l _ refl reached is same)
    ∙ ap (λ (x : Bool). with_phase (stepped w p (Do k.command) (step w.sets w.state (Do k.command))) p (if x then Ended k else Failed k l false)) done))
    (committed w p (Do k.command) (if b then Ended k else Failed k l false) (applied_there w p k l is))

pub commit_done : (w : World) (p : ℕ) (k : Call) (l : View) → IsReached w → phase_at w p ≡ Applied k l → length w.history < 1000000 → l.version ≡ w.state.version → (step w.sets w.state (Do k.command)).1 ≡ Done → Commits p (Do k.command) (Ended k) w (next w (step_of p Commit))
commit_done w p k l reached is few same done = commit_now w p k l reached is few same true (ap is_done done)

not_done : (r : Reply) → r ≢ Done → is_done r ≡ false
not_done Done other = absurd (other refl)
not_done (Figures figures) other = refl
not_done (Totals totals) other = refl
not_done (NewSet told) other = refl
not_done (Statement told) other = refl
not_done (Refused why) other = refl

pub commit_refused : (w : World) (p : ℕ) (k : Call) (l : View) → IsReached w → phase_at w p ≡ Applied k l → length w.history < 1000000 → l.version ≡ w.state.version → (step w.sets w.state (Do k.command)).1 ≢ Done → Commits p (Do k.command) (Failed k l false) w (next w (step_of p Commit))
commit_refused w p k l reached is few same other = commit_now w p k l reached is few same false (not_done (step w.sets w.state (Do k.command)).1 other)

-- Switches

pub gathered_there : (w : World) (p : ℕ) (g : Gathering) → phase_at w p ≡ Gathered g → p < length w.phases
gathered_there w p g is = busy_inside w p (Gathered g) is (λ (e : Gathered g ≡ Idle). cc)

commit_set_is : (w : World) (p : ℕ) (g : Gathering) → phase_at w p ≡ Gathered g → next w (step_of p Commit) ≡ with_phase (entered w p (Switch g.set)) p Idle
commit_set_is w p g is = next_is w p Commit (gathered_there w p g is) ∙ ap (commits w p) is

pub set_commits : (w : World) (p : ℕ) (g : Gathering) → phase_at w p ≡ Gathered g → length w.history < 1000000 → Commits p (Switch g.set) Idle w (next w (step_of p Commit))
set_commits w p g is few =
    subst (Commits p (Switch g.set) Idle w) (sym (commit_set_is w p g is ∙ ap (λ (x : World). with_phase x p Idle) (entered_now w p (Switch g.set) few)))
    (committed w p (Switch g.set) Idle (gathered_there w p g is))

pub set_full : (w : World) (p : ℕ) (g : Gathering) → phase_at w p ≡ Gathered g → length w.history ≡ 1000000 → ComesTo p Idle w (next w (step_of p Commit))
set_full w p g is e =
    subst (ComesTo p Idle w) (sym (commit_set_is w p g is ∙ ap (λ (x : World). with_phase x p Idle) (entered_full w p (Switch g.set) e)))
    (comes w p Idle (gathered_there w p g is))

-- a set that is refused
record Unmoved (w v : World) : Type 0 where
  state : v.state ≡ w.state
  sets : v.sets ≡ w.sets

refused_state : (w : World) (calls : ℕ) (r : Result (Unit {0}) Refusal) (why : Refusal) → (switched w.state calls r).1 ≡ Refused why → (switched w.state calls r).0 ≡ w.state
refused_state w calls (Ok done) why e = cc
refused_state w calls (Err found) why e = refl

refused_when : (w : World) (p : ℕ) (t : Tables) (why : Refusal) (b : Bool) → (step w.sets w.state (Switch t)).1 ≡ Refused why → Unmoved w (with_phase (if b then w else stepped w p (Switch t) (step w.sets w.state (Switch t))) p Idle)
refused_when w p t why true e = record { state = refl; sets = refl }
refused_when w p t why false e = record {
  state = refused_state w (on_call t w.state.accounts w.state.units) (set_fits t w.state) why e;
  sets = ap (sets_after w.sets (Switch t)) e;
}

refused_all : (w : World) (p : ℕ) (g : Gathering) (why : Refusal) → phase_at w p ≡ Gathered g → (step w.sets w.state (Switch g.set)).1 ≡ Refused why → Unmoved w (next w (step_of p Commit))
refused_all w p g why is e = subst (Unmoved w) (sym (commit_set_is w p g is)) (refused_when w p g.set why (is_full w) e)

pub set_refused_state : (w : World) (p : ℕ) (g : Gathering) (why : Refusal) → phase_at w p ≡ Gathered g → (step w.sets w.state (Switch g.set)).1 ≡ Refused why → (next w (step_of p Commit)).state ≡ w.state
set_refused_state w p g why is e = (refused_all w p g why is e).state

pub set_refused_sets : (w : World) (p : ℕ) (g : Gathering) (why : Refusal) → phase_at w p ≡ Gathered g → (step w.sets w.state (Switch g.set)).1 ≡ Refused why → (next w (step_of p Commit)).sets ≡ w.sets
set_refused_sets w p g why is e = (refused_all w p g why is e).sets

-- Gather and Prepare

pub gather_comes : (w : World) (p : ℕ) (t : Tables) (st : Phase) → p < length w.phases → phase_at w p ≡ Idle → gathers w p t Idle ≡ with_phase w p st → ComesTo p st w (next w (step_of p (Gather t)))
gather_comes w p t st there idle e = by_does (ComesTo p st w) w (with_phase w p st) p (Gather t) there (ap (gathers w p t) idle ∙ e) (comes w p st there)

-- what is gathered of a set, a version and nets
record SameSource (g h : Gathering) : Type 0 where
  set : h.set ≡ g.set
  version : h.version ≡ g.version
  nets : h.nets ≡ g.nets

prepared_when : (b : Bool) (g : Gathering) (prepared : List Bool) → SameSource g (if b then record g { prepared = prepared } else g)
prepared_when true g prepared = record { set = refl; version = refl; nets = refl }
prepared_when false g prepared = record { set = refl; version = refl; nets = refl }

pub prepare_comes : (w : World) (p u : ℕ) (g : Gathering) → phase_at w p ≡ Gathered g → (h : Gathering) × (ComesTo p (Gathered h) w (next w (step_of p (Prepare u))) × (h.set ≡ g.set) × (h.version ≡ g.version) × (h.nets ≡ g.nets))
prepare_comes w p u g is =
    let there = gathered_there w p g is in
    let h : Gathering = prepared_more (set_at w.sets g.version) u g in
    let same = prepared_when (nat_lt u (length g.nets) && is_unit_covered (set_at w.sets g.version) g.set (slice_index_or g.nets u no_nets)) g (slice_set g.prepared u true) in (
      h,
      (by_does (ComesTo p (Gathered h) w) w (with_phase w p (Gathered h)) p (Prepare u) there (ap (prepares w p u) is) (comes w p (Gathered h) there), same.set, same.version, same.nets),
    )
