-- Each step keeps the world good.
use Rattle.std.proofs.Common.{◌≡◌, ◌<◌, ◌∙◌, ℕ, zero, suc, Bool, true, false, List, [], ◌∷◌, length, sym, ap, subst, refl, arith}
use Rattle.std.specs.Prelude.{if◌then◌else◌, nat_lt, slice_set, ◌&&◌, slice_index_or}
use Rattle.std.proofs.lemmas.Bool.Decides.{nat_tests}
use Rattle.mgn_params.specs.Limits.{IsWithinLimits}
use Rattle.mgn_params.specs.Shelves.{set_at}
use Rattle.mgn_params.specs.Tables.{Tables}
use Rattle.mgn_machine.specs.declared.command.Command.{Command}
use Rattle.mgn_machine.specs.declared.request.Request.{Request}
use Rattle.mgn_machine.specs.declared.request.Request.TheVariants.{Do, Switch}
use Rattle.mgn_machine.specs.Step.{step}
use Rattle.mgn_unit.specs.NewSets.{is_unit_covered}
use Rattle.mgn_plan.specs.declared.plans.Plan.{Plan}
use Rattle.mgn_plan.specs.declared.plans.Plan.TheVariants.{Nothing, One, Two}
use Rattle.mgn_plan.specs.Plans.{plan_of}
use Rattle.mgn_world.specs.Claims.{AreLimited, IsLimited}
use Rattle.mgn_world.specs.declared.phases.Call.{Call}
use Rattle.mgn_world.specs.declared.phases.Deed.{Deed}
use Rattle.mgn_world.specs.declared.phases.Deed.TheVariants.{Begin, Look, Mark, Apply, Commit, Back, End, Gather, Prepare}
use Rattle.mgn_world.specs.declared.phases.Phase.{Phase}
use Rattle.mgn_world.specs.declared.phases.Phase.TheVariants.{Idle, Held, Looked, Applied, Failed, Ended, Gathered}
use Rattle.mgn_world.specs.declared.phases.Step.{Step}
use Rattle.mgn_world.specs.Phases.{Gathering, View}
use Rattle.mgn_world.specs.World.{World, applies, are_free, are_of, are_stale, backs, begin_on, begins, commits, does, does_as, ends, finished, gathers, in_force, is_apart, is_full, look_on, looks, marks, next, no_nets, opening, phase_at, placed, planned_desks, prepared_more, prepares, run, stepped, taken, units_of, with_phase}
use Rattle.mgn_world.specs.Standing.{Good, PhaseOf}
use Rattle.mgn_world.proofs.Commits.{good_at_once, good_placed, good_planless, good_switch, stale_passed}
use Rattle.mgn_world.proofs.Desks.{good_applied, good_backed, good_mark}
use Rattle.mgn_world.proofs.Locks.{none_past}
use Rattle.mgn_world.proofs.Replays.{replayed-opening, room}
use Rattle.mgn_world.proofs.Simple.{call_of, good_finished, good_looked, good_phase, good_taken, session}

-- a full history takes nothing
entered_by : (w : World) (p : ℕ) (request : Request) (full : Bool) → is_full w ≡ full → Good w → (length w.history < 1000000 → Good (stepped w p request (step w.sets w.state request))) → Good (if full then w else stepped w p request (step w.sets w.state request))
entered_by w p request true e good some = good
entered_by w p request false e good some = some (room (length w.history) e)

-- Begin

begin_by : (w : World) (p : ℕ) (c : Command) (us : List ℕ) → units_of w.state c ≡ us → Good w → phase_at w p ≡ Idle → p < length w.phases → Good (begin_on w p c us)
begin_by w p c [] e good is there = entered_by w p (Do c) _ refl good (good_at_once w p c good is e)
begin_by w p c (u ∷ us) e good is there = by (are_free w.locks (u ∷ us)) refl
  where
    by : (b : Bool) → are_free w.locks (u ∷ us) ≡ b → Good (if b then record w { locks = taken p (u ∷ us) w.locks; phases = slice_set w.phases p (Held (call_of w c)) } else w)
    by true f = subst (λ (x : List ℕ). Good (record w { locks = taken p x w.locks; phases = slice_set w.phases p (Held (call_of w c)) })) e
        (good_taken w p c good is there (λ none. let no_units : u ∷ us ≡ [] = sym e ∙ none in cc) (ap (are_free w.locks) e ∙ f))
    by false f = good

good_begin : (w : World) (p : ℕ) (c : Command) (st : Phase) → Good w → phase_at w p ≡ st → p < length w.phases → Good (begins w p c st)
good_begin w p c Idle good is there = begin_by w p c (units_of w.state c) refl good is there
good_begin w p c st good is there = good

-- Look

planless_by : (w : World) (p : ℕ) (k : Call) (full : Bool) → is_full w ≡ full → Good w → phase_at w p ≡ Held k → p < length w.phases → plan_of (in_force w) w.state k.command ≡ Nothing → Good (finished (if full then w else stepped w p (Do k.command) (step w.sets w.state (Do k.command))) p)
planless_by w p k true e good is there nothing = good_finished w p (Held k) good is there (λ u d h. h)
planless_by w p k false e good is there nothing =
    good_finished (stepped w p (Do k.command) (step w.sets w.state (Do k.command))) p (Held k) (good_planless w p k good is nothing (room (length w.history) e)) is there (λ u d h. h)

look_by : (w : World) (p : ℕ) (k : Call) (plan : Plan) → plan_of (in_force w) w.state k.command ≡ plan → Good w → phase_at w p ≡ Held k → p < length w.phases → Good (look_on w p k plan)
look_by w p k Nothing e good is there = planless_by w p k _ refl good is there e
look_by w p k (One u) e good is there = good_looked w p k (One u) good is there e (λ (no_plan : One u ≡ Nothing). cc)
look_by w p k (Two u v) e good is there = good_looked w p k (Two u v) good is there e (λ (no_plan : Two u v ≡ Nothing). cc)

good_look : (w : World) (p : ℕ) (st : Phase) → Good w → phase_at w p ≡ st → p < length w.phases → Good (looks w p st)
good_look w p (Held k) good is there = look_by w p k _ refl good is there
good_look w p st good is there = good

-- Mark

good_marks : (w : World) (p : ℕ) (st : Phase) → Good w → phase_at w p ≡ st → p < length w.phases → Good (marks w st)
good_marks w p (Looked k l) good is there = good_mark w p k l good is there
good_marks w p st good is there = good

-- Apply

apply_by : (w : World) (p : ℕ) (k : Call) (l : View) (b : Bool) → are_of l.version w.desks l.seen ≡ b → Good w → phase_at w p ≡ Looked k l → p < length w.phases → Good (if b then record w { desks = planned_desks l.plan w.desks; phases = slice_set w.phases p (Applied k l) } else w)
apply_by w p k l true e good is there = good_applied w p k l good is there e
apply_by w p k l false e good is there = good

good_apply : (w : World) (p : ℕ) (st : Phase) → Good w → phase_at w p ≡ st → p < length w.phases → Good (applies w p st)
good_apply w p (Looked k l) good is there = apply_by w p k l _ refl good is there
good_apply w p st good is there = good

-- Commit

commit_by : (w : World) (p : ℕ) (k : Call) (l : View) (full stale apart : Bool) → is_full w ≡ full → are_stale w.state.version w.desks l.seen ≡ stale → is_apart w (plan_of (in_force w) w.state k.command) ≡ apart → Good w → phase_at w p ≡ Applied k l → p < length w.phases
    → Good (if full then with_phase w p (Failed k l false) else if stale then with_phase w p (Failed k l true) else if apart then with_phase w p (Failed k l false) else placed w p k l (step w.sets w.state (Do k.command)))
commit_by w p k l true stale apart e f g good is there =
    let ok = session w p (Applied k l) good is in good_phase w p (Applied k l) (Failed k l false) good is there (ok.0, ok.1, tt) (λ u d h. h)
commit_by w p k l false true apart e f g good is there =
    let ok = session w p (Applied k l) good is in good_phase w p (Applied k l) (Failed k l true) good is there (ok.0, ok.1, stale_passed w p k l good is f) (λ u d h. h)
commit_by w p k l false false true e f g good is there =
    let ok = session w p (Applied k l) good is in good_phase w p (Applied k l) (Failed k l false) good is there (ok.0, ok.1, tt) (λ u d h. h)
commit_by w p k l false false false e f g good is there = good_placed w p k l good is there (room (length w.history) e) f

switch_by : (w : World) (p : ℕ) (g : Gathering) (full : Bool) → is_full w ≡ full → Good w → phase_at w p ≡ Gathered g → p < length w.phases → Good (with_phase (if full then w else stepped w p (Switch g.set) (step w.sets w.state (Switch g.set))) p Idle)
switch_by w p g true e good is there = good_phase w p (Gathered g) Idle good is there tt (λ u d h. absurd h)
switch_by w p g false e good is there =
    good_phase (stepped w p (Switch g.set) (step w.sets w.state (Switch g.set))) p (Gathered g) Idle (good_switch w p g good is (room (length w.history) e)) is there tt (λ u d h. absurd h)

good_commit : (w : World) (p : ℕ) (st : Phase) → Good w → phase_at w p ≡ st → p < length w.phases → Good (commits w p st)
good_commit w p (Applied k l) good is there = commit_by w p k l _ _ _ refl refl refl good is there
good_commit w p (Gathered g) good is there = switch_by w p g _ refl good is there
good_commit w p st good is there = good

-- Back and End

good_back : (w : World) (p : ℕ) (st : Phase) → Good w → phase_at w p ≡ st → p < length w.phases → Good (backs w p st)
good_back w p (Failed k l again) good is there = good_backed w p k l again good is there
good_back w p st good is there = good

good_end : (w : World) (p : ℕ) (st : Phase) → Good w → phase_at w p ≡ st → p < length w.phases → Good (ends w p st)
good_end w p (Ended k) good is there = good_finished w p (Ended k) good is there (λ u d h. h)
good_end w p st good is there = good

-- Gather and Prepare

good_gather : (w : World) (p : ℕ) (set : Tables) (st : Phase) → IsWithinLimits set → Good w → phase_at w p ≡ st → p < length w.phases → Good (gathers w p set st)
good_gather w p set Idle limits good is there = good_phase w p Idle _ good is there limits (λ u d h. absurd h)
good_gather w p set st limits good is there = good

gathered_set : (b : Bool) (g : Gathering) (prepared : List Bool) → (if b then record g { prepared = prepared } else g).set ≡ g.set
gathered_set true g prepared = refl
gathered_set false g prepared = refl

good_prepare : (w : World) (p u : ℕ) (st : Phase) → Good w → phase_at w p ≡ st → p < length w.phases → Good (prepares w p u st)
good_prepare w p u (Gathered g) good is there =
    good_phase w p (Gathered g) (Gathered (prepared_more (set_at w.sets g.version) u g)) good is there
    (subst IsWithinLimits (sym (gathered_set (nat_lt u (length g.nets) && is_unit_covered (set_at w.sets g.version) g.set (slice_index_or g.nets u no_nets)) g (slice_set g.prepared u true))) (session w p (Gathered g) good is))
    (λ x d h. h)
good_prepare w p u st good is there = good

-- All steps

good_does : (w : World) (p : ℕ) (d : Deed) → IsLimited d → Good w → p < length w.phases → Good (does w p d)
good_does w p (Begin c) limits good there = good_begin w p c _ good refl there
good_does w p Look limits good there = good_look w p _ good refl there
good_does w p Mark limits good there = good_marks w p _ good refl there
good_does w p Apply limits good there = good_apply w p _ good refl there
good_does w p Commit limits good there = good_commit w p _ good refl there
good_does w p Back limits good there = good_back w p _ good refl there
good_does w p End limits good there = good_end w p _ good refl there
good_does w p (Gather set) limits good there = good_gather w p set _ limits good refl there
good_does w p (Prepare u) limits good there = good_prepare w p u _ good refl there

does_by : (w : World) (p : ℕ) (d : Deed) (b : Bool) → nat_lt p (length w.phases) ≡ b → IsLimited d → Good w → Good (if b then does w p d else w)
does_by w p d true e limits good = good_does w p d limits good (grind (arith, nat_tests))
does_by w p d false e limits good = good

good_as : (w : World) (number : ℕ) (d : Deed) → IsLimited d → Good w → Good (does_as w number d)
good_as w zero d limits good = good
good_as w (suc p) d limits good = does_by w p d _ refl limits good

pub good_run : (w : World) (steps : List Step) → AreLimited steps → Good w → Good (run w steps)
good_run w [] limits good = good
good_run w (e ∷ es) limits good = good_run (next w e) es limits.1 (good_as w e.session e.deed limits.0 good)

first_set : (set : Tables) (i : ℕ) → i < 1 → IsWithinLimits set → IsWithinLimits (set_at (set ∷ []) i)
first_set set zero inside limits = limits
first_set set (suc i) inside limits = absurd (omega (arith, inside))

pub good_opening : (set : Tables) → IsWithinLimits set → Good (opening set)
good_opening set limits = record {
  replayed = replayed-opening set;
  limits = λ i inside. first_set set i inside limits;
  known = λ i d inside. absurd (omega (arith, inside));
  housed = record { accounts = λ i d inside. absurd (omega (arith, inside)); origins = λ i d inside. absurd (omega (arith, inside)) };
  desks_long = refl;
  locks_long = refl;
  desks = λ u. tt;
  sessions = λ p. subst (PhaseOf (set ∷ []) (opening set).state [] p) (sym (none_past 16 p Idle)) tt;
}
