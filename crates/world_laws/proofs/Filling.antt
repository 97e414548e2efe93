-- Answers and entries, up to a full history: for the law that only a full one takes nothing.
use Rattle.std.proofs.Common.{◌≡◌, ◌<◌, ◌≤◌, ◌+◌, ◌∙◌, ℕ, suc, Bool, true, false, List, [], ◌∷◌, length, ap, refl, arith}
use Rattle.std.specs.Prelude.{if◌then◌else◌}
use Rattle.mgn_params.specs.Tables.{Tables}
use Rattle.mgn_machine.specs.declared.command.Command.{Command}
use Rattle.mgn_machine.specs.declared.request.Request.{Request}
use Rattle.mgn_machine.specs.declared.request.Request.TheVariants.{Do, Switch}
use Rattle.mgn_machine.specs.History.{calls, entry, recorded}
use Rattle.mgn_machine.specs.Step.{step}
use Rattle.mgn_plan.specs.declared.plans.Plan.{Plan}
use Rattle.mgn_plan.specs.declared.plans.Plan.TheVariants.{Nothing, One, Two}
use Rattle.mgn_plan.specs.Plans.{plan_of}
use Rattle.mgn_world.specs.Claims.{IsReached}
use Rattle.mgn_world.specs.declared.phases.Call.{Call}
use Rattle.mgn_world.specs.declared.phases.Deed.{Deed}
use Rattle.mgn_world.specs.declared.phases.Deed.TheVariants.{Begin, Look, Mark, Apply, Commit, Back, End, Gather, Prepare}
use Rattle.mgn_world.specs.declared.phases.Phase.{Phase}
use Rattle.mgn_world.specs.declared.phases.Phase.TheVariants.{Idle, Held, Looked, Applied, Failed, Ended, Gathered}
use Rattle.mgn_world.specs.declared.phases.Step.{Step}
use Rattle.mgn_world.specs.World.{World, applies, are_free, are_of, backs, begin_on, begins, commits, does, ends, finished, gathers, in_force, is_full, look_on, looks, marks, next, opening, phase_at, prepares, run, units_of, with_phase}
use Rattle.mgn_world.proofs.Said.{good_reached}
use Rattle.world_laws.specs.Entries.{AddsOne, AnswersCall, IsCurrent}
use Rattle.world_laws.specs.Moves.{Enters, KeepsBook, step_of}
use Rattle.world_laws.proofs.Calling.{in_any, look_enters, same_book}
use Rattle.world_laws.proofs.Committing.{begin_commits, commit_now, full, set_commits}
use Rattle.world_laws.proofs.Turning.{next_long}

-- There are 16 sessions.

run_long : (w : World) (es : List Step) → length (run w es).phases ≡ length w.phases
run_long w [] = refl
run_long w (e ∷ es) = run_long (next w e) es ∙ next_long w e.session e.deed

pub sixteen : (w : World) → IsReached w → length w.phases ≡ 16
sixteen w reached = ap (λ (x : World). length x.phases) reached.is ∙ run_long (opening reached.set) reached.steps

pub in_sixteen : (w : World) (p : ℕ) → IsReached w → p < 16 → p < length w.phases
in_sixteen w p reached less = let e = sixteen w reached in omega (arith, e, less)

-- A step that answers adds an entry.

adds : (p : ℕ) (request : Request) (w v : World) → Enters p request w v → AddsOne (suc p) w v
adds p request w v e = (entry (p + 1) (calls (p + 1) w.history + 1) (recorded request (step w.sets w.state request).1) (step w.sets w.state request).1, (omega arith, e.history))

room_by : (w : World) (p : ℕ) (st : Phase) (d : Deed) → IsReached w → p < 16 → phase_at w p ≡ st → AnswersCall w st d → IsCurrent w st → length w.history < 1000000 → AddsOne (suc p) w (next w (step_of p d))
room_by w p Idle (Begin c) reached less is ok now few = adds p (Do c) w (next w (step_of p (Begin c))) (begin_commits w p c (in_sixteen w p reached less) is ok few).enters
room_by w p (Held k) Look reached less is ok now few = adds p (Do k.command) w (next w (step_of p Look)) (look_enters w p k is ok few)
room_by w p (Applied k l) Commit reached less is ok now few = adds p (Do k.command) w (next w (step_of p Commit)) (commit_now w p k l reached is few now _ refl).enters
room_by w p (Gathered g) Commit reached less is ok now few = adds p (Switch g.set) w (next w (step_of p Commit)) (set_commits w p g is few).enters
room_by w p st d reached less is ok now few = absurd ok

pub room : (w : World) (p : ℕ) (d : Deed) → IsReached w → p < 16 → AnswersCall w (phase_at w p) d → IsCurrent w (phase_at w p) → length w.history < 1000000 → AddsOne (suc p) w (next w (step_of p d))
room w p d reached less ok now few = room_by w p (phase_at w p) d reached less refl ok now few

pub few : (w : World) → IsReached w → length w.history ≤ 1000000
few w reached = (good_reached w reached).replayed.few

-- A full history takes nothing.

same : (w v : World) → v.sets ≡ w.sets → v.state ≡ w.state → v.history ≡ w.history → KeepsBook w v
same w v sets state history = record { sets = sets; state = state; history = history }

choose : (w : World) (b : Bool) (x y : World) → KeepsBook w x → KeepsBook w y → KeepsBook w (if b then x else y)
choose w true x y first second = first
choose w false x y first second = second

-- the first of two, where the test is passed
passed : (w : World) (b : Bool) (x y : World) → b ≡ true → KeepsBook w x → KeepsBook w (if b then x else y)
passed w true x y e first = first
passed w false x y e first = cc

begin_on_keeps : (w : World) (p : ℕ) (c : Command) (us : List ℕ) → is_full w ≡ true → KeepsBook w (begin_on w p c us)
begin_on_keeps w p c [] e = passed w (is_full w) _ _ e (same_book w)
begin_on_keeps w p c (u ∷ us) e = choose w (are_free w.locks (u ∷ us)) _ _ (same w _ refl refl refl) (same_book w)

begin_keeps : (w : World) (p : ℕ) (c : Command) (st : Phase) → is_full w ≡ true → KeepsBook w (begins w p c st)
begin_keeps w p c Idle e = begin_on_keeps w p c (units_of w.state c) e
begin_keeps w p c st e = same_book w

over_keeps : (w : World) (p : ℕ) (b : Bool) (y : World) → b ≡ true → KeepsBook w (finished (if b then w else y) p)
over_keeps w p true y e = same w _ refl refl refl
over_keeps w p false y e = cc

look_on_keeps : (w : World) (p : ℕ) (k : Call) (plan : Plan) → is_full w ≡ true → KeepsBook w (look_on w p k plan)
look_on_keeps w p k Nothing e = over_keeps w p (is_full w) _ e
look_on_keeps w p k (One u) e = same w _ refl refl refl
look_on_keeps w p k (Two u v) e = same w _ refl refl refl

look_keeps : (w : World) (p : ℕ) (st : Phase) → is_full w ≡ true → KeepsBook w (looks w p st)
look_keeps w p (Held k) e = look_on_keeps w p k (plan_of (in_force w) w.state k.command) e
look_keeps w p st e = same_book w

mark_keeps : (w : World) (st : Phase) → KeepsBook w (marks w st)
mark_keeps w (Looked k l) = same w _ refl refl refl
mark_keeps w st = same_book w

apply_keeps : (w : World) (p : ℕ) (st : Phase) → KeepsBook w (applies w p st)
apply_keeps w p (Looked k l) = choose w (are_of l.version w.desks l.seen) _ _ (same w _ refl refl refl) (same_book w)
apply_keeps w p st = same_book w

set_keeps : (w : World) (p : ℕ) (b : Bool) (y : World) → b ≡ true → KeepsBook w (with_phase (if b then w else y) p Idle)
set_keeps w p true y e = same w _ refl refl refl
set_keeps w p false y e = cc

commit_keeps : (w : World) (p : ℕ) (st : Phase) → is_full w ≡ true → KeepsBook w (commits w p st)
commit_keeps w p (Applied k l) e = passed w (is_full w) _ _ e (same w _ refl refl refl)
commit_keeps w p (Gathered g) e = set_keeps w p (is_full w) _ e
commit_keeps w p st e = same_book w

back_keeps : (w : World) (p : ℕ) (st : Phase) → KeepsBook w (backs w p st)
back_keeps w p (Failed k l again) = same w _ refl refl refl
back_keeps w p st = same_book w

end_keeps : (w : World) (p : ℕ) (st : Phase) → KeepsBook w (ends w p st)
end_keeps w p (Ended k) = same w _ refl refl refl
end_keeps w p st = same_book w

gather_keeps : (w : World) (p : ℕ) (t : Tables) (st : Phase) → KeepsBook w (gathers w p t st)
gather_keeps w p t Idle = same w _ refl refl refl
gather_keeps w p t st = same_book w

prepare_keeps : (w : World) (p u : ℕ) (st : Phase) → KeepsBook w (prepares w p u st)
prepare_keeps w p u (Gathered g) = same w _ refl refl refl
prepare_keeps w p u st = same_book w

does_keep : (w : World) (p : ℕ) (d : Deed) → is_full w ≡ true → KeepsBook w (does w p d)
does_keep w p (Begin c) e = begin_keeps w p c (phase_at w p) e
does_keep w p Look e = look_keeps w p (phase_at w p) e
does_keep w p Mark e = mark_keeps w (phase_at w p)
does_keep w p Apply e = apply_keeps w p (phase_at w p)
does_keep w p Commit e = commit_keeps w p (phase_at w p) e
does_keep w p Back e = back_keeps w p (phase_at w p)
does_keep w p End e = end_keeps w p (phase_at w p)
does_keep w p (Gather t) e = gather_keeps w p t (phase_at w p)
does_keep w p (Prepare u) e = prepare_keeps w p u (phase_at w p)

pub full_keeps : (w : World) (p : ℕ) (d : Deed) → length w.history ≡ 1000000 → KeepsBook w (next w (step_of p d))
full_keeps w p d e = in_any (KeepsBook w) w p d (same_book w) (does_keep w p d (full (length w.history) e))
