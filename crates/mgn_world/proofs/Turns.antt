-- What a step does to the book, nothing or one step of the machine: for the law of switches.
use Rattle.std.proofs.Common.{◌≡◌, ◌∙◌, ◌⊎◌, inl, inr, ⊎_elim, ℕ, zero, suc, Bool, true, false, Option, None, List, [], ◌∷◌, length, ap, refl, Result, Ok, Err}
use Rattle.std.specs.Prelude.{if◌then◌else◌, nat_lt, slice_index_or}
use Rattle.mgn_params.specs.Tables.{Tables}
use Rattle.mgn_desk.specs.Desks.{MarkedNets}
use Rattle.mgn_machine.specs.declared.command.Command.{Command}
use Rattle.mgn_machine.specs.declared.reply.Refusal.{Refusal}
use Rattle.mgn_machine.specs.declared.request.Request.{Request}
use Rattle.mgn_machine.specs.declared.request.Request.TheVariants.{Do, Switch}
use Rattle.mgn_machine.specs.NewSet.{on_call, set_fits}
use Rattle.mgn_machine.specs.Step.{step, switched}
use Rattle.mgn_machine.proofs.Versions.{keeps_version}
use Rattle.mgn_plan.specs.declared.plans.Plan.{Plan}
use Rattle.mgn_plan.specs.declared.plans.Plan.TheVariants.{Nothing, One, Two}
use Rattle.mgn_plan.specs.Plans.{plan_of}
use Rattle.mgn_world.specs.Claims.{KeepsSets, Switches}
use Rattle.mgn_world.specs.declared.phases.Call.{Call}
use Rattle.mgn_world.specs.declared.phases.Deed.{Deed}
use Rattle.mgn_world.specs.declared.phases.Deed.TheVariants.{Begin, Look, Mark, Apply, Commit, Back, End, Gather, Prepare}
use Rattle.mgn_world.specs.declared.phases.Phase.{Phase}
use Rattle.mgn_world.specs.declared.phases.Phase.TheVariants.{Idle, Held, Looked, Applied, Failed, Ended, Gathered}
use Rattle.mgn_world.specs.declared.phases.Step.{Step}
use Rattle.mgn_world.specs.World.{World, applies, are_free, are_of, are_stale, backs, begin_on, begins, commits, does, does_as, ends, entered, gathers, in_force, is_apart, is_full, look_on, looks, marks, next, phase_at, placed, prepares, stepped, units_of}
use Rattle.mgn_world.proofs.Locks.{lengthened_at}

abbrev Turn : World → World → Type 0
Turn w v = KeepsSets w v ⊎ Switches w v

same : (w v : World) → v.sets ≡ w.sets → v.state.version ≡ w.state.version → Turn w v
same w v sets version = inl record { sets = sets; version = version }

choose : (w : World) (b : Bool) (x y : World) → Turn w x → Turn w y → Turn w (if b then x else y)
choose w true x y first second = first
choose w false x y first second = second

turn_command : (w : World) (p : ℕ) (c : Command) → Turn w (stepped w p (Do c) (step w.sets w.state (Do c)))
turn_command w p c = same w _ refl (keeps_version (in_force w) w.state c)

turn_switched : (w : World) (p : ℕ) (t : Tables) (r : Result (Unit {0}) Refusal) → Turn w (stepped w p (Switch t) (switched w.state (on_call t w.state.accounts w.state.units) r))
turn_switched w p t (Ok done) = inr record { set = t; sets = refl; state = refl; desks = λ u. lengthened_at w.state.units w.desks u }
turn_switched w p t (Err why) = same w _ refl refl

turn_entered : (w : World) (p : ℕ) (request : Request) → Turn w (entered w p request)
turn_entered w p (Do c) = choose w (is_full w) _ _ (same w w refl refl) (turn_command w p c)
turn_entered w p (Switch t) = choose w (is_full w) _ _ (same w w refl refl) (turn_switched w p t (set_fits t w.state))

-- the same where phases and locks change besides
phased : (w v x : World) → x.sets ≡ v.sets → x.state ≡ v.state → x.desks ≡ v.desks → Turn w v → Turn w x
phased w v x sets state desks turn = ⊎_elim
    (λ (k : KeepsSets w v). inl record { sets = sets ∙ k.sets; version = ap (λ s. s.version) state ∙ k.version })
    (λ (s : Switches w v). inr record { set = s.set; sets = sets ∙ s.sets; state = state ∙ s.state; desks = λ u. ap (λ (d : List (Option MarkedNets)). slice_index_or d u None) desks ∙ s.desks u })
    turn

turn_begin_on : (w : World) (p : ℕ) (c : Command) (us : List ℕ) → Turn w (begin_on w p c us)
turn_begin_on w p c [] = turn_entered w p (Do c)
turn_begin_on w p c (u ∷ us) = choose w (are_free w.locks (u ∷ us)) _ _ (same w _ refl refl) (same w _ refl refl)

turn_begin : (w : World) (p : ℕ) (c : Command) (st : Phase) → Turn w (begins w p c st)
turn_begin w p c Idle = turn_begin_on w p c (units_of w.state c)
turn_begin w p c st = same w _ refl refl

turn_look_on : (w : World) (p : ℕ) (k : Call) (plan : Plan) → Turn w (look_on w p k plan)
turn_look_on w p k Nothing = phased w (entered w p (Do k.command)) (look_on w p k Nothing) refl refl refl (turn_entered w p (Do k.command))
turn_look_on w p k (One u) = same w _ refl refl
turn_look_on w p k (Two u v) = same w _ refl refl

turn_look : (w : World) (p : ℕ) (st : Phase) → Turn w (looks w p st)
turn_look w p (Held k) = turn_look_on w p k (plan_of (in_force w) w.state k.command)
turn_look w p st = same w _ refl refl

turn_mark : (w : World) (st : Phase) → Turn w (marks w st)
turn_mark w (Looked k l) = same w _ refl refl
turn_mark w st = same w _ refl refl

turn_apply : (w : World) (p : ℕ) (st : Phase) → Turn w (applies w p st)
turn_apply w p (Looked k l) = choose w (are_of l.version w.desks l.seen) _ _ (same w _ refl refl) (same w _ refl refl)
turn_apply w p st = same w _ refl refl

turn_commit : (w : World) (p : ℕ) (st : Phase) → Turn w (commits w p st)
turn_commit w p (Applied k l) =
    choose w (is_full w) _ _ (same w _ refl refl) (choose w (are_stale w.state.version w.desks l.seen) _ _ (same w _ refl refl)
    (choose w (is_apart w (plan_of (in_force w) w.state k.command)) _ _ (same w _ refl refl)
    (phased w (stepped w p (Do k.command) (step w.sets w.state (Do k.command))) (placed w p k l (step w.sets w.state (Do k.command))) refl refl refl (turn_command w p k.command))))
turn_commit w p (Gathered g) = phased w (entered w p (Switch g.set)) (commits w p (Gathered g)) refl refl refl (turn_entered w p (Switch g.set))
turn_commit w p st = same w _ refl refl

turn_back : (w : World) (p : ℕ) (st : Phase) → Turn w (backs w p st)
turn_back w p (Failed k l again) = same w _ refl refl
turn_back w p st = same w _ refl refl

turn_end : (w : World) (p : ℕ) (st : Phase) → Turn w (ends w p st)
turn_end w p (Ended k) = same w _ refl refl
turn_end w p st = same w _ refl refl

turn_gather : (w : World) (p : ℕ) (t : Tables) (st : Phase) → Turn w (gathers w p t st)
turn_gather w p t Idle = same w _ refl refl
turn_gather w p t st = same w _ refl refl

turn_prepare : (w : World) (p u : ℕ) (st : Phase) → Turn w (prepares w p u st)
turn_prepare w p u (Gathered g) = same w _ refl refl
turn_prepare w p u st = same w _ refl refl

turn_does : (w : World) (p : ℕ) (d : Deed) → Turn w (does w p d)
turn_does w p (Begin c) = turn_begin w p c (phase_at w p)
turn_does w p Look = turn_look w p (phase_at w p)
turn_does w p Mark = turn_mark w (phase_at w p)
turn_does w p Apply = turn_apply w p (phase_at w p)
turn_does w p Commit = turn_commit w p (phase_at w p)
turn_does w p Back = turn_back w p (phase_at w p)
turn_does w p End = turn_end w p (phase_at w p)
turn_does w p (Gather t) = turn_gather w p t (phase_at w p)
turn_does w p (Prepare u) = turn_prepare w p u (phase_at w p)

turn_as : (w : World) (number : ℕ) (d : Deed) → Turn w (does_as w number d)
turn_as w zero d = same w _ refl refl
turn_as w (suc p) d = choose w (nat_lt p (length w.phases)) _ _ (turn_does w p d) (same w w refl refl)

-- each step leaves the set in force, or puts another one in force for all units at once
pub turn : (w : World) (e : Step) → KeepsSets w (next w e) ⊎ Switches w (next w e)
turn w e = turn_as w e.session e.deed
