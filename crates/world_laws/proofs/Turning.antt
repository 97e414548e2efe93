-- What one step changes of phases and history: for the laws of entries and of calls.
use Rattle.std.proofs.Common.{◌≡◌, ◌≢◌, ◌<◌, ◌∙◌, ◌⊎◌, inl, inr, ⊎_elim, ℕ, zero, suc, Bool, true, false, List, [], ◌∷◌, length, sym, ap, refl, subst, arith}
use Rattle.std.specs.Prelude.{◌+◌, if◌then◌else◌, nat_lt, slice_index_or, slice_set}
use Rattle.std.proofs.lemmas.List.{get_or-set_same, get_or-set_other, length-set}
use Rattle.mgn_params.specs.Tables.{Tables}
use Rattle.mgn_machine.specs.declared.command.Command.{Command}
use Rattle.mgn_machine.specs.declared.reply.Reply.{Reply}
use Rattle.mgn_machine.specs.declared.request.Request.{Request}
use Rattle.mgn_machine.specs.declared.request.Request.TheVariants.{Do, Switch}
use Rattle.mgn_machine.specs.History.{calls, entry, recorded}
use Rattle.mgn_machine.specs.State.{State}
use Rattle.mgn_machine.specs.Step.{step}
use Rattle.mgn_plan.specs.declared.plans.Plan.{Plan}
use Rattle.mgn_plan.specs.declared.plans.Plan.TheVariants.{Nothing, One, Two}
use Rattle.mgn_plan.specs.Plans.{plan_of}
use Rattle.mgn_world.specs.declared.phases.Call.{Call}
use Rattle.mgn_world.specs.declared.phases.Deed.{Deed}
use Rattle.mgn_world.specs.declared.phases.Deed.TheVariants.{Begin, Look, Mark, Apply, Commit, Back, End, Gather, Prepare}
use Rattle.mgn_world.specs.declared.phases.Phase.{Phase}
use Rattle.mgn_world.specs.declared.phases.Phase.TheVariants.{Idle, Held, Looked, Applied, Failed, Ended, Gathered}
use Rattle.mgn_world.specs.Phases.{View}
use Rattle.mgn_world.specs.World.{World, applies, are_free, are_of, are_stale, backs, begin_on, begins, commits, does, does_as, ends, finished, gathers, in_force, is_apart, is_done, is_full, look_on, looks, marks, phase_at, placed, prepares, stepped, units_of, with_phase}
use Rattle.world_laws.specs.Entries.{AddsOne, AnswersCall, IsAnswered}
use Rattle.world_laws.proofs.Places.{inside_or}

-- one session's phase is set, or none is
abbrev SetsOne : List Phase → ℕ → List Phase → Type 0
SetsOne old p new = (new ≡ old) ⊎ ((st : Phase) × (new ≡ slice_set old p st))

-- the phase of another session stays, and the history, unless the step may answer
pub record Turn (w : World) (p : ℕ) (may : Type 0) (v : World) : Type 0 where
  pub phases : SetsOne w.phases p v.phases
  pub history : (v.history ≡ w.history) ⊎ (may × IsAnswered (phase_at v p) × AddsOne (suc p) w v)

none : (w v : World) (p : ℕ) (may : Type 0) → v.phases ≡ w.phases → v.history ≡ w.history → Turn w p may v
none w v p may phases history = record { phases = inl phases; history = inl history }

one : (w v : World) (p : ℕ) (may : Type 0) (st : Phase) → v.phases ≡ slice_set w.phases p st → v.history ≡ w.history → Turn w p may v
one w v p may st phases history = record { phases = inr (st, phases); history = inl history }

choose : (w : World) (p : ℕ) (may : Type 0) (b : Bool) (x y : World) → Turn w p may x → Turn w p may y → Turn w p may (if b then x else y)
choose w p may true x y first second = first
choose w p may false x y first second = second

-- the entry of a step of the machine
added : (w v : World) (p : ℕ) (request : Request) (after : State × Reply) → v.history ≡ (stepped w p request after).history → AddsOne (suc p) w v
added w v p request after e = (entry (p + 1) (calls (p + 1) w.history + 1) (recorded request after.1) after.1, (omega arith, e))

answered : (w v : World) (p : ℕ) (may : Type 0) (request : Request) (after : State × Reply) (phases : List Phase) → SetsOne w.phases p v.phases → IsAnswered (phase_at v p) → may → v.history ≡ (stepped w p request after).history → Turn w p may v
answered w v p may request after phases set is ok e = record { phases = set; history = inr (ok, is, added w v p request after e) }

set_same : (w : World) (p : ℕ) (st : Phase) (phases : List Phase) → p < length w.phases → phases ≡ slice_set w.phases p st → IsAnswered st → IsAnswered (slice_index_or phases p Idle)
set_same w p st phases there e is = subst IsAnswered (sym (ap (λ (xs : List Phase). slice_index_or xs p Idle) e ∙ get_or-set_same w.phases p st Idle there)) is

-- Each step.

begin_on_turn : (w : World) (p : ℕ) (c : Command) (us : List ℕ) → phase_at w p ≡ Idle → Turn w p (us ≡ []) (begin_on w p c us)
begin_on_turn w p c [] idle =
    choose w p _ (is_full w) _ _ (none w w p _ refl refl)
    (answered w (stepped w p (Do c) (step w.sets w.state (Do c))) p _ (Do c) (step w.sets w.state (Do c)) w.phases (inl refl) (subst IsAnswered (sym idle) tt) refl refl)
begin_on_turn w p c (u ∷ us) idle = choose w p _ (are_free w.locks (u ∷ us)) _ _ (one w _ p _ _ refl refl) (none w w p _ refl refl)

begin_turn : (w : World) (p : ℕ) (c : Command) (st : Phase) → phase_at w p ≡ st → Turn w p (AnswersCall w st (Begin c)) (begins w p c st)
begin_turn w p c Idle is = begin_on_turn w p c (units_of w.state c) is
begin_turn w p c (Held k) is = none w w p _ refl refl
begin_turn w p c (Looked k l) is = none w w p _ refl refl
begin_turn w p c (Applied k l) is = none w w p _ refl refl
begin_turn w p c (Failed k l again) is = none w w p _ refl refl
begin_turn w p c (Ended k) is = none w w p _ refl refl
begin_turn w p c (Gathered g) is = none w w p _ refl refl

-- the entry of a planless look, whose call is then over
planless_turn : (w : World) (p : ℕ) (k : Call) (full : Bool) → p < length w.phases → Turn w p (Nothing ≡ Nothing) (finished (if full then w else stepped w p (Do k.command) (step w.sets w.state (Do k.command))) p)
planless_turn w p k true there = one w _ p _ Idle refl refl
planless_turn w p k false there =
    answered w (finished (stepped w p (Do k.command) (step w.sets w.state (Do k.command))) p) p _ (Do k.command) (step w.sets w.state (Do k.command)) w.phases (inr (Idle, refl)) (set_same w p Idle _ there refl tt) refl refl

look_on_turn : (w : World) (p : ℕ) (k : Call) (plan : Plan) → p < length w.phases → Turn w p (plan ≡ Nothing) (look_on w p k plan)
look_on_turn w p k Nothing there = planless_turn w p k (is_full w) there
look_on_turn w p k (One u) there = one w _ p _ _ refl refl
look_on_turn w p k (Two u v) there = one w _ p _ _ refl refl

look_turn : (w : World) (p : ℕ) (st : Phase) → p < length w.phases → Turn w p (AnswersCall w st Look) (looks w p st)
look_turn w p (Held k) there = look_on_turn w p k (plan_of (in_force w) w.state k.command) there
look_turn w p Idle there = none w w p _ refl refl
look_turn w p (Looked k l) there = none w w p _ refl refl
look_turn w p (Applied k l) there = none w w p _ refl refl
look_turn w p (Failed k l again) there = none w w p _ refl refl
look_turn w p (Ended k) there = none w w p _ refl refl
look_turn w p (Gathered g) there = none w w p _ refl refl

mark_turn : (w : World) (p : ℕ) (may : Type 0) (st : Phase) → Turn w p may (marks w st)
mark_turn w p may (Looked k l) = none w _ p may refl refl
mark_turn w p may st = none w w p may refl refl

apply_turn : (w : World) (p : ℕ) (may : Type 0) (st : Phase) → Turn w p may (applies w p st)
apply_turn w p may (Looked k l) = choose w p may (are_of l.version w.desks l.seen) _ _ (one w _ p may _ refl refl) (none w w p may refl refl)
apply_turn w p may st = none w w p may refl refl

settled : (b : Bool) (k : Call) (l : View) → IsAnswered (if b then Ended k else Failed k l false)
settled true k l = tt
settled false k l = refl

placed_turn : (w : World) (p : ℕ) (k : Call) (l : View) → p < length w.phases → Turn w p (Unit {0}) (placed w p k l (step w.sets w.state (Do k.command)))
placed_turn w p k l there =
    let after : State × Reply = step w.sets w.state (Do k.command) in
    answered w (placed w p k l after) p _ (Do k.command) after w.phases (inr (if is_done after.1 then Ended k else Failed k l false, refl)) (set_same w p _ _ there refl (settled (is_done after.1) k l)) tt refl

set_turn : (w : World) (p : ℕ) (t : Tables) (full : Bool) → p < length w.phases → Turn w p (Unit {0}) (with_phase (if full then w else stepped w p (Switch t) (step w.sets w.state (Switch t))) p Idle)
set_turn w p t true there = one w _ p _ Idle refl refl
set_turn w p t false there =
    answered w (with_phase (stepped w p (Switch t) (step w.sets w.state (Switch t))) p Idle) p _ (Switch t) (step w.sets w.state (Switch t)) w.phases (inr (Idle, refl)) (set_same w p Idle _ there refl tt) tt refl

commit_turn : (w : World) (p : ℕ) (st : Phase) → p < length w.phases → Turn w p (AnswersCall w st Commit) (commits w p st)
commit_turn w p (Applied k l) there =
    choose w p _ (is_full w) _ _ (one w _ p _ _ refl refl) (choose w p _ (are_stale w.state.version w.desks l.seen) _ _ (one w _ p _ _ refl refl)
    (choose w p _ (is_apart w (plan_of (in_force w) w.state k.command)) _ _ (one w _ p _ _ refl refl) (placed_turn w p k l there)))
commit_turn w p (Gathered g) there = set_turn w p g.set (is_full w) there
commit_turn w p Idle there = none w w p _ refl refl
commit_turn w p (Held k) there = none w w p _ refl refl
commit_turn w p (Looked k l) there = none w w p _ refl refl
commit_turn w p (Failed k l again) there = none w w p _ refl refl
commit_turn w p (Ended k) there = none w w p _ refl refl

back_turn : (w : World) (p : ℕ) (may : Type 0) (st : Phase) → Turn w p may (backs w p st)
back_turn w p may (Failed k l again) = one w _ p may _ refl refl
back_turn w p may st = none w w p may refl refl

end_turn : (w : World) (p : ℕ) (may : Type 0) (st : Phase) → Turn w p may (ends w p st)
end_turn w p may (Ended k) = one w _ p may Idle refl refl
end_turn w p may st = none w w p may refl refl

gather_turn : (w : World) (p : ℕ) (t : Tables) (may : Type 0) (st : Phase) → Turn w p may (gathers w p t st)
gather_turn w p t may Idle = one w _ p may _ refl refl
gather_turn w p t may st = none w w p may refl refl

prepare_turn : (w : World) (p u : ℕ) (may : Type 0) (st : Phase) → Turn w p may (prepares w p u st)
prepare_turn w p u may (Gathered g) = one w _ p may _ refl refl
prepare_turn w p u may st = none w w p may refl refl

pub turn : (w : World) (p : ℕ) (d : Deed) → p < length w.phases → Turn w p (AnswersCall w (phase_at w p) d) (does w p d)
turn w p (Begin c) there = begin_turn w p c (phase_at w p) refl
turn w p Look there = look_turn w p (phase_at w p) there
turn w p Mark there = mark_turn w p _ (phase_at w p)
turn w p Apply there = apply_turn w p _ (phase_at w p)
turn w p Commit there = commit_turn w p (phase_at w p) there
turn w p Back there = back_turn w p _ (phase_at w p)
turn w p End there = end_turn w p _ (phase_at w p)
turn w p (Gather t) there = gather_turn w p t _ (phase_at w p)
turn w p (Prepare u) there = prepare_turn w p u _ (phase_at w p)

-- All steps.

turn_by : (w : World) (p : ℕ) (d : Deed) (b : Bool) → nat_lt p (length w.phases) ≡ b → Turn w p (AnswersCall w (phase_at w p) d) (if b then does w p d else w)
turn_by w p d true e = turn w p d (inside_or p (length w.phases) true e refl)
turn_by w p d false e = none w w p _ refl refl

pub turn_as : (w : World) (p : ℕ) (d : Deed) → Turn w p (AnswersCall w (phase_at w p) d) (does_as w (suc p) d)
turn_as w p d = turn_by w p d (nat_lt p (length w.phases)) refl

-- the other sessions are in the phases that they were in
pub others_stay : (w v : World) (p : ℕ) (may : Type 0) → Turn w p may v → (q : ℕ) → q ≢ p → phase_at v q ≡ phase_at w q
others_stay w v p may t q other = ⊎_elim
    (λ (e : v.phases ≡ w.phases). ap (λ (xs : List Phase). slice_index_or xs q Idle) e)
    (λ (s : (st : Phase) × (v.phases ≡ slice_set w.phases p st)). ap (λ (xs : List Phase). slice_index_or xs q Idle) s.1 ∙ get_or-set_other w.phases p q s.0 Idle other)
    t.phases

phases_long : (w v : World) (p : ℕ) (may : Type 0) → Turn w p may v → length v.phases ≡ length w.phases
phases_long w v p may t = ⊎_elim
    (λ (e : v.phases ≡ w.phases). ap (λ (xs : List Phase). length xs) e)
    (λ (s : (st : Phase) × (v.phases ≡ slice_set w.phases p st)). ap (λ (xs : List Phase). length xs) s.1 ∙ length-set w.phases p s.0)
    t.phases

pub next_long : (w : World) (number : ℕ) (d : Deed) → length (does_as w number d).phases ≡ length w.phases
next_long w zero d = refl
next_long w (suc p) d = phases_long w (does_as w (suc p) d) p _ (turn_as w p d)
