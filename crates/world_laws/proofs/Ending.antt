-- A session comes to its end by steps of its own: for the laws of progress.
use Rattle.std.proofs.Common.{◌≡◌, ◌≢◌, ◌<◌, ◌≤◌, ◌+◌, ◌∙◌, ◌⊎◌, inl, inr, ⊎_elim, ℕ, suc, Bool, true, false, None, Some, List, [], ◌∷◌, ◌++◌, length, map, sym, ap, subst, refl, arith}
use Rattle.std.specs.Prelude.{if◌then◌else◌, slice_index_or, slice_set}
use Rattle.std.proofs.lemmas.List.{get_or-set_same}
use Rattle.mgn_machine.specs.declared.request.Request.TheVariants.{Do, Switch}
use Rattle.mgn_machine.specs.State.{State}
use Rattle.mgn_machine.specs.Step.{step}
use Rattle.mgn_plan.specs.declared.plans.Plan.{Plan}
use Rattle.mgn_plan.specs.declared.plans.Plan.TheVariants.{Nothing, One, Two}
use Rattle.mgn_plan.specs.Plans.{plan_of}
use Rattle.mgn_world.specs.Claims.{AreLimited, IsLimited, IsReached, call_in}
use Rattle.mgn_world.specs.declared.phases.Call.{Call}
use Rattle.mgn_world.specs.declared.phases.Deed.{Deed}
use Rattle.mgn_world.specs.declared.phases.Deed.TheVariants.{Look, Mark, Apply, Commit, Back, End}
use Rattle.mgn_world.specs.declared.phases.Phase.{Phase}
use Rattle.mgn_world.specs.declared.phases.Phase.TheVariants.{Idle, Held, Looked, Applied, Failed, Ended, Gathered}
use Rattle.mgn_world.specs.declared.phases.Step.{Step}
use Rattle.mgn_world.specs.Phases.{Gathering, View}
use Rattle.mgn_world.specs.Standing.{Good}
use Rattle.mgn_world.specs.World.{World, are_stale, commits, in_force, is_apart, is_done, is_full, lock_at, mark_first, marks, next, placed, planned_desks, plan_units, run, seen_at, phase_at, stepped, with_phase}
use Rattle.mgn_world.proofs.Commits.{stale_passed}
use Rattle.mgn_world.proofs.Each.{good_run}
use Rattle.mgn_world.proofs.Ran.{reached_more}
use Rattle.mgn_world.proofs.Said.{good_reached, held_for}
use Rattle.world_laws.specs.Calls.{is_next}
use Rattle.world_laws.specs.Moves.{step_of}
use Rattle.world_laws.specs.Ways.{AreOf, way_out}
use Rattle.world_laws.proofs.Calling.{applied_there, back_comes, does_apply, end_frees, look_comes, look_frees, looked_there}
use Rattle.world_laws.proofs.Committing.{gathered_there}
use Rattle.world_laws.proofs.Marking.{two_marks}
use Rattle.world_laws.proofs.Places.{next_is}
use Rattle.world_laws.proofs.Skipping.{skip_in}

-- the world after steps of one session
abbrev after : World → ℕ → List Deed → World
after w p ds = run w (map (step_of p) ds)

-- these steps leave the session idle
abbrev Ends : World → ℕ → List Deed → Type 0
Ends w p ds = phase_at (after w p ds) p ≡ Idle

-- a step more in front
then_ends : (w v : World) (p : ℕ) (d : Deed) (ds : List Deed) → next w (step_of p d) ≡ v → Ends v p ds → Ends w p (d ∷ ds)
then_ends w v p d ds e is = ap (λ (x : World). phase_at (after x p ds) p) e ∙ is

-- a step out of turn in front
skips : (w : World) (p : ℕ) (st : Phase) (d : Deed) (ds : List Deed) → phase_at w p ≡ st → is_next st d ≡ false → Ends w p ds → Ends w p (d ∷ ds)
skips w p st d ds is e rest = then_ends w w p d ds (skip_in w p st d is e) rest

-- steps out of turn in front
abbrev AreOut : Phase → List Deed → Type 0
AreOut st [] = Unit {0}
AreOut st (d ∷ ds) = (is_next st d ≡ false) × AreOut st ds

skips_all : (w : World) (p : ℕ) (st : Phase) (outs ds : List Deed) → phase_at w p ≡ st → AreOut st outs → Ends w p ds → Ends w p (outs ++ ds)
skips_all w p st [] ds is out rest = rest
skips_all w p st (d ∷ outs) ds is out rest = skips w p st d (outs ++ ds) is out.0 (skips_all w p st outs ds is out.1 rest)

idle_ends : (w : World) (p : ℕ) (ds : List Deed) → phase_at w p ≡ Idle → AreOut Idle ds → Ends w p ds
idle_ends w p [] is out = is
idle_ends w p (d ∷ ds) is out = skips w p Idle d ds is out.0 (idle_ends w p ds is out.1)

-- the last steps of a call

ended_ends : (w : World) (p : ℕ) (k : Call) → phase_at w p ≡ Ended k → Ends w p (End ∷ [])
ended_ends w p k is = (end_frees w p k is).phase

-- the second round, from Look on
ended_second : (w : World) (p : ℕ) (k : Call) → phase_at w p ≡ Ended k → Ends w p (Look ∷ Mark ∷ Mark ∷ Apply ∷ Commit ∷ Back ∷ End ∷ [])
ended_second w p k is = skips_all w p (Ended k) (Look ∷ Mark ∷ Mark ∷ Apply ∷ Commit ∷ Back ∷ []) (End ∷ []) is (refl, (refl, (refl, (refl, (refl, (refl, tt)))))) (ended_ends w p k is)

back_ends : (w : World) (p : ℕ) (k : Call) (l : View) → phase_at w p ≡ Failed k l false → Ends w p (Back ∷ End ∷ [])
back_ends w p k l is = ended_ends (next w (step_of p Back)) p k (back_comes w p k l false is)

-- the phase after the commit of an applied call, by its tests
record Outcome (p : ℕ) (k : Call) (l : View) (stale : Bool) (v : World) : Type 0 where
  is : (phase_at v p ≡ Ended k) ⊎ ((again : Bool) × ((phase_at v p ≡ Failed k l again) × (again ≡ true → stale ≡ true)))

placed_outcome : (w : World) (p : ℕ) (k : Call) (l : View) (stale done : Bool) (v : World) → p < length w.phases → v.phases ≡ slice_set w.phases p (if done then Ended k else Failed k l false) → Outcome p k l stale v
placed_outcome w p k l stale true v there e = record { is = inl (ap (λ (xs : List Phase). slice_index_or xs p Idle) e ∙ get_or-set_same w.phases p (Ended k) Idle there) }
placed_outcome w p k l stale false v there e = record { is = inr (false, (ap (λ (xs : List Phase). slice_index_or xs p Idle) e ∙ get_or-set_same w.phases p (Failed k l false) Idle there, λ (no : false ≡ true). cc)) }

failed_outcome : (w : World) (p : ℕ) (k : Call) (l : View) (stale again : Bool) → p < length w.phases → (again ≡ true → stale ≡ true) → Outcome p k l stale (with_phase w p (Failed k l again))
failed_outcome w p k l stale again there why = record { is = inr (again, (get_or-set_same w.phases p (Failed k l again) Idle there, why)) }

choose : (p : ℕ) (k : Call) (l : View) (stale b : Bool) (x y : World) → Outcome p k l stale x → Outcome p k l stale y → Outcome p k l stale (if b then x else y)
choose p k l stale true x y first second = first
choose p k l stale false x y first second = second

stale_outcome : (w : World) (p : ℕ) (k : Call) (l : View) (stale : Bool) (y : World) → p < length w.phases → Outcome p k l stale y → Outcome p k l stale (if stale then with_phase w p (Failed k l true) else y)
stale_outcome w p k l true y there rest = failed_outcome w p k l true true there (λ e. refl)
stale_outcome w p k l false y there rest = rest

outcome : (w : World) (p : ℕ) (k : Call) (l : View) → phase_at w p ≡ Applied k l → Outcome p k l (are_stale w.state.version w.desks l.seen) (next w (step_of p Commit))
outcome w p k l is =
    let there = applied_there w p k l is in
    let stale : Bool = are_stale w.state.version w.desks l.seen in
    let never : false ≡ true → stale ≡ true = λ (no : false ≡ true). cc in
    subst (Outcome p k l stale) (sym (next_is w p Commit there ∙ ap (commits w p) is))
    (choose p k l stale (is_full w) _ _ (failed_outcome w p k l stale false there never)
    (stale_outcome w p k l stale _ there
    (choose p k l stale (is_apart w (plan_of (in_force w) w.state k.command)) _ _ (failed_outcome w p k l stale false there never)
    (placed_outcome w p k l stale (is_done (step w.sets w.state (Do k.command)).1) (placed w p k l (step w.sets w.state (Do k.command))) there refl))))

-- a call of the version in force is not stale
never_stale : (w : World) (p : ℕ) (k : Call) (l : View) → Good w → phase_at w p ≡ Applied k l → l.version ≡ w.state.version → are_stale w.state.version w.desks l.seen ≡ true → ⊥
never_stale w p k l good is same stale = let less = stale_passed w p k l good is stale in omega (arith, same, less)

-- it ends by Commit, Back and End
commit_ends : (w : World) (p : ℕ) (k : Call) (l : View) → Good w → phase_at w p ≡ Applied k l → l.version ≡ w.state.version → Ends w p (Commit ∷ Back ∷ End ∷ [])
commit_ends w p k l good is same = ⊎_elim
    (λ (e : phase_at v p ≡ Ended k). skips v p (Ended k) Back (End ∷ []) e refl (ended_ends v p k e))
    (λ (x : (again : Bool) × ((phase_at v p ≡ Failed k l again) × (again ≡ true → are_stale w.state.version w.desks l.seen ≡ true))). by x.0 x.1.0 x.1.1)
    (outcome w p k l is).is
  where
    v : World
    v = next w (step_of p Commit)

    by : (again : Bool) → phase_at v p ≡ Failed k l again → (again ≡ true → are_stale w.state.version w.desks l.seen ≡ true) → Ends v p (Back ∷ End ∷ [])
    by true e why = absurd (never_stale w p k l good is same (why refl))
    by false e why = back_ends v p k l e

-- Marks and Apply

good_next : (w : World) (e : Step) → IsLimited e.deed → Good w → Good (next w e)
good_next w e limited good = good_run w (e ∷ []) (limited, tt) good

-- the world with desks marked
abbrev marked : World → View → World
marked w l = record w { desks = mark_first l.version l.seen w.desks }

mark_is : (w : World) (p : ℕ) (k : Call) (l : View) → phase_at w p ≡ Looked k l → next w (step_of p Mark) ≡ marked w l
mark_is w p k l is = next_is w p Mark (looked_there w p k l is) ∙ ap (marks w) is

-- what two Marks and Apply leave
record AppliedBy (w : World) (p : ℕ) (k : Call) (l : View) : Type 0 where
  now : World
  after_is : (ds : List Deed) → after w p (Mark ∷ Mark ∷ Apply ∷ ds) ≡ after now p ds
  good : Good now
  phase : phase_at now p ≡ Applied k l
  version : now.state.version ≡ w.state.version

applied_by : (w : World) (p : ℕ) (k : Call) (l : View) → Good w → phase_at w p ≡ Looked k l → AppliedBy w p k l
applied_by w p k l good is = record {
  now = next twice (step_of p Apply);
  after_is = λ ds. ap (λ (x : World). after x p (Mark ∷ Apply ∷ ds)) (mark_is w p k l is) ∙ ap (λ (x : World). after x p (Apply ∷ ds)) (mark_is once p k l is);
  good = good_next twice (step_of p Apply) tt good_twice;
  phase = ap (λ (x : World). phase_at x p) applied ∙ get_or-set_same w.phases p (Applied k l) Idle there;
  version = ap (λ (x : World). x.state.version) applied;
}
  where
    there : p < length w.phases
    there = looked_there w p k l is

    once : World
    once = marked w l

    twice : World
    twice = marked once l

    good_once : Good once
    good_once = subst Good (mark_is w p k l is) (good_next w (step_of p Mark) tt good)

    good_twice : Good twice
    good_twice = subst Good (mark_is once p k l is) (good_next once (step_of p Mark) tt good_once)

    applied : next twice (step_of p Apply) ≡ record twice { desks = planned_desks l.plan twice.desks; phases = slice_set w.phases p (Applied k l) }
    applied = next_is twice p Apply there ∙ does_apply twice p k l is (two_marks w p k l good is)

looked_ends : (w : World) (p : ℕ) (k : Call) (l : View) → Good w → phase_at w p ≡ Looked k l → l.version ≡ w.state.version → Ends w p (Mark ∷ Mark ∷ Apply ∷ Commit ∷ Back ∷ End ∷ [])
looked_ends w p k l good is same =
    let x = applied_by w p k l good is in
    ap (λ (v : World). phase_at v p) (x.after_is (Commit ∷ Back ∷ End ∷ [])) ∙ commit_ends x.now p k l x.good x.phase (same ∙ sym x.version)

-- what a Look takes
abbrev view : World → Plan → View
view w plan = record { version = w.state.version; plan = plan; seen = map (seen_at (in_force w) w.state.accounts) (plan_units plan) }

look_with : (w : World) (p : ℕ) (k : Call) (plan : Plan) → Good w → phase_at w p ≡ Held k → plan_of (in_force w) w.state k.command ≡ plan → plan ≢ Nothing → Ends (next w (step_of p Look)) p (Mark ∷ Mark ∷ Apply ∷ Commit ∷ Back ∷ End ∷ [])
look_with w p k plan good is found some =
    let to = look_comes w p k plan is found some in
    let v : World = next w (step_of p Look) in
    looked_ends v p record { command = k.command; began = k.began; looks = k.looks + 1 } (view w plan) (good_next w (step_of p Look) tt good) to.phase (ap (λ (s : State). s.version) (sym to.book.state))

held_ends : (w : World) (p : ℕ) (k : Call) → Good w → phase_at w p ≡ Held k → Ends w p (Look ∷ Mark ∷ Mark ∷ Apply ∷ Commit ∷ Back ∷ End ∷ [])
held_ends w p k good is = by (plan_of (in_force w) w.state k.command) refl
  where
    by : (plan : Plan) → plan_of (in_force w) w.state k.command ≡ plan → Ends (next w (step_of p Look)) p (Mark ∷ Mark ∷ Apply ∷ Commit ∷ Back ∷ End ∷ [])
    by Nothing e = idle_ends (next w (step_of p Look)) p (Mark ∷ Mark ∷ Apply ∷ Commit ∷ Back ∷ End ∷ []) (look_frees w p k is e).phase (refl, (refl, (refl, (refl, (refl, (refl, tt))))))
    by (One u) e = look_with w p k (One u) good is e (λ (no : One u ≡ Nothing). cc)
    by (Two u v) e = look_with w p k (Two u v) good is e (λ (no : Two u v ≡ Nothing). cc)

-- From wherever a session is.

-- Back, and a second round
abbrev second_round : List Deed
second_round = Look ∷ Mark ∷ Mark ∷ Apply ∷ Commit ∷ Back ∷ End ∷ []

failed_second : (w : World) (p : ℕ) (k : Call) (l : View) (again : Bool) → Good w → phase_at w p ≡ Failed k l again → Ends w p (Back ∷ second_round)
failed_second w p k l true good is = held_ends (next w (step_of p Back)) p k (good_next w (step_of p Back) tt good) (back_comes w p k l true is)
failed_second w p k l false good is = ended_second (next w (step_of p Back)) p k (back_comes w p k l false is)

applied_second : (w : World) (p : ℕ) (k : Call) (l : View) → Good w → phase_at w p ≡ Applied k l → Ends w p (Commit ∷ Back ∷ second_round)
applied_second w p k l good is = ⊎_elim
    (λ (e : phase_at v p ≡ Ended k). skips v p (Ended k) Back second_round e refl (ended_second v p k e))
    (λ (x : (again : Bool) × ((phase_at v p ≡ Failed k l again) × (again ≡ true → are_stale w.state.version w.desks l.seen ≡ true))). failed_second v p k l x.0 good_v x.1.0)
    (outcome w p k l is).is
  where
    v : World
    v = next w (step_of p Commit)

    good_v : Good v
    good_v = good_next w (step_of p Commit) tt good

set_ends : (w : World) (p : ℕ) (g : Gathering) → phase_at w p ≡ Gathered g → Ends w p (Commit ∷ Back ∷ second_round)
set_ends w p g is =
    let there = gathered_there w p g is in
    idle_ends (next w (step_of p Commit)) p (Back ∷ second_round)
    (ap (λ (x : World). phase_at x p) (next_is w p Commit there ∙ ap (commits w p) is) ∙ by (is_full w) there)
    (refl, (refl, (refl, (refl, (refl, (refl, (refl, (refl, tt))))))))
  where
    by : (b : Bool) → p < length w.phases → phase_at (with_phase (if b then w else stepped w p (Switch g.set) (step w.sets w.state (Switch g.set))) p Idle) p ≡ Idle
    by true there = get_or-set_same w.phases p Idle Idle there
    by false there = get_or-set_same w.phases p Idle Idle there

abbrev both_rounds : List Deed
both_rounds = Mark ∷ Mark ∷ Apply ∷ Commit ∷ Back ∷ second_round

ends_from : (w : World) (p : ℕ) (st : Phase) → Good w → phase_at w p ≡ st → Ends w p both_rounds
ends_from w p Idle good is = idle_ends w p both_rounds is (refl, (refl, (refl, (refl, (refl, (refl, (refl, (refl, (refl, (refl, (refl, (refl, tt))))))))))))
ends_from w p (Held k) good is = skips_all w p (Held k) (Mark ∷ Mark ∷ Apply ∷ Commit ∷ Back ∷ []) second_round is (refl, (refl, (refl, (refl, (refl, tt))))) (held_ends w p k good is)
ends_from w p (Looked k l) good is =
    let x = applied_by w p k l good is in
    ap (λ (v : World). phase_at v p) (x.after_is (Commit ∷ Back ∷ second_round)) ∙ applied_second x.now p k l x.good x.phase
ends_from w p (Applied k l) good is = skips_all w p (Applied k l) (Mark ∷ Mark ∷ Apply ∷ []) (Commit ∷ Back ∷ second_round) is (refl, (refl, (refl, tt))) (applied_second w p k l good is)
ends_from w p (Failed k l again) good is = skips_all w p (Failed k l again) (Mark ∷ Mark ∷ Apply ∷ Commit ∷ []) (Back ∷ second_round) is (refl, (refl, (refl, (refl, tt)))) (failed_second w p k l again good is)
ends_from w p (Ended k) good is = skips_all w p (Ended k) (Mark ∷ Mark ∷ Apply ∷ Commit ∷ Back ∷ []) second_round is (refl, (refl, (refl, (refl, (refl, tt))))) (ended_second w p k is)
ends_from w p (Gathered g) good is = skips_all w p (Gathered g) (Mark ∷ Mark ∷ Apply ∷ []) (Commit ∷ Back ∷ second_round) is (refl, (refl, (refl, tt))) (set_ends w p g is)

pub all_end : (w : World) (p : ℕ) → IsReached w → phase_at (run w (way_out p)) p ≡ Idle
all_end w p reached = ends_from w p (phase_at w p) (good_reached w reached) refl

-- and then it holds no unit

reached_run : (w : World) (es : List Step) → IsReached w → AreLimited es → IsReached (run w es)
reached_run w [] reached limited = reached
reached_run w (e ∷ es) reached limited = reached_run (next w e) es (reached_more w e reached limited.0) limited.1

idle_holds_none : (w : World) (p u : ℕ) → IsReached w → phase_at w p ≡ Idle → lock_at w u ≢ Some p
idle_holds_none w p u reached idle = λ (e : lock_at w u ≡ Some p).
    let k = held_for w p u reached e in
    let none : None ≡ Some k.0 = ap call_in (sym idle) ∙ k.1.0 in
    cc

pub can_end : (w : World) (p : ℕ) → IsReached w
    → (es : List Step) × (AreOf (suc p) es × (length es ≤ 12) × (phase_at (run w es) p ≡ Idle) × ((u : ℕ) → lock_at (run w es) u ≢ Some p))
can_end w p reached =
    let idle = all_end w p reached in (
      way_out p,
      (
        (refl, (refl, (refl, (refl, (refl, (refl, (refl, (refl, (refl, (refl, (refl, (refl, tt)))))))))))),
        omega arith,
        idle,
        λ u. idle_holds_none (run w (way_out p)) p u (reached_run w (way_out p) reached (tt, (tt, (tt, (tt, (tt, (tt, (tt, (tt, (tt, (tt, (tt, (tt, tt))))))))))))) idle,
      ),
    )
