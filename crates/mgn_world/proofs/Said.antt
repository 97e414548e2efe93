-- What is true of every world that is reached.
use Rattle.std.proofs.Common.{◌≡◌, ◌<◌, ◌≤◌, ◌+◌, ◌∙◌, ℕ, zero, suc, Bool, true, false, Option, None, Some, List, [], ◌∷◌, length, get_or, sym, ap, subst, refl, arith}
use Rattle.std.specs.Prelude.{if◌then◌else◌, nat_lt}
use Rattle.std.proofs.lemmas.Bool.Decides.{nat_tests}
use Rattle.std.proofs.lemmas.List.{get_or-set_same}
use Rattle.mgn_params.specs.Shelves.{set_at}
use Rattle.mgn_desk.specs.Desks.{MarkedNets}
use Rattle.mgn_machine.specs.declared.command.Command.{Command}
use Rattle.mgn_machine.specs.declared.reply.Refusal.{Refusal}
use Rattle.mgn_machine.specs.declared.reply.Reply.{Reply}
use Rattle.mgn_machine.specs.declared.reply.Reply.TheVariants.{Refused}
use Rattle.mgn_machine.specs.declared.request.Request.TheVariants.{Do}
use Rattle.mgn_machine.specs.Step.{step, step_under}
use Rattle.mgn_machine.specs.State.{State}
use Rattle.mgn_machine.proofs.Versions.{keeps_version}
use Rattle.mgn_plan.specs.Plans.{plan_of}
use Rattle.mgn_world.specs.Claims.{HasPlan, IsAmong, IsIn, IsReached, IsAtRest, before_close, call_in, shown_now}
use Rattle.mgn_world.specs.declared.phases.Call.{Call}
use Rattle.mgn_world.specs.declared.phases.Deed.TheVariants.{Commit}
use Rattle.mgn_world.specs.declared.phases.Phase.{Phase}
use Rattle.mgn_world.specs.declared.phases.Phase.TheVariants.{Idle, Held, Looked, Applied, Failed, Ended, Gathered}
use Rattle.mgn_world.specs.Phases.{View}
use Rattle.mgn_world.specs.World.{World, are_stale, commits, desk_at, in_force, is_apart, is_done, is_full, lock_at, next, opening, phase_at, placed, plan_units, stepped, unit_nets, units_of, with_phase}
use Rattle.mgn_world.proofs.Commits.{before_step, has_plan, never_apart, now_in_force, settled}
use Rattle.mgn_world.proofs.Desks.{plan_held}
use Rattle.mgn_world.proofs.Each.{good_opening, good_run}
use Rattle.mgn_world.proofs.Effects.{outcome}
use Rattle.mgn_world.proofs.Frames.{some_same}
use Rattle.mgn_world.proofs.Locks.{lengthened_at}
use Rattle.mgn_world.proofs.Simple.{held_desk, session}
use Rattle.mgn_world.specs.Standing.{DeskOf, Good, HeldDesk, Owns, PhaseOf, Sees}

pub good_reached : (w : World) → IsReached w → Good w
good_reached w r = subst Good (sym r.is) (good_run (opening r.set) r.steps r.gathered (good_opening r.set r.limits))

pub free_rests : (w : World) (u : ℕ) → IsReached w → lock_at w u ≡ None → IsAtRest w.sets w.state.accounts u (desk_at w u)
free_rests w u r e = subst (DeskOf w.sets w.state.accounts w.phases u (desk_at w u)) e ((good_reached w r).desks u)

pub failed_plan : (w : World) (p u : ℕ) (k : Call) (l : View) (again : Bool) → Good w → phase_at w p ≡ Failed k l again → IsAmong u (plan_units l.plan) → HasPlan w.sets w.state.accounts l u (desk_at w u)
failed_plan w p u k l again good is h = let ok = session w p (Failed k l again) good is in held_desk w p u (Failed k l again) good is (plan_held w p u k l ok.0 ok.1 h)

-- Who holds what.

call_same : (m k : Call) → Some m ≡ Some k → m ≡ k
call_same m k e = cc

owns_of : (w : World) (p : ℕ) (k : Call) (st : Phase) → PhaseOf w.sets w.state w.locks p st → call_in st ≡ Some k → Owns w.locks w.state p k.command
owns_of w p k Idle ok e = cc
owns_of w p k (Held m) ok e = subst (λ (x : Call). Owns w.locks w.state p x.command) (call_same m k e) ok.0
owns_of w p k (Looked m l) ok e = subst (λ (x : Call). Owns w.locks w.state p x.command) (call_same m k e) ok.0
owns_of w p k (Applied m l) ok e = subst (λ (x : Call). Owns w.locks w.state p x.command) (call_same m k e) ok.0
owns_of w p k (Failed m l again) ok e = subst (λ (x : Call). Owns w.locks w.state p x.command) (call_same m k e) ok.0
owns_of w p k (Ended m) ok e = subst (λ (x : Call). Owns w.locks w.state p x.command) (call_same m k e) ok.0
owns_of w p k (Gathered g) ok e = cc

pub holds_units : (w : World) (p u : ℕ) (k : Call) → IsReached w → IsIn w p k → IsAmong u (units_of w.state k.command) → lock_at w u ≡ Some p
holds_units w p u k r is h = (owns_of w p k (phase_at w p) ((good_reached w r).sessions p) is).all_of u h

held_by : (w : World) (p u : ℕ) (st : Phase) → PhaseOf w.sets w.state w.locks p st → HeldDesk w.sets w.state.accounts u (desk_at w u) st → lock_at w u ≡ Some p → (k : Call) × ((call_in st ≡ Some k) × IsAmong u (units_of w.state k.command))
held_by w p u Idle ok held e = absurd held
held_by w p u (Held k) ok held e = (k, (refl, ok.0.no_other u e))
held_by w p u (Looked k l) ok held e = (k, (refl, ok.0.no_other u e))
held_by w p u (Applied k l) ok held e = (k, (refl, ok.0.no_other u e))
held_by w p u (Failed k l again) ok held e = (k, (refl, ok.0.no_other u e))
held_by w p u (Ended k) ok held e = (k, (refl, ok.0.no_other u e))
held_by w p u (Gathered g) ok held e = absurd held

pub held_for : (w : World) (p u : ℕ) → IsReached w → lock_at w u ≡ Some p → (k : Call) × (IsIn w p k × IsAmong u (units_of w.state k.command))
held_for w p u r e = let good = good_reached w r in held_by w p u (phase_at w p) (good.sessions p) (held_desk w p u (phase_at w p) good refl e) e

pub one_holder : (w : World) (p q u : ℕ) (k m : Call) → IsReached w → IsIn w p k → IsIn w q m → IsAmong u (units_of w.state k.command) → IsAmong u (units_of w.state m.command) → p ≡ q
one_holder w p q u k m r a b h j = some_same p q (lock_at w u) (holds_units w p u k r a h) (holds_units w q u m r b j)

-- Looks

looks_of : (w : World) (p : ℕ) (k : Call) (st : Phase) → PhaseOf w.sets w.state w.locks p st → call_in st ≡ Some k → k.looks + k.began ≤ w.state.version + 1
looks_of w p k Idle ok e = cc
looks_of w p k (Held m) ok e = subst (λ (x : Call). x.looks + x.began ≤ w.state.version + 1) (call_same m k e) (omega (arith, ok.1))
looks_of w p k (Looked m l) ok e = subst (λ (x : Call). x.looks + x.began ≤ w.state.version + 1) (call_same m k e) (omega (arith, ok.1.looks, ok.1.version))
looks_of w p k (Applied m l) ok e = subst (λ (x : Call). x.looks + x.began ≤ w.state.version + 1) (call_same m k e) (omega (arith, ok.1.looks, ok.1.version))
looks_of w p k (Failed m l again) ok e = subst (λ (x : Call). x.looks + x.began ≤ w.state.version + 1) (call_same m k e) (omega (arith, ok.1.looks, ok.1.version))
looks_of w p k (Ended m) ok e = subst (λ (x : Call). x.looks + x.began ≤ w.state.version + 1) (call_same m k e) (omega (arith, ok.1))
looks_of w p k (Gathered g) ok e = cc

pub few_looks : (w : World) (p : ℕ) (k : Call) → IsReached w → IsIn w p k → k.looks + k.began ≤ w.state.version + 1
few_looks w p k r is = looks_of w p k (phase_at w p) ((good_reached w r).sessions p) is

-- A refusal

pub refused_same : (w : World) (c : Command) (why : Refusal) → IsReached w → (step w.sets w.state (Do c)).1 ≡ Refused why → (step w.sets w.state (Do c)).0 ≡ w.state
refused_same w c why r e = (outcome (in_force w) w.state c (before_step w (good_reached w r))).refused (ap is_done e)

-- A commit that is done

shown_by : (w : World) (p u : ℕ) (k : Call) (l : View) (d : Option MarkedNets) → Good w → phase_at w p ≡ Applied k l → l.version ≡ w.state.version → is_done (step_under (in_force w) w.state k.command).1 ≡ true → HasPlan w.sets w.state.accounts l u d
    → d ≡ Some record { version = w.state.version; nets = unit_nets (in_force w) (step_under (in_force w) w.state k.command).0.accounts u }
shown_by w p u k l None good is now done h = absurd h
shown_by w p u k l (Some m) good is now done h =
    let version : m.version ≡ w.state.version = h.0 ∙ now in
    let nets = (settled w p u k l (Some m) good is now done h).1 in
    λ j. Some record { version = version j; nets = (nets ∙ ap (λ (n : ℕ). unit_nets (set_at w.sets n) (step_under (in_force w) w.state k.command).0.accounts u) version) j }

not_ended : {X : Type 0} (k m : Call) (l : View) (again : Bool) (st : Phase) → st ≡ Failed k l again → st ≡ Ended m → X
not_ended k m l again st a b = cc

-- the world after the commit of an applied call, by the tests
done_by : (w : World) (p u : ℕ) (k m : Call) (l : View) (full stale apart : Bool) → are_stale w.state.version w.desks l.seen ≡ stale → Good w → phase_at w p ≡ Applied k l → p < length w.phases → IsAmong u (plan_units l.plan) → (v : World)
    → v ≡ (if full then with_phase w p (Failed k l false) else if stale then with_phase w p (Failed k l true) else if apart then with_phase w p (Failed k l false) else placed w p k l (step w.sets w.state (Do k.command)))
    → phase_at v p ≡ Ended m → desk_at v u ≡ Some (shown_now v u)
done_by w p u k m l true stale apart f good is there h v e ended = not_ended k m l false (phase_at v p) (ap (λ (x : World). phase_at x p) e ∙ get_or-set_same w.phases p (Failed k l false) Idle there) ended
done_by w p u k m l false true apart f good is there h v e ended = not_ended k m l true (phase_at v p) (ap (λ (x : World). phase_at x p) e ∙ get_or-set_same w.phases p (Failed k l true) Idle there) ended
done_by w p u k m l false false true f good is there h v e ended = not_ended k m l false (phase_at v p) (ap (λ (x : World). phase_at x p) e ∙ get_or-set_same w.phases p (Failed k l false) Idle there) ended
done_by w p u k m l false false false f good is there h v e ended = by (is_done (step_under (in_force w) w.state k.command).1) refl e
  where
    after : State × Reply
    after = step_under (in_force w) w.state k.command

    stepped_now : World
    stepped_now = stepped w p (Do k.command) after

    by : (b : Bool) → is_done after.1 ≡ b → v ≡ with_phase stepped_now p (if b then Ended k else Failed k l false) → desk_at v u ≡ Some (shown_now v u)
    by false d x = not_ended k m l false (phase_at v p) (ap (λ (y : World). phase_at y p) x ∙ get_or-set_same w.phases p (Failed k l false) Idle there) ended
    by true d x = subst (λ (y : World). desk_at y u ≡ Some (shown_now y u)) (sym x)
        (lengthened_at after.0.units w.desks u
        ∙ shown_by w p u k l (desk_at w u) good is (now_in_force w p k l good is f) d (has_plan w p k l good is u h)
        ∙ (λ j. Some record { version = sym (keeps_version (in_force w) w.state k.command) j; nets = unit_nets (set_at w.sets (sym (keeps_version (in_force w) w.state k.command) j)) after.0.accounts u }))

pub done_shows : (w : World) (p u : ℕ) (k m : Call) (l : View) → IsReached w → phase_at w p ≡ Applied k l → IsAmong u (plan_units l.plan) → phase_at (next w record { session = suc p; deed = Commit }) p ≡ Ended m
    → desk_at (next w record { session = suc p; deed = Commit }) u ≡ Some (shown_now (next w record { session = suc p; deed = Commit }) u)
done_shows w p u k m l r is h ended = by (nat_lt p (length w.phases)) refl ended
  where
    good : Good w
    good = good_reached w r

    never : {X : Type 0} → phase_at w p ≡ Ended m → X
    never e = let x : Applied k l ≡ Ended m = sym is ∙ e in cc

    by : (b : Bool) → nat_lt p (length w.phases) ≡ b → phase_at (if b then commits w p (phase_at w p) else w) p ≡ Ended m → desk_at (if b then commits w p (phase_at w p) else w) u ≡ Some (shown_now (if b then commits w p (phase_at w p) else w) u)
    by false e x = never x
    by true e x =
        done_by w p u k m l (is_full w) (are_stale w.state.version w.desks l.seen) (is_apart w (plan_of (in_force w) w.state k.command)) refl good is (grind (arith, nat_tests)) h (commits w p (phase_at w p)) (ap (commits w p) is) x

-- What a plan is

plan_of_phase : (w : World) (k : Call) (l : View) → Sees w.sets w.state k l → plan_of (set_at w.sets l.version) (before_close w.state) k.command ≡ l.plan
plan_of_phase w k l sees = sees.plan

pub plan_is : (w : World) (p : ℕ) (k : Call) (l : View) → IsReached w → phase_at w p ≡ Applied k l → plan_of (set_at w.sets l.version) (before_close w.state) k.command ≡ l.plan
plan_is w p k l r is = plan_of_phase w k l (session w p (Applied k l) (good_reached w r) is).1

-- A commit

phase_inside : (phases : List Phase) (p : ℕ) (k : Call) (l : View) → get_or phases p Idle ≡ Applied k l → p < length phases
phase_inside [] p k l e = cc
phase_inside (st ∷ phases) zero k l e = omega arith
phase_inside (st ∷ phases) (suc p) k l e = let less = phase_inside phases p k l e in omega (arith, less)

pub commit_placed : (w : World) (p : ℕ) (k : Call) (l : View) → IsReached w → phase_at w p ≡ Applied k l → is_full w ≡ false → are_stale w.state.version w.desks l.seen ≡ false → next w record { session = suc p; deed = Commit } ≡ placed w p k l (step w.sets w.state (Do k.command))
commit_placed w p k l r is room fresh =
    let less : p < length w.phases = phase_inside w.phases p k l is in
    let there : nat_lt p (length w.phases) ≡ true = grind (arith, nat_tests) in
    let fits = never_apart w p k l (good_reached w r) is fresh in
    let stale : Bool = are_stale w.state.version w.desks l.seen in
    let apart : Bool = is_apart w (plan_of (in_force w) w.state k.command) in
    let now : World = placed w p k l (step w.sets w.state (Do k.command)) in
    ap (λ (b : Bool). if b then commits w p (phase_at w p) else w) there
    ∙ ap (commits w p) is
    ∙ ap (λ (b : Bool). if b then with_phase w p (Failed k l false) else if stale then with_phase w p (Failed k l true) else if apart then with_phase w p (Failed k l false) else now) room
    ∙ ap (λ (b : Bool). if b then with_phase w p (Failed k l true) else if apart then with_phase w p (Failed k l false) else now) fresh
    ∙ ap (λ (b : Bool). if b then with_phase w p (Failed k l false) else now) fits
