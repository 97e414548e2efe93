-- Commands, commits and switches keep the world good, and what is known at a Commit: for the laws of commits.
use Rattle.std.proofs.Common.{◌≡◌, ◌≢◌, ◌<◌, ◌≤◌, ◌+◌, ◌∙◌, ◌⊎◌, inl, inr, ⊎_elim, ℕ, Bool, true, false, All, Option, None, Some, List, [], ◌∷◌, ◌++◌, length, length-append, map, sym, ap, subst, refl, arith, Result, Ok, Err}
use Rattle.std.specs.Cmp.Lexicographic.{pointwise}
use Rattle.std.specs.Ordering.{int_eq}
use Rattle.std.specs.Prelude.{◌&&◌, ◌||◌, not, if◌then◌else◌, nat_lt, slice_index_or, slice_set, ℤ}
use Rattle.std.proofs.lemmas.Bool.{eq-eqb, not-false}
use Rattle.std.proofs.lemmas.Bool.Decides.{Decides-int_eq, nat_tests}
use Rattle.std.proofs.lemmas.List.{get_or-set_same, get_or-set_other, get_or_append_left}
use Rattle.mgn_params.specs.Limits.{IsWithinLimits}
use Rattle.mgn_params.specs.Shelves.{set_at}
use Rattle.mgn_params.specs.Tables.{Tables, no_tables}
use Rattle.mgn_nets.specs.Portfolios.{UnitNets}
use Rattle.mgn_desk.specs.Desks.{MarkedNets}
use Rattle.mgn_machine.specs.declared.command.Command.{Command}
use Rattle.mgn_machine.specs.declared.reply.Refusal.{Refusal}
use Rattle.mgn_machine.specs.declared.reply.Reply.{Reply}
use Rattle.mgn_machine.specs.declared.request.Request.TheVariants.{Do, Switch}
use Rattle.mgn_machine.specs.NewSet.{covers, on_call, set_fits}
use Rattle.mgn_machine.specs.Refusals.{IsKnown}
use Rattle.mgn_machine.specs.State.{AccountState, State}
use Rattle.mgn_machine.specs.Step.{step, step_under, switched}
use Rattle.mgn_machine.proofs.Versions.{keeps_version}
use Rattle.mgn_unit.proofs.Covered.{covers-known}
use Rattle.mgn_plan.specs.declared.plans.Plan.{Plan}
use Rattle.mgn_plan.specs.declared.plans.Plan.TheVariants.{Nothing, One, Two}
use Rattle.mgn_plan.specs.Plans.{plan_of}
use Rattle.mgn_pricing.specs.Given.{same_four}
use Rattle.mgn_world.specs.Claims.{HasPlan, IsAmong, IsReplayed, IsAtRest, before_close}
use Rattle.mgn_world.specs.declared.phases.Call.{Call}
use Rattle.mgn_world.specs.declared.phases.Phase.{Phase}
use Rattle.mgn_world.specs.declared.phases.Phase.TheVariants.{Idle, Held, Applied, Failed, Ended, Gathered}
use Rattle.mgn_world.specs.Phases.{Gathering, View}
use Rattle.mgn_world.specs.declared.phases.Seen.{Seen}
use Rattle.mgn_world.specs.World.{World, are_fit, are_stale, desk_at, in_force, is_apart, is_done, is_fit, is_stale, lengthened, lock_at, phase_at, placed, plan_units, planned, seen_at, stepped, unit_nets, units_of, with_phase}
use Rattle.mgn_world.specs.Standing.{DeskOf, Good, HeldDesk, Owns, PhaseOf, Sees}
use Rattle.mgn_world.proofs.Desks.{plan_held}
use Rattle.mgn_world.proofs.Effects.{Before, Outcome, outcome}
use Rattle.mgn_world.proofs.Frames.{Change, good_after, owns_kept, rests_same}
use Rattle.mgn_world.proofs.Locks.{lengthened_at, lengthened_long}
use Rattle.mgn_register.proofs.Found.{test_passed}
use Rattle.mgn_world.proofs.Replays.{run-done, run-switch}
use Rattle.mgn_world.proofs.Simple.{held_desk, phase_in, session}
use Rattle.mgn_world.proofs.Stays.{plan_now, plan_open}
use Rattle.mgn_world.proofs.Twins.{keeps-less, keeps-same}
use Rattle.mgn_book.proofs.Switches.{last-set}

pub before_step : (w : World) → Good w → Before (in_force w) w.state
before_step w good = record { limits = good.limits w.state.version (omega (arith, good.replayed.shown)); known = good.known; housed = good.housed }

-- The world after a command, and after the phase of its session is set.
abbrev commanded : World → ℕ → Command → World
commanded w p c = stepped w p (Do c) (step w.sets w.state (Do c))

-- what a command of the session at a place leaves alone, where its units are this session's
command_change : (w : World) (p : ℕ) (c : Command) (phases : List Phase) → Good w → ((u : ℕ) → IsAmong u (units_of w.state c) → lock_at w u ≡ Some p) → ((q : ℕ) → q ≢ p → slice_index_or phases q Idle ≡ phase_at w q)
    → Change w (record (commanded w p c) { phases = phases }) p
command_change w p c phases good mine same =
    let after = step_under (in_force w) w.state c in
    let out = outcome (in_force w) w.state c (before_step w good) in
    record {
      version = omega (arith, keeps_version (in_force w) w.state c);
      sets_long = omega arith;
      sets = λ i inside. refl;
      phases = same;
      locks = λ u q other e. lengthened_at after.0.units w.locks u ∙ e;
      locks_back = λ u q other e. sym (lengthened_at after.0.units w.locks u) ∙ e;
      rest = λ u n m. (lengthened_at after.0.units w.locks u, lengthened_at after.0.units w.desks u);
      kept = keeps-less (λ u. IsAmong u (units_of w.state c) → ⊥) (λ u. lock_at w u ≢ Some p) w.state.accounts after.0.accounts (λ u n h. n (mine u h)) out.kept;
    }

-- a command keeps the world good, where what is said of its own session and units is true
good_commanded : (w : World) (p : ℕ) (c : Command) (phases : List Phase) → Good w → length w.history < 1000000 → ((u : ℕ) → IsAmong u (units_of w.state c) → lock_at w u ≡ Some p) → ((q : ℕ) → q ≢ p → slice_index_or phases q Idle ≡ phase_at w q)
    → PhaseOf w.sets (step_under (in_force w) w.state c).0 (lengthened (step_under (in_force w) w.state c).0.units w.locks) p (slice_index_or phases p Idle)
    → ((u : ℕ) → lock_at w u ≡ Some p → HeldDesk w.sets (step_under (in_force w) w.state c).0.accounts u (desk_at w u) (slice_index_or phases p Idle))
    → Good (record (commanded w p c) { phases = phases })
good_commanded w p c phases good few mine same own held =
    let after = step_under (in_force w) w.state c in
    let v : World = record (commanded w p c) { phases = phases } in
    let out = outcome (in_force w) w.state c (before_step w good) in
    good_after w v p good (command_change w p c phases good mine same)
    (run-done w.sets w.state w.history (p + 1) c good.replayed few)
    good.limits
    (subst (λ (n : ℕ). All (IsKnown (set_at w.sets n)) after.0.accounts) (sym (keeps_version (in_force w) w.state c)) out.known)
    out.housed
    (lengthened_long after.0.units w.desks (omega (arith, good.desks_long, out.units)))
    (lengthened_long after.0.units w.locks (omega (arith, good.locks_long, out.units)))
    own
    (λ u h.
    let e : lock_at w u ≡ Some p = ⊎_elim (λ (x : lock_at w u ≡ Some p). x) (λ (x : lock_at v u ≡ Some p). sym (lengthened_at after.0.units w.locks u) ∙ x) h in
    subst (λ (x : Option MarkedNets × Option ℕ). DeskOf w.sets after.0.accounts phases u x.0 x.1)
    (λ j. (sym (lengthened_at after.0.units w.desks u) j, sym (lengthened_at after.0.units w.locks u ∙ e) j)) (held u e))

own_after : (w : World) (p : ℕ) (c : Command) → Good w → Owns w.locks w.state p c → Owns (lengthened (step_under (in_force w) w.state c).0.units w.locks) (step_under (in_force w) w.state c).0 p c
own_after w p c good own =
    let after = step_under (in_force w) w.state c in
    owns_kept (λ u. IsAmong u (units_of w.state c) → ⊥) w.locks (lengthened after.0.units w.locks) w.state after.0 p c (outcome (in_force w) w.state c (before_step w good)).kept
    (λ u e. lengthened_at after.0.units w.locks u ∙ e) (λ u e. sym (lengthened_at after.0.units w.locks u) ∙ e) own

-- a command without units, at once
pub good_at_once : (w : World) (p : ℕ) (c : Command) → Good w → phase_at w p ≡ Idle → units_of w.state c ≡ [] → length w.history < 1000000 → Good (commanded w p c)
good_at_once w p c good idle none few =
    let after = step_under (in_force w) w.state c in
    good_commanded w p c w.phases good few (λ u h. absurd (subst (IsAmong u) none h)) (λ q other. refl)
    (subst (PhaseOf w.sets after.0 (lengthened after.0.units w.locks) p) (sym idle) tt)
    (λ u e. absurd (held_desk w p u Idle good idle e))

-- a command of held units without a plan
pub good_planless : (w : World) (p : ℕ) (k : Call) → Good w → phase_at w p ≡ Held k → plan_of (in_force w) w.state k.command ≡ Nothing → length w.history < 1000000 → Good (commanded w p k.command)
good_planless w p k good is nothing few =
    let c = k.command in
    let after = step_under (in_force w) w.state c in
    let out = outcome (in_force w) w.state c (before_step w good) in
    let ok = session w p (Held k) good is in
    good_commanded w p c w.phases good few ok.0.all_of (λ q other. refl)
    (subst (PhaseOf w.sets after.0 (lengthened after.0.units w.locks) p) (sym is) (own_after w p c good ok.0, omega (arith, ok.1, keeps_version (in_force w) w.state c)))
    (λ u e. subst (HeldDesk w.sets after.0.accounts u (desk_at w u)) (sym is)
    (rests_same w.sets w.state.accounts after.0.accounts u (desk_at w u) (λ t. out.same nothing t u) (held_desk w p u (Held k) good is e)))

-- Commit

stale_seen : (l : View) (sets : List Tables) (accounts : List AccountState) (version : ℕ) (desks : List (Option MarkedNets)) (us : List ℕ) (t : Tables) (xs : List AccountState) → ((u : ℕ) → IsAmong u us → HasPlan sets accounts l u (slice_index_or desks u None)) → are_stale version desks (map (seen_at t xs) us) ≡ true → l.version < version
stale_seen l sets accounts version desks [] t xs has e = cc
stale_seen l sets accounts version desks (u ∷ us) t xs has e = by (slice_index_or desks u None) (has u (inl refl)) (λ x. stale_seen l sets accounts version desks us t xs (λ v r. has v (inr r)) x) e
  where
    either : (b : Bool) → b || are_stale version desks (map (seen_at t xs) us) ≡ true → (b ≡ true) ⊎ (are_stale version desks (map (seen_at t xs) us) ≡ true)
    either true e = inl refl
    either false e = inr e

    by : (d : Option MarkedNets) → HasPlan sets accounts l u d → (are_stale version desks (map (seen_at t xs) us) ≡ true → l.version < version) → is_stale version d || are_stale version desks (map (seen_at t xs) us) ≡ true → l.version < version
    by None h more e = absurd h
    by (Some m) h more e = ⊎_elim
        (λ (x : nat_lt m.version version ≡ true). let same : m.version ≡ l.version = h.0 in let less : m.version < version = grind (arith, nat_tests) in omega (arith, same, less))
        more
        (either (nat_lt m.version version) e)

fresh_first : (l : View) (sets : List Tables) (accounts : List AccountState) (version u : ℕ) (rest : Bool) (d : Option MarkedNets) → HasPlan sets accounts l u d → is_stale version d || rest ≡ false → version ≤ l.version
fresh_first l sets accounts version u rest None h e = absurd h
fresh_first l sets accounts version u rest (Some m) h e = by (nat_lt m.version version) refl e
  where
    by : (b : Bool) → nat_lt m.version version ≡ b → b || rest ≡ false → version ≤ l.version
    by true x e = cc
    by false x e = let same : m.version ≡ l.version = h.0 in let more : version ≤ m.version = grind (arith, nat_tests) in omega (arith, same, more)

fresh_seen : (l : View) (sets : List Tables) (accounts : List AccountState) (version u : ℕ) (desks : List (Option MarkedNets)) (us : List ℕ) (t : Tables) (xs : List AccountState) → ((x : ℕ) → IsAmong x us → HasPlan sets accounts l x (slice_index_or desks x None)) → IsAmong u us → are_stale version desks (map (seen_at t xs) us) ≡ false → version ≤ l.version
fresh_seen l sets accounts version u desks [] t xs has h e = absurd h
fresh_seen l sets accounts version u desks (x ∷ us) t xs has h e = fresh_first l sets accounts version x (are_stale version desks (map (seen_at t xs) us)) (slice_index_or desks x None) (has x (inl refl)) e

pub pointwise_same : (xs : List ℤ) → pointwise int_eq xs xs ≡ true
pointwise_same [] = refl
pointwise_same (x ∷ xs) = (λ j. (Decides-int_eq x x).1 refl j && pointwise int_eq xs xs) ∙ pointwise_same xs

nets_same : (n : UnitNets) → same_four n n ≡ true
nets_same n = λ j. pointwise_same n.lots j && (pointwise_same n.buys j && (pointwise_same n.sales j && pointwise_same n.all j))

fit_at : (w : World) (plan : Plan) (u : ℕ) (d : Option MarkedNets) (l : View) → l.plan ≡ plan → l.version ≡ w.state.version → HasPlan w.sets w.state.accounts l u d → is_fit w plan u d ≡ true
fit_at w plan u None l same now h = absurd h
fit_at w plan u (Some m) l same now h =
    let nets : m.nets ≡ planned plan (in_force w) w.state.accounts u = h.1 ∙ (λ j. planned (same j) (set_at w.sets (now j)) w.state.accounts u) in
    (λ j. eq-eqb m.version w.state.version (h.0 ∙ now) j && same_four m.nets (planned plan (in_force w) w.state.accounts u))
    ∙ ap (λ (n : UnitNets). same_four n (planned plan (in_force w) w.state.accounts u)) nets
    ∙ nets_same (planned plan (in_force w) w.state.accounts u)

fit_all : (w : World) (plan : Plan) (us : List ℕ) (l : View) → l.plan ≡ plan → l.version ≡ w.state.version → ((u : ℕ) → IsAmong u us → HasPlan w.sets w.state.accounts l u (desk_at w u)) → are_fit w plan us ≡ true
fit_all w plan [] l same now has = refl
fit_all w plan (u ∷ us) l same now has = (λ j. fit_at w plan u (desk_at w u) l same now (has u (inl refl)) j && are_fit w plan us) ∙ fit_all w plan us l same now (λ x h. has x (inr h))

-- the desks of the plan have it
pub has_plan : (w : World) (p : ℕ) (k : Call) (l : View) → Good w → phase_at w p ≡ Applied k l → (u : ℕ) → IsAmong u (plan_units l.plan) → HasPlan w.sets w.state.accounts l u (desk_at w u)
has_plan w p k l good is u h = let ok = session w p (Applied k l) good is in held_desk w p u (Applied k l) good is (plan_held w p u k l ok.0 ok.1 h)

some_unit : (plan : Plan) → plan ≢ Nothing → (u : ℕ) × IsAmong u (plan_units plan)
some_unit Nothing some = absurd (some refl)
some_unit (One u) some = (u.unit, inl refl)
some_unit (Two u v) some = by (nat_lt v.unit u.unit)
  where
    by : (b : Bool) → (x : ℕ) × IsAmong x (if b then v.unit ∷ u.unit ∷ [] else u.unit ∷ v.unit ∷ [])
    by true = (v.unit, inl refl)
    by false = (u.unit, inl refl)

pub stale_passed : (w : World) (p : ℕ) (k : Call) (l : View) → Good w → phase_at w p ≡ Applied k l → are_stale w.state.version w.desks l.seen ≡ true → l.version < w.state.version
stale_passed w p k l good is e =
    let ok = session w p (Applied k l) good is in
    stale_seen l w.sets w.state.accounts w.state.version w.desks (plan_units l.plan) (set_at w.sets l.version) w.state.accounts (has_plan w p k l good is)
    (subst (λ (seen : List Seen). are_stale w.state.version w.desks seen ≡ true) ok.1.seen e)

-- what was looked at under the version in force
pub now_in_force : (w : World) (p : ℕ) (k : Call) (l : View) → Good w → phase_at w p ≡ Applied k l → are_stale w.state.version w.desks l.seen ≡ false → l.version ≡ w.state.version
now_in_force w p k l good is e =
    let ok = session w p (Applied k l) good is in
    let u = some_unit l.plan ok.1.some in
    let later : w.state.version ≤ l.version = fresh_seen l w.sets w.state.accounts w.state.version u.0 w.desks (plan_units l.plan) (set_at w.sets l.version) w.state.accounts (has_plan w p k l good is) u.1
    (subst (λ (seen : List Seen). are_stale w.state.version w.desks seen ≡ false) ok.1.seen e) in
    omega (arith, later, ok.1.version)

pub never_apart : (w : World) (p : ℕ) (k : Call) (l : View) → Good w → phase_at w p ≡ Applied k l → are_stale w.state.version w.desks l.seen ≡ false → is_apart w (plan_of (in_force w) w.state k.command) ≡ false
never_apart w p k l good is e =
    let ok = session w p (Applied k l) good is in
    let now = now_in_force w p k l good is e in
    ⊎_elim
    (λ (same : plan_of (in_force w) w.state k.command ≡ plan_of (in_force w) (before_close w.state) k.command).
    let looked : plan_of (in_force w) w.state k.command ≡ l.plan = same ∙ ap (λ (n : ℕ). plan_of (set_at w.sets n) (before_close w.state) k.command) (sym now) ∙ ok.1.plan in
    ap (is_apart w) looked ∙ ap not (fit_all w l.plan (plan_units l.plan) l refl now (has_plan w p k l good is)))
    (λ (gone : plan_of (in_force w) w.state k.command ≡ Nothing). ap (is_apart w) gone)
    (plan_now (in_force w) w.state k.command)

-- after a command that is done the desks of its plan have the unit's nets
pub settled : (w : World) (p u : ℕ) (k : Call) (l : View) (d : Option MarkedNets) → Good w → phase_at w p ≡ Applied k l → l.version ≡ w.state.version → is_done (step_under (in_force w) w.state k.command).1 ≡ true → HasPlan w.sets w.state.accounts l u d
    → IsAtRest w.sets (step_under (in_force w) w.state k.command).0.accounts u d
settled w p u k l None good is now done h = absurd h
settled w p u k l (Some m) good is now done h =
    let ok = session w p (Applied k l) good is in
    let out = outcome (in_force w) w.state k.command (before_step w good) in
    let looked : plan_of (in_force w) w.state k.command ≡ l.plan =
    plan_open (in_force w) w.state k.command (out.open_day done) ∙ ap (λ (n : ℕ). plan_of (set_at w.sets n) (before_close w.state) k.command) (sym now) ∙ ok.1.plan in
    let version : m.version ≡ w.state.version = h.0 ∙ now in (
      omega (arith, version, good.replayed.shown),
      h.1 ∙ (λ j. planned (sym looked j) (set_at w.sets (now j)) w.state.accounts u) ∙ sym (out.nets done u)
          ∙ ap (λ (n : ℕ). unit_nets (set_at w.sets n) (step_under (in_force w) w.state k.command).0.accounts u) (sym version),
    )

-- a command with a plan, done or refused
pub good_placed : (w : World) (p : ℕ) (k : Call) (l : View) → Good w → phase_at w p ≡ Applied k l → p < length w.phases → length w.history < 1000000 → are_stale w.state.version w.desks l.seen ≡ false → Good (placed w p k l (step w.sets w.state (Do k.command)))
good_placed w p k l good is there few fresh = by (is_done (step_under (in_force w) w.state k.command).1) refl
  where
    after : State × Reply
    after = step_under (in_force w) w.state k.command

    ok : Owns w.locks w.state p k.command × Sees w.sets w.state k l
    ok = session w p (Applied k l) good is

    out : Outcome (in_force w) w.state (units_of w.state k.command) (plan_of (in_force w) w.state k.command) after
    out = outcome (in_force w) w.state k.command (before_step w good)

    own : Owns (lengthened after.0.units w.locks) after.0 p k.command
    own = own_after w p k.command good ok.0

    in_phase : (st : Phase) → PhaseOf w.sets after.0 (lengthened after.0.units w.locks) p st → ((u : ℕ) → lock_at w u ≡ Some p → HeldDesk w.sets after.0.accounts u (desk_at w u) st) → Good (with_phase (commanded w p k.command) p st)
    in_phase st mine held = good_commanded w p k.command (slice_set w.phases p st) good few ok.0.all_of (λ q other. get_or-set_other w.phases p q st Idle other)
        (phase_in w.phases p st w.sets after.0 (lengthened after.0.units w.locks) there mine)
        (λ u e. subst (HeldDesk w.sets after.0.accounts u (desk_at w u)) (sym (get_or-set_same w.phases p st Idle there)) (held u e))

    by : (b : Bool) → is_done after.1 ≡ b → Good (with_phase (commanded w p k.command) p (if b then Ended k else Failed k l false))
    by true e = in_phase (Ended k) (own, omega (arith, ok.1.looks, ok.1.version, keeps_version (in_force w) w.state k.command))
        (λ u x. settled w p u k l (desk_at w u) good is (now_in_force w p k l good is fresh) e (held_desk w p u (Applied k l) good is x))
    by false e = in_phase (Failed k l false) (own, subst (λ (s : State). Sees w.sets s k l) (sym (out.refused e)) ok.1, tt)
        (λ u x. subst (λ (s : State). HasPlan w.sets s.accounts l u (desk_at w u)) (sym (out.refused e)) (held_desk w p u (Applied k l) good is x))

-- A switch

fits_covered : (t : Tables) (s : State) (u : Unit {0}) → set_fits t s ≡ Ok u → covers t s.accounts ≡ true
unfolding set_fits
fits_covered t s u e =
    let a = test_passed _ _ _ u e in
    let b = test_passed _ _ _ u a.1 in
    not-false (covers t s.accounts) b.0

limits_more : (sets : List Tables) (t : Tables) → ((i : ℕ) → i < length sets → IsWithinLimits (set_at sets i)) → IsWithinLimits t → (i : ℕ) → i < length (sets ++ t ∷ []) → IsWithinLimits (set_at (sets ++ t ∷ []) i)
limits_more sets t limits last i inside = by (nat_lt i (length sets)) refl
  where
    by : (b : Bool) → nat_lt i (length sets) ≡ b → IsWithinLimits (set_at (sets ++ t ∷ []) i)
    by true e = let less : i < length sets = grind (arith, nat_tests) in subst IsWithinLimits (sym (get_or_append_left sets (t ∷ []) (no_tables []) i less)) (limits i less)
    by false e =
        let more : length sets ≤ i = grind (arith, nat_tests) in
        let same : length sets ≡ i = omega (arith, more, inside, length-append sets (t ∷ [])) in
        subst IsWithinLimits (sym (last-set sets t i same)) last

good_switched : (w : World) (p : ℕ) (g : Gathering) (r : Result (Unit {0}) Refusal) → set_fits g.set w.state ≡ r → Good w → phase_at w p ≡ Gathered g → length w.history < 1000000
    → IsReplayed (stepped w p (Switch g.set) (switched w.state (on_call g.set w.state.accounts w.state.units) r)) → Good (stepped w p (Switch g.set) (switched w.state (on_call g.set w.state.accounts w.state.units) r))
good_switched w p g (Ok done) fits good is few replayed =
    let v = stepped w p (Switch g.set) (switched w.state (on_call g.set w.state.accounts w.state.units) (Ok done)) in
    let long : length (w.sets ++ g.set ∷ []) ≡ length w.sets + 1 = length-append w.sets (g.set ∷ []) in
    good_after w v p good record {
      version = omega arith;
      sets_long = omega (arith, long);
      sets = λ i inside. get_or_append_left w.sets (g.set ∷ []) (no_tables []) i inside;
      phases = λ q other. refl;
      locks = λ u q other e. lengthened_at w.state.units w.locks u ∙ e;
      locks_back = λ u q other e. sym (lengthened_at w.state.units w.locks u) ∙ e;
      rest = λ u n m. (lengthened_at w.state.units w.locks u, lengthened_at w.state.units w.desks u);
      kept = keeps-same (λ u. lock_at w u ≢ Some p) w.state.accounts;
    }
    replayed (limits_more w.sets g.set good.limits (session w p (Gathered g) good is))
    (subst (λ (t : Tables). All (IsKnown t) w.state.accounts) (sym (last-set w.sets g.set (w.state.version + 1) good.replayed.shown)) (covers-known g.set w.state.accounts (fits_covered g.set w.state done fits)))
    record { accounts = good.housed.accounts; origins = good.housed.origins }
    (lengthened_long w.state.units w.desks (omega (arith, good.desks_long)))
    (lengthened_long w.state.units w.locks (omega (arith, good.locks_long)))
    (subst (PhaseOf (w.sets ++ g.set ∷ []) (record w.state { version = w.state.version + 1 }) (lengthened w.state.units w.locks) p) (sym is) (session w p (Gathered g) good is))
    (λ u h. absurd (held_desk w p u (Gathered g) good is (⊎_elim (λ (x : lock_at w u ≡ Some p). x) (λ (x : lock_at v u ≡ Some p). sym (lengthened_at w.state.units w.locks u) ∙ x) h)))
good_switched w p g (Err why) fits good is few replayed =
    let v = stepped w p (Switch g.set) (switched w.state (on_call g.set w.state.accounts w.state.units) (Err why)) in
    good_after w v p good record {
      version = omega arith;
      sets_long = omega arith;
      sets = λ i inside. refl;
      phases = λ q other. refl;
      locks = λ u q other e. lengthened_at w.state.units w.locks u ∙ e;
      locks_back = λ u q other e. sym (lengthened_at w.state.units w.locks u) ∙ e;
      rest = λ u n m. (lengthened_at w.state.units w.locks u, lengthened_at w.state.units w.desks u);
      kept = keeps-same (λ u. lock_at w u ≢ Some p) w.state.accounts;
    }
    replayed good.limits good.known good.housed
    (lengthened_long w.state.units w.desks (omega (arith, good.desks_long)))
    (lengthened_long w.state.units w.locks (omega (arith, good.locks_long)))
    (subst (PhaseOf w.sets w.state (lengthened w.state.units w.locks) p) (sym is) (session w p (Gathered g) good is))
    (λ u h. absurd (held_desk w p u (Gathered g) good is (⊎_elim (λ (x : lock_at w u ≡ Some p). x) (λ (x : lock_at v u ≡ Some p). sym (lengthened_at w.state.units w.locks u) ∙ x) h)))

pub good_switch : (w : World) (p : ℕ) (g : Gathering) → Good w → phase_at w p ≡ Gathered g → length w.history < 1000000 → Good (stepped w p (Switch g.set) (step w.sets w.state (Switch g.set)))
good_switch w p g good is few = good_switched w p g (set_fits g.set w.state) refl good is few (run-switch w.sets w.state w.history (p + 1) g.set good.replayed few)
