-- What a step of a session leaves alone: the desks and holders of units that it does not hold.
use Rattle.std.proofs.Common.{◌≡◌, ◌≢◌, ◌<◌, ◌∙◌, ⊎_elim, ℕ, Bool, true, false, Option, None, Some, List, [], ◌∷◌, length, map, sym, ap, subst, refl, arith}
use Rattle.std.specs.Prelude.{if◌then◌else◌, slice_index_or, slice_set}
use Rattle.std.proofs.lemmas.List.{get_or-set_same}
use Rattle.mgn_params.specs.Shelves.{set_at}
use Rattle.mgn_params.specs.Tables.{Tables}
use Rattle.mgn_desk.specs.Desks.{MarkedNets}
use Rattle.mgn_machine.specs.declared.command.Command.{Command}
use Rattle.mgn_machine.specs.declared.request.Request.TheVariants.{Do, Switch}
use Rattle.mgn_machine.specs.Step.{step}
use Rattle.mgn_plan.specs.declared.plans.Plan.{Plan}
use Rattle.mgn_plan.specs.declared.plans.Plan.TheVariants.{Nothing, One, Two}
use Rattle.mgn_plan.specs.Plans.{plan_of}
use Rattle.mgn_world.specs.Claims.{IsAmong, IsReached}
use Rattle.mgn_world.specs.declared.phases.Call.{Call}
use Rattle.mgn_world.specs.declared.phases.Deed.{Deed}
use Rattle.mgn_world.specs.declared.phases.Deed.TheVariants.{Begin, Look, Mark, Apply, Commit, Back, End, Gather, Prepare}
use Rattle.mgn_world.specs.declared.phases.Phase.{Phase}
use Rattle.mgn_world.specs.declared.phases.Phase.TheVariants.{Idle, Held, Looked, Applied, Failed, Ended, Gathered}
use Rattle.mgn_world.specs.Phases.{View}
use Rattle.mgn_world.specs.declared.phases.Seen.{Seen}
use Rattle.mgn_world.specs.Standing.{Good, Owns, Sees}
use Rattle.mgn_world.specs.World.{World, applies, are_free, are_of, are_stale, backs, begin_on, begins, commits, desk_at, does, ends, finished, freed, gathers, in_force, is_apart, is_full, lengthened, lock_at, look_on, looks, mark_first, marks, next, phase_at, plan_units, planned_desks, prepares, stepped, taken, unit_nets, units_of, with_phase}
use Rattle.mgn_world.proofs.Desks.{plan_held, planned_desk, planned_other, unplanned_desk, unplanned_other}
use Rattle.mgn_world.proofs.Frames.{some_none, some_same}
use Rattle.mgn_world.proofs.Locks.{free_at, freed_at, freed_other, lengthened_at, lock_inside, taken_other}
use Rattle.mgn_world.proofs.Said.{good_reached}
use Rattle.mgn_world.proofs.Simple.{session}
use Rattle.world_laws.specs.Calls.{AppliesPlan, marked_under}
use Rattle.world_laws.specs.Moves.{KeepsOthers, step_of}
use Rattle.world_laws.proofs.Calling.{all_of, does_apply, in_any, looked_there, others_in}
use Rattle.world_laws.proofs.Marking.{MarksOf, marks_of}
use Rattle.world_laws.proofs.Places.{by_does}

-- the units of a plan that was looked at have desks, and are the session's
record Mine (w : World) (p : ℕ) (l : View) : Type 0 where
  held : (u : ℕ) → IsAmong u (plan_units l.plan) → lock_at w u ≡ Some p
  inside : (u : ℕ) → IsAmong u (plan_units l.plan) → u < length w.desks

mine : (w : World) (p : ℕ) (k : Call) (l : View) → Good w → Owns w.locks w.state p k.command → Sees w.sets w.state k l → Mine w p l
mine w p k l good own sees = record {
  held = λ u h. plan_held w p u k l own sees h;
  inside = λ u h. let less = lock_inside w.locks u p (plan_held w p u k l own sees h) in omega (arith, less, good.locks_long, good.desks_long);
}

-- Desks

-- a unit that the session does not hold
abbrev Keeps : ℕ → World → World → Type 0
Keeps u w v = desk_at v u ≡ desk_at w u

either : (u : ℕ) (w : World) (b : Bool) (x y : World) → Keeps u w x → Keeps u w y → Keeps u w (if b then x else y)
either u w true x y first second = first
either u w false x y first second = second

begin_on_desk : (u : ℕ) (w : World) (p : ℕ) (c : Command) (us : List ℕ) → Keeps u w (begin_on w p c us)
begin_on_desk u w p c [] = either u w (is_full w) _ _ refl (lengthened_at (step w.sets w.state (Do c)).0.units w.desks u)
begin_on_desk u w p c (x ∷ us) = either u w (are_free w.locks (x ∷ us)) _ _ refl refl

begin_desk : (u : ℕ) (w : World) (p : ℕ) (c : Command) (st : Phase) → Keeps u w (begins w p c st)
begin_desk u w p c Idle = begin_on_desk u w p c (units_of w.state c)
begin_desk u w p c st = refl

over_desk : (u : ℕ) (w : World) (p : ℕ) (k : Call) (full : Bool) → Keeps u w (finished (if full then w else stepped w p (Do k.command) (step w.sets w.state (Do k.command))) p)
over_desk u w p k true = refl
over_desk u w p k false = lengthened_at (step w.sets w.state (Do k.command)).0.units w.desks u

look_on_desk : (u : ℕ) (w : World) (p : ℕ) (k : Call) (plan : Plan) → Keeps u w (look_on w p k plan)
look_on_desk u w p k Nothing = over_desk u w p k (is_full w)
look_on_desk u w p k (One x) = refl
look_on_desk u w p k (Two x y) = refl

look_desk : (u : ℕ) (w : World) (p : ℕ) (st : Phase) → Keeps u w (looks w p st)
look_desk u w p (Held k) = look_on_desk u w p k (plan_of (in_force w) w.state k.command)
look_desk u w p st = refl

mark_desk : (u : ℕ) (w : World) (p : ℕ) (st : Phase) → Good w → phase_at w p ≡ st → lock_at w u ≢ Some p → Keeps u w (marks w st)
mark_desk u w p (Looked k l) good is n =
    let ok = session w p (Looked k l) good is in
    let own : Mine w p l = mine w p k l good ok.0 ok.1 in
    let now : List (Option MarkedNets) = mark_first l.version l.seen w.desks in
    let of : MarksOf l.version (set_at w.sets l.version) w.state.accounts (plan_units l.plan) w.desks now =
    subst (λ (seen : List Seen). MarksOf l.version (set_at w.sets l.version) w.state.accounts (plan_units l.plan) w.desks (mark_first l.version seen w.desks)) (sym ok.1.seen)
    (marks_of l.version (set_at w.sets l.version) w.state.accounts (plan_units l.plan) w.desks own.inside) in
    ⊎_elim
    (λ (all : ((x : ℕ) → IsAmong x (plan_units l.plan) → marked_under (slice_index_or w.desks x None) ≡ Some l.version) × ((x : ℕ) → slice_index_or now x None ≡ slice_index_or w.desks x None)). all.1 u)
    (λ (one : (x : ℕ) × (IsAmong x (plan_units l.plan) × (marked_under (slice_index_or w.desks x None) ≢ Some l.version) × (slice_index_or now x None ≡ Some record { version = l.version; nets = unit_nets (set_at w.sets l.version) w.state.accounts x }) × ((y : ℕ) → y ≢ x → slice_index_or now y None ≡ slice_index_or w.desks y None))).
    one.1.3 u (λ (e : u ≡ one.0). n (ap (lock_at w) e ∙ own.held one.0 one.1.0)))
    of
mark_desk u w p st good is n = refl

-- desks of units outside the plan
planned_rest : (w : World) (p u : ℕ) (l : View) → Mine w p l → (IsAmong u (plan_units l.plan) → ⊥) → slice_index_or (planned_desks l.plan w.desks) u None ≡ desk_at w u
planned_rest w p u l own n = planned_desk l.plan w.desks u own.inside ∙ planned_other l.plan u (desk_at w u) n

apply_desk : (u : ℕ) (w : World) (p : ℕ) (st : Phase) → Good w → phase_at w p ≡ st → lock_at w u ≢ Some p → Keeps u w (applies w p st)
apply_desk u w p (Looked k l) good is n =
    let ok = session w p (Looked k l) good is in
    let own : Mine w p l = mine w p k l good ok.0 ok.1 in
    either u w (are_of l.version w.desks l.seen) _ _ (planned_rest w p u l own (λ h. n (own.held u h))) refl
apply_desk u w p st good is n = refl

commit_desk : (u : ℕ) (w : World) (p : ℕ) (st : Phase) → Keeps u w (commits w p st)
commit_desk u w p (Applied k l) =
    either u w (is_full w) _ _ refl (either u w (are_stale w.state.version w.desks l.seen) _ _ refl
    (either u w (is_apart w (plan_of (in_force w) w.state k.command)) _ _ refl (lengthened_at (step w.sets w.state (Do k.command)).0.units w.desks u)))
commit_desk u w p (Gathered g) = by (is_full w)
  where
    by : (b : Bool) → Keeps u w (with_phase (if b then w else stepped w p (Switch g.set) (step w.sets w.state (Switch g.set))) p Idle)
    by true = refl
    by false = lengthened_at (step w.sets w.state (Switch g.set)).0.units w.desks u
commit_desk u w p st = refl

back_desk : (u : ℕ) (w : World) (p : ℕ) (st : Phase) → Good w → phase_at w p ≡ st → lock_at w u ≢ Some p → Keeps u w (backs w p st)
back_desk u w p (Failed k l again) good is n =
    let ok = session w p (Failed k l again) good is in
    let own : Mine w p l = mine w p k l good ok.0 ok.1 in
    unplanned_desk l.plan w.desks u own.inside ∙ unplanned_other l.plan u (desk_at w u) (λ h. n (own.held u h))
back_desk u w p st good is n = refl

end_desk : (u : ℕ) (w : World) (p : ℕ) (st : Phase) → Keeps u w (ends w p st)
end_desk u w p (Ended k) = refl
end_desk u w p st = refl

gather_desk : (u : ℕ) (w : World) (p : ℕ) (t : Tables) (st : Phase) → Keeps u w (gathers w p t st)
gather_desk u w p t Idle = refl
gather_desk u w p t st = refl

prepare_desk : (u : ℕ) (w : World) (p x : ℕ) (st : Phase) → Keeps u w (prepares w p x st)
prepare_desk u w p x (Gathered g) = refl
prepare_desk u w p x st = refl

does_desk : (u : ℕ) (w : World) (p : ℕ) (d : Deed) → Good w → lock_at w u ≢ Some p → Keeps u w (does w p d)
does_desk u w p (Begin c) good n = begin_desk u w p c (phase_at w p)
does_desk u w p Look good n = look_desk u w p (phase_at w p)
does_desk u w p Mark good n = mark_desk u w p (phase_at w p) good refl n
does_desk u w p Apply good n = apply_desk u w p (phase_at w p) good refl n
does_desk u w p Commit good n = commit_desk u w p (phase_at w p)
does_desk u w p Back good n = back_desk u w p (phase_at w p) good refl n
does_desk u w p End good n = end_desk u w p (phase_at w p)
does_desk u w p (Gather t) good n = gather_desk u w p t (phase_at w p)
does_desk u w p (Prepare x) good n = prepare_desk u w p x (phase_at w p)

pub desks_alone : (w : World) (p u : ℕ) (d : Deed) → IsReached w → lock_at w u ≢ Some p → desk_at (next w (step_of p d)) u ≡ desk_at w u
desks_alone w p u d reached n = in_any (Keeps u w) w p d refl (does_desk u w p d (good_reached w reached) n)

-- Holders

-- a unit that another session holds
abbrev Stays : ℕ → ℕ → World → Type 0
Stays u q v = lock_at v u ≡ Some q

one_of : (u q : ℕ) (b : Bool) (x y : World) → Stays u q x → Stays u q y → Stays u q (if b then x else y)
one_of u q true x y first second = first
one_of u q false x y first second = second

-- the units that a Begin takes were free
taken_when : (u q : ℕ) (w : World) (p : ℕ) (c : Command) (us : List ℕ) (b : Bool) → are_free w.locks us ≡ b → lock_at w u ≡ Some q
    → Stays u q (if b then record w { locks = taken p us w.locks; phases = slice_set w.phases p (Held record { command = c; began = w.state.version; looks = 0 }) } else w)
taken_when u q w p c us true free e = taken_other p us w.locks u (λ h. some_none q (lock_at w u) (free_at w.locks us u free h) e) ∙ e
taken_when u q w p c us false free e = e

begin_on_holder : (u q : ℕ) (w : World) (p : ℕ) (c : Command) (us : List ℕ) → lock_at w u ≡ Some q → Stays u q (begin_on w p c us)
begin_on_holder u q w p c [] e = one_of u q (is_full w) _ _ e (lengthened_at (step w.sets w.state (Do c)).0.units w.locks u ∙ e)
begin_on_holder u q w p c (x ∷ us) e = taken_when u q w p c (x ∷ us) (are_free w.locks (x ∷ us)) refl e

begin_holder : (u q : ℕ) (w : World) (p : ℕ) (c : Command) (st : Phase) → lock_at w u ≡ Some q → Stays u q (begins w p c st)
begin_holder u q w p c Idle e = begin_on_holder u q w p c (units_of w.state c) e
begin_holder u q w p c st e = e

-- units that a session gives back
given : (u q p : ℕ) (locks : List (Option ℕ)) → q ≢ p → slice_index_or locks u None ≡ Some q → slice_index_or (map (freed p) locks) u None ≡ Some q
given u q p locks other e = freed_at p locks u ∙ freed_other p (slice_index_or locks u None) (λ h. other (some_same q p (slice_index_or locks u None) e h)) ∙ e

over_holder : (u q : ℕ) (w : World) (p : ℕ) (k : Call) (full : Bool) → q ≢ p → lock_at w u ≡ Some q → Stays u q (finished (if full then w else stepped w p (Do k.command) (step w.sets w.state (Do k.command))) p)
over_holder u q w p k true other e = given u q p w.locks other e
over_holder u q w p k false other e =
    let units : ℕ = (step w.sets w.state (Do k.command)).0.units in
    given u q p (lengthened units w.locks) other (lengthened_at units w.locks u ∙ e)

look_on_holder : (u q : ℕ) (w : World) (p : ℕ) (k : Call) (plan : Plan) → q ≢ p → lock_at w u ≡ Some q → Stays u q (look_on w p k plan)
look_on_holder u q w p k Nothing other e = over_holder u q w p k (is_full w) other e
look_on_holder u q w p k (One x) other e = e
look_on_holder u q w p k (Two x y) other e = e

look_holder : (u q : ℕ) (w : World) (p : ℕ) (st : Phase) → q ≢ p → lock_at w u ≡ Some q → Stays u q (looks w p st)
look_holder u q w p (Held k) other e = look_on_holder u q w p k (plan_of (in_force w) w.state k.command) other e
look_holder u q w p st other e = e

mark_holder : (u q : ℕ) (w : World) (st : Phase) → lock_at w u ≡ Some q → Stays u q (marks w st)
mark_holder u q w (Looked k l) e = e
mark_holder u q w st e = e

apply_holder : (u q : ℕ) (w : World) (p : ℕ) (st : Phase) → lock_at w u ≡ Some q → Stays u q (applies w p st)
apply_holder u q w p (Looked k l) e = one_of u q (are_of l.version w.desks l.seen) _ _ e e
apply_holder u q w p st e = e

commit_holder : (u q : ℕ) (w : World) (p : ℕ) (st : Phase) → lock_at w u ≡ Some q → Stays u q (commits w p st)
commit_holder u q w p (Applied k l) e =
    one_of u q (is_full w) _ _ e (one_of u q (are_stale w.state.version w.desks l.seen) _ _ e
    (one_of u q (is_apart w (plan_of (in_force w) w.state k.command)) _ _ e (lengthened_at (step w.sets w.state (Do k.command)).0.units w.locks u ∙ e)))
commit_holder u q w p (Gathered g) e = by (is_full w)
  where
    by : (b : Bool) → Stays u q (with_phase (if b then w else stepped w p (Switch g.set) (step w.sets w.state (Switch g.set))) p Idle)
    by true = e
    by false = lengthened_at (step w.sets w.state (Switch g.set)).0.units w.locks u ∙ e
commit_holder u q w p st e = e

back_holder : (u q : ℕ) (w : World) (p : ℕ) (st : Phase) → lock_at w u ≡ Some q → Stays u q (backs w p st)
back_holder u q w p (Failed k l again) e = e
back_holder u q w p st e = e

end_holder : (u q : ℕ) (w : World) (p : ℕ) (st : Phase) → q ≢ p → lock_at w u ≡ Some q → Stays u q (ends w p st)
end_holder u q w p (Ended k) other e = given u q p w.locks other e
end_holder u q w p st other e = e

gather_holder : (u q : ℕ) (w : World) (p : ℕ) (t : Tables) (st : Phase) → lock_at w u ≡ Some q → Stays u q (gathers w p t st)
gather_holder u q w p t Idle e = e
gather_holder u q w p t st e = e

prepare_holder : (u q : ℕ) (w : World) (p x : ℕ) (st : Phase) → lock_at w u ≡ Some q → Stays u q (prepares w p x st)
prepare_holder u q w p x (Gathered g) e = e
prepare_holder u q w p x st e = e

does_holder : (u q : ℕ) (w : World) (p : ℕ) (d : Deed) → q ≢ p → lock_at w u ≡ Some q → Stays u q (does w p d)
does_holder u q w p (Begin c) other e = begin_holder u q w p c (phase_at w p) e
does_holder u q w p Look other e = look_holder u q w p (phase_at w p) other e
does_holder u q w p Mark other e = mark_holder u q w (phase_at w p) e
does_holder u q w p Apply other e = apply_holder u q w p (phase_at w p) e
does_holder u q w p Commit other e = commit_holder u q w p (phase_at w p) e
does_holder u q w p Back other e = back_holder u q w p (phase_at w p) e
does_holder u q w p End other e = end_holder u q w p (phase_at w p) other e
does_holder u q w p (Gather t) other e = gather_holder u q w p t (phase_at w p) e
does_holder u q w p (Prepare x) other e = prepare_holder u q w p x (phase_at w p) e

pub holders_alone : (w : World) (p u q : ℕ) (d : Deed) → q ≢ p → lock_at w u ≡ Some q → lock_at (next w (step_of p d)) u ≡ Some q
holders_alone w p u q d other e = in_any (Stays u q) w p d e (does_holder u q w p d other e)

-- Apply

pub apply_moves : (w : World) (p : ℕ) (k : Call) (l : View) → IsReached w → phase_at w p ≡ Looked k l → ((u : ℕ) → IsAmong u (plan_units l.plan) → marked_under (desk_at w u) ≡ Some l.version) → AppliesPlan p k l w (next w (step_of p Apply))
apply_moves w p k l reached is each =
    let there = looked_there w p k l is in
    let good = good_reached w reached in
    let ok = session w p (Looked k l) good is in
    let own : Mine w p l = mine w p k l good ok.0 ok.1 in
    let of : are_of l.version w.desks l.seen ≡ true = subst (λ (seen : List Seen). are_of l.version w.desks seen ≡ true) (sym ok.1.seen) (all_of l.version w.desks (set_at w.sets l.version) w.state.accounts (plan_units l.plan) each) in
    let others = others_in w p Apply in
    by_does (λ v. KeepsOthers p w v → AppliesPlan p k l w v) w (record w { desks = planned_desks l.plan w.desks; phases = slice_set w.phases p (Applied k l) }) p Apply there (does_apply w p k l is of)
    (λ kept. record {
      phase = get_or-set_same w.phases p (Applied k l) Idle there;
      others = kept;
      book = record { sets = refl; state = refl; history = refl };
      holders = λ u. refl;
      desks = λ u n. planned_rest w p u l own n;
    })
    others
