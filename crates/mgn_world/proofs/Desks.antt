-- The desks of a call, marked, moved by its plan and moved back: that they stay good.
use Rattle.std.proofs.Common.{◌≡◌, ◌≢◌, ◌<◌, ◌∙◌, inl, inr, ⊎_elim, ℕ, Bool, true, false, Option, None, Some, List, [], ◌∷◌, length, map, get_or, set, sym, ap, subst, refl, arith, ne_eqb}
use Rattle.std.specs.Prelude.{◌==◌, if◌then◌else◌, nat_lt, slice_index_or, slice_set}
use Rattle.std.proofs.lemmas.Bool.{cases_eq, eqb-true, eq-eqb}
use Rattle.std.proofs.lemmas.List.{get_or-set_same, get_or-set_other, length-set, set-get_or}
use Rattle.mgn_params.specs.Shelves.{set_at}
use Rattle.mgn_params.specs.Tables.{Tables}
use Rattle.mgn_nets.specs.Portfolios.{UnitNets}
use Rattle.mgn_desk.specs.Desks.{MarkedNets, Shown, moved_marked}
use Rattle.mgn_desk.specs.Portfolios.{opposite}
use Rattle.mgn_desk.proofs.MovedLemmas.{desk_back}
use Rattle.mgn_machine.specs.State.{AccountState}
use Rattle.mgn_plan.specs.declared.plans.Plan.{Plan}
use Rattle.mgn_plan.specs.declared.plans.Plan.TheVariants.{Nothing, One, Two}
use Rattle.mgn_plan.specs.declared.plans.UnitChange.{UnitChange}
use Rattle.mgn_plan.specs.Plans.{moved_nets, nets_by, planned_nets}
use Rattle.mgn_unit.specs.Rows.{nets_in, row_of}
use Rattle.mgn_pricing.specs.Desks.{moves_of}
use Rattle.mgn_world.specs.Claims.{HasPlan, IsAmong, IsAtRest}
use Rattle.mgn_world.specs.declared.phases.Call.{Call}
use Rattle.mgn_world.specs.declared.phases.Phase.{Phase}
use Rattle.mgn_world.specs.declared.phases.Phase.TheVariants.{Idle, Held, Looked, Applied, Failed, Ended}
use Rattle.mgn_world.specs.Phases.{View}
use Rattle.mgn_world.specs.declared.phases.Seen.{Seen}
use Rattle.mgn_world.specs.World.{World, are_of, desk_at, desks_with, desks_without, in_order, is_of, lock_at, mark_first, phase_at, plan_units, planned_desks, seen_at, unit_nets, unplanned_desks}
use Rattle.mgn_world.specs.Standing.{Good, HeldDesk, IsPassed, Owns, PhaseOf, Sees}
use Rattle.mgn_world.proofs.Frames.{view_inside, view_units}
use Rattle.mgn_world.proofs.Locks.{both_true, lock_inside}
use Rattle.mgn_world.proofs.Simple.{good_desks, held_desk, session}

-- the units of a plan are held by the session of its call
pub plan_held : (w : World) (p u : ℕ) (k : Call) (l : View) → Owns w.locks w.state p k.command → Sees w.sets w.state k l → IsAmong u (plan_units l.plan) → lock_at w u ≡ Some p
plan_held w p u k l own sees h = own.all_of u ((view_units w.sets w.state k l sees).into u h)

pub held_planned : (w : World) (p u : ℕ) (k : Call) (l : View) → Owns w.locks w.state p k.command → Sees w.sets w.state k l → lock_at w u ≡ Some p → IsAmong u (plan_units l.plan)
held_planned w p u k l own sees e = (view_units w.sets w.state k l sees).back u (own.no_other u e)

desk_inside : (w : World) (p u : ℕ) → Good w → lock_at w u ≡ Some p → u < length w.desks
desk_inside w p u good e = let less = lock_inside w.locks u p e in omega (arith, less, good.locks_long, good.desks_long)

-- Mark

same_phase : (w : World) (p : ℕ) (st : Phase) → phase_at w p ≡ st → slice_set w.phases p st ≡ w.phases
same_phase w p st is = ap (λ (x : Phase). slice_set w.phases p x) (sym is) ∙ set-get_or w.phases p Idle

-- one desk set to the looked version
good_marked : (w : World) (p u : ℕ) (k : Call) (l : View) → Good w → phase_at w p ≡ Looked k l → p < length w.phases → lock_at w u ≡ Some p
    → Good (record w { desks = slice_set w.desks u (Some record { version = l.version; nets = unit_nets (set_at w.sets l.version) w.state.accounts u }) })
good_marked w p u k l good is there mine =
    subst (λ (phases : List Phase). Good (record w { desks = now; phases = phases })) (same_phase w p (Looked k l) is)
    (good_desks w p (Looked k l) now good there (length-set w.desks u marked) (session w p (Looked k l) good is)
    (λ x e. ⊎_elim
    (λ (same : x ≡ u). subst (λ (i : ℕ). IsAtRest w.sets w.state.accounts i (slice_index_or now i None)) (sym same)
    (subst (IsAtRest w.sets w.state.accounts u) (sym (get_or-set_same w.desks u marked None (desk_inside w p u good mine))) (view_inside w.sets w.state k l good.replayed.shown (session w p (Looked k l) good is).1, refl)))
    (λ (other : x ≢ u). subst (IsAtRest w.sets w.state.accounts x) (sym (get_or-set_other w.desks u x marked None other)) (held_desk w p x (Looked k l) good is e))
    (cases_eq x u))
    (λ x n. get_or-set_other w.desks u x marked None (λ (e : x ≡ u). n (ap (lock_at w) e ∙ mine))))
  where
    marked : Option MarkedNets
    marked = Some record { version = l.version; nets = unit_nets (set_at w.sets l.version) w.state.accounts u }

    now : List (Option MarkedNets)
    now = slice_set w.desks u marked

choose : (w : World) (b : Bool) (xs ys : List (Option MarkedNets)) → Good (record w { desks = xs }) → Good (record w { desks = ys }) → Good (record w { desks = if b then xs else ys })
choose w true xs ys first second = first
choose w false xs ys first second = second

mark_each : (w : World) (p : ℕ) (k : Call) (l : View) (us : List ℕ) → Good w → phase_at w p ≡ Looked k l → p < length w.phases → ((u : ℕ) → IsAmong u us → lock_at w u ≡ Some p) → Good (record w { desks = mark_first l.version (map (seen_at (set_at w.sets l.version) w.state.accounts) us) w.desks })
mark_each w p k l [] good is there mine = good
mark_each w p k l (u ∷ us) good is there mine =
    choose w (is_of l.version (desk_at w u)) _ _ (mark_each w p k l us good is there (λ x h. mine x (inr h))) (good_marked w p u k l good is there (mine u (inl refl)))

pub good_mark : (w : World) (p : ℕ) (k : Call) (l : View) → Good w → phase_at w p ≡ Looked k l → p < length w.phases → Good (record w { desks = mark_first l.version l.seen w.desks })
good_mark w p k l good is there =
    let ok = session w p (Looked k l) good is in
    subst (λ (seen : List Seen). Good (record w { desks = mark_first l.version seen w.desks })) (sym ok.1.seen)
    (mark_each w p k l (plan_units l.plan) good is there (λ u h. plan_held w p u k l ok.0 ok.1 h))

-- Plans on desks, unit by unit.

abbrev moved_at : UnitChange → ℕ → Option MarkedNets → Option MarkedNets
moved_at u x d = if u.unit == x then moved_marked (moves_of u.change) d else d

abbrev unmoved_at : UnitChange → ℕ → Option MarkedNets → Option MarkedNets
unmoved_at u x d = if u.unit == x then moved_marked (opposite (moves_of u.change)) d else d

abbrev planned_at : Plan → ℕ → Option MarkedNets → Option MarkedNets
planned_at Nothing x d = d
planned_at (One u) x d = moved_at u x d
planned_at (Two u v) x d = moved_at v x (moved_at u x d)

abbrev unplanned_at : Plan → ℕ → Option MarkedNets → Option MarkedNets
unplanned_at Nothing x d = d
unplanned_at (One u) x d = unmoved_at u x d
unplanned_at (Two u v) x d = unmoved_at u x (unmoved_at v x d)

set_by : (desks : List (Option MarkedNets)) (n x : ℕ) (f : Option MarkedNets → Option MarkedNets) → n < length desks → get_or (set desks n (f (get_or desks n None))) x None ≡ (if n == x then f (get_or desks x None) else get_or desks x None)
set_by desks n x f inside = ⊎_elim
    (λ (e : n ≡ x). subst (λ (i : ℕ). get_or (set desks n (f (get_or desks n None))) i None ≡ (if n == i then f (get_or desks i None) else get_or desks i None)) e
    (get_or-set_same desks n (f (get_or desks n None)) None inside ∙ sym (ap (λ (b : Bool). if b then f (get_or desks n None) else get_or desks n None) (eq-eqb n n refl))))
    (λ (m : n ≢ x). get_or-set_other desks n x (f (get_or desks n None)) None (λ (e : x ≡ n). m (sym e)) ∙ sym (ap (λ (b : Bool). if b then f (get_or desks x None) else get_or desks x None) (ne_eqb n x m)))
    (cases_eq n x)

with_at : (u : UnitChange) (desks : List (Option MarkedNets)) (x : ℕ) → u.unit < length desks → get_or (desks_with u desks) x None ≡ moved_at u x (get_or desks x None)
with_at u desks x inside = set_by desks u.unit x (moved_marked (moves_of u.change)) inside

without_at : (u : UnitChange) (desks : List (Option MarkedNets)) (x : ℕ) → u.unit < length desks → get_or (desks_without u desks) x None ≡ unmoved_at u x (get_or desks x None)
without_at u desks x inside = set_by desks u.unit x (moved_marked (opposite (moves_of u.change))) inside

-- each unit of the plan has a desk
abbrev Inside : List (Option MarkedNets) → Plan → Type 0
Inside desks plan = (u : ℕ) → IsAmong u (plan_units plan) → u < length desks

pub in_two : (b : Bool) (u v : ℕ) → IsAmong u (if b then v ∷ u ∷ [] else u ∷ v ∷ []) × IsAmong v (if b then v ∷ u ∷ [] else u ∷ v ∷ [])
in_two true u v = (inr (inl refl), inl refl)
in_two false u v = (inl refl, inr (inl refl))

pub planned_desk : (plan : Plan) (desks : List (Option MarkedNets)) (x : ℕ) → Inside desks plan → get_or (planned_desks plan desks) x None ≡ planned_at plan x (get_or desks x None)
planned_desk Nothing desks x inside = refl
planned_desk (One u) desks x inside = with_at u desks x (inside u.unit (inl refl))
planned_desk (Two u v) desks x inside =
    let both = in_two (nat_lt v.unit u.unit) u.unit v.unit in
    let second = inside v.unit both.1 in
    with_at v (desks_with u desks) x (omega (arith, second, length-set desks u.unit (moved_marked (moves_of u.change) (get_or desks u.unit None))))
    ∙ ap (moved_at v x) (with_at u desks x (inside u.unit both.0))

pub unplanned_desk : (plan : Plan) (desks : List (Option MarkedNets)) (x : ℕ) → Inside desks plan → get_or (unplanned_desks plan desks) x None ≡ unplanned_at plan x (get_or desks x None)
unplanned_desk Nothing desks x inside = refl
unplanned_desk (One u) desks x inside = without_at u desks x (inside u.unit (inl refl))
unplanned_desk (Two u v) desks x inside =
    let both = in_two (nat_lt v.unit u.unit) u.unit v.unit in
    let first = inside u.unit both.0 in
    without_at u (desks_without v desks) x (omega (arith, first, length-set desks v.unit (moved_marked (opposite (moves_of v.change)) (get_or desks v.unit None))))
    ∙ ap (unmoved_at u x) (without_at v desks x (inside v.unit both.1))

pub planned_long : (plan : Plan) (desks : List (Option MarkedNets)) → length (planned_desks plan desks) ≡ length desks
planned_long Nothing desks = refl
planned_long (One u) desks = length-set desks u.unit _
planned_long (Two u v) desks = length-set (desks_with u desks) v.unit _ ∙ length-set desks u.unit _

pub unplanned_long : (plan : Plan) (desks : List (Option MarkedNets)) → length (unplanned_desks plan desks) ≡ length desks
unplanned_long Nothing desks = refl
unplanned_long (One u) desks = length-set desks u.unit _
unplanned_long (Two u v) desks = length-set (desks_without v desks) u.unit _ ∙ length-set desks v.unit _

-- moved back
back_marked : (u : UnitChange) (d : Option MarkedNets) → moved_marked (opposite (moves_of u.change)) (moved_marked (moves_of u.change) d) ≡ d
back_marked u d = ap (λ (s : Shown). s.marked) (desk_back (moves_of u.change) record { unit = 0; marked = d })

back_at : (u : UnitChange) (x : ℕ) (d : Option MarkedNets) → unmoved_at u x (moved_at u x d) ≡ d
back_at u x d = by (u.unit == x)
  where
    by : (b : Bool) → (if b then moved_marked (opposite (moves_of u.change)) (if b then moved_marked (moves_of u.change) d else d) else (if b then moved_marked (moves_of u.change) d else d)) ≡ d
    by true = back_marked u d
    by false = refl

pub unplanned_back : (plan : Plan) (x : ℕ) (d : Option MarkedNets) → unplanned_at plan x (planned_at plan x d) ≡ d
unplanned_back Nothing x d = refl
unplanned_back (One u) x d = back_at u x d
unplanned_back (Two u v) x d = ap (unmoved_at u x) (back_at v x (moved_at u x d)) ∙ back_at u x d

-- the nets that a desk shows are moved as those of the row
abbrev marked : ℕ → UnitNets → Option MarkedNets
marked version nets = Some record { version = version; nets = nets }

moved_nets_at : (u : UnitChange) (x version : ℕ) (nets : UnitNets) → moved_at u x (marked version nets) ≡ marked version (nets_by u x nets)
moved_nets_at u x version nets = by (u.unit == x)
  where
    by : (b : Bool) → (if b then moved_marked (moves_of u.change) (marked version nets) else marked version nets) ≡ marked version (if b then moved_nets u.change nets else nets)
    by true = refl
    by false = refl

pub planned_nets_at : (plan : Plan) (x version : ℕ) (nets : UnitNets) → planned_at plan x (marked version nets) ≡ marked version (planned_nets plan x nets)
planned_nets_at Nothing x version nets = refl
planned_nets_at (One u) x version nets = moved_nets_at u x version nets
planned_nets_at (Two u v) x version nets = ap (moved_at v x) (moved_nets_at u x version nets) ∙ moved_nets_at v x version (nets_by u x nets)

-- a desk of no unit of the plan
other_at : (u : UnitChange) (x : ℕ) (d : Option MarkedNets) → u.unit ≢ x → moved_at u x d ≡ d
other_at u x d n = ap (λ (b : Bool). if b then moved_marked (moves_of u.change) d else d) (ne_eqb u.unit x n)

unmoved_other : (u : UnitChange) (x : ℕ) (d : Option MarkedNets) → u.unit ≢ x → unmoved_at u x d ≡ d
unmoved_other u x d n = ap (λ (b : Bool). if b then moved_marked (opposite (moves_of u.change)) d else d) (ne_eqb u.unit x n)

pub planned_other : (plan : Plan) (x : ℕ) (d : Option MarkedNets) → (IsAmong x (plan_units plan) → ⊥) → planned_at plan x d ≡ d
planned_other Nothing x d n = refl
planned_other (One u) x d n = other_at u x d (λ e. n (inl (sym e)))
planned_other (Two u v) x d n =
    let both = in_two (nat_lt v.unit u.unit) u.unit v.unit in
    let a : u.unit ≢ x = λ (e : u.unit ≡ x). n (subst (λ (i : ℕ). IsAmong i (in_order u.unit v.unit)) e both.0) in
    let b : v.unit ≢ x = λ (e : v.unit ≡ x). n (subst (λ (i : ℕ). IsAmong i (in_order u.unit v.unit)) e both.1) in
    ap (moved_at v x) (other_at u x d a) ∙ other_at v x d b

pub unplanned_other : (plan : Plan) (x : ℕ) (d : Option MarkedNets) → (IsAmong x (plan_units plan) → ⊥) → unplanned_at plan x d ≡ d
unplanned_other Nothing x d n = refl
unplanned_other (One u) x d n = unmoved_other u x d (λ e. n (inl (sym e)))
unplanned_other (Two u v) x d n =
    let both = in_two (nat_lt v.unit u.unit) u.unit v.unit in
    let a : u.unit ≢ x = λ (e : u.unit ≡ x). n (subst (λ (i : ℕ). IsAmong i (in_order u.unit v.unit)) e both.0) in
    let b : v.unit ≢ x = λ (e : v.unit ≡ x). n (subst (λ (i : ℕ). IsAmong i (in_order u.unit v.unit)) e both.1) in
    ap (unmoved_at u x) (unmoved_other v x d b) ∙ unmoved_other u x d a

-- Apply

-- a desk is of the looked version, with the nets of the unit
pub ready : (sets : List Tables) (accounts : List AccountState) (version u : ℕ) (d : Option MarkedNets) → is_of version d ≡ true → IsAtRest sets accounts u d → d ≡ marked version (nets_in (row_of (set_at sets version) accounts u))
ready sets accounts version u None e rests = cc
ready sets accounts version u (Some m) e rests =
    let same : m.version ≡ version = eqb-true m.version version e in
    λ j. Some record { version = same j; nets = (rests.1 ∙ ap (λ (v : ℕ). unit_nets (set_at sets v) accounts u) same) j }

pub seen_of : (version : ℕ) (desks : List (Option MarkedNets)) (t : Tables) (accounts : List AccountState) (us : List ℕ) (u : ℕ) → are_of version desks (map (seen_at t accounts) us) ≡ true → IsAmong u us → is_of version (slice_index_or desks u None) ≡ true
seen_of version desks t accounts [] u e h = absurd h
seen_of version desks t accounts (x ∷ us) u e h =
    let both = both_true (is_of version (slice_index_or desks x None)) (are_of version desks (map (seen_at t accounts) us)) e in
    ⊎_elim (λ (same : u ≡ x). ap (λ (i : ℕ). is_of version (slice_index_or desks i None)) same ∙ both.0) (λ (r : IsAmong u us). seen_of version desks t accounts us u both.1 r) h

planned_has : (sets : List Tables) (accounts : List AccountState) (l : View) (u : ℕ) (d : Option MarkedNets) → d ≡ marked l.version (nets_in (row_of (set_at sets l.version) accounts u)) → HasPlan sets accounts l u (planned_at l.plan u d)
planned_has sets accounts l u d e =
    subst (HasPlan sets accounts l u) (sym (ap (planned_at l.plan u) e ∙ planned_nets_at l.plan u l.version (nets_in (row_of (set_at sets l.version) accounts u)))) (refl, refl)

pub good_applied : (w : World) (p : ℕ) (k : Call) (l : View) → Good w → phase_at w p ≡ Looked k l → p < length w.phases → are_of l.version w.desks l.seen ≡ true → Good (record w { desks = planned_desks l.plan w.desks; phases = slice_set w.phases p (Applied k l) })
good_applied w p k l good is there all_of =
    good_desks w p (Applied k l) (planned_desks l.plan w.desks) good there (planned_long l.plan w.desks) ok
    (λ u e.
    let h = held_planned w p u k l ok.0 ok.1 e in
    subst (HasPlan w.sets w.state.accounts l u) (sym (planned_desk l.plan w.desks u inside))
    (planned_has w.sets w.state.accounts l u (desk_at w u)
    (ready w.sets w.state.accounts l.version u (desk_at w u) (seen_of l.version w.desks (set_at w.sets l.version) w.state.accounts (plan_units l.plan) u (subst (λ (seen : List Seen). are_of l.version w.desks seen ≡ true) ok.1.seen all_of) h)
    (held_desk w p u (Looked k l) good is e))))
    (λ u n. planned_desk l.plan w.desks u inside ∙ planned_other l.plan u (desk_at w u) (λ h. n (plan_held w p u k l ok.0 ok.1 h)))
  where
    ok : Owns w.locks w.state p k.command × Sees w.sets w.state k l
    ok = session w p (Looked k l) good is

    inside : Inside w.desks l.plan
    inside u h = desk_inside w p u good (plan_held w p u k l ok.0 ok.1 h)

-- Back

unplanned_rests : (sets : List Tables) (accounts : List AccountState) (l : View) (u : ℕ) (d : Option MarkedNets) → l.version < length sets → HasPlan sets accounts l u d → IsAtRest sets accounts u (unplanned_at l.plan u d)
unplanned_rests sets accounts l u None there has = absurd has
unplanned_rests sets accounts l u (Some m) there has =
    let nets = nets_in (row_of (set_at sets l.version) accounts u) in
    let now : Some m ≡ marked l.version (planned_nets l.plan u nets) = λ j. Some record { version = has.0 j; nets = has.1 j } in
    subst (IsAtRest sets accounts u) (sym (ap (unplanned_at l.plan u) (now ∙ sym (planned_nets_at l.plan u l.version nets)) ∙ unplanned_back l.plan u (marked l.version nets))) (there, refl)

pub good_backed : (w : World) (p : ℕ) (k : Call) (l : View) (again : Bool) → Good w → phase_at w p ≡ Failed k l again → p < length w.phases
    → Good (record w { desks = unplanned_desks l.plan w.desks; phases = slice_set w.phases p (if again then Held k else Ended k) })
good_backed w p k l again good is there = by again is
  where
    by : (b : Bool) → phase_at w p ≡ Failed k l b → Good (record w { desks = unplanned_desks l.plan w.desks; phases = slice_set w.phases p (if b then Held k else Ended k) })
    by b is = good_desks w p (if b then Held k else Ended k) (unplanned_desks l.plan w.desks) good there (unplanned_long l.plan w.desks) (after b is)
        (λ u e. rests b u (subst (IsAtRest w.sets w.state.accounts u) (sym (unplanned_desk l.plan w.desks u inside))
        (unplanned_rests w.sets w.state.accounts l u (desk_at w u) (view_inside w.sets w.state k l good.replayed.shown ok.1) (held_desk w p u (Failed k l b) good is e))))
        (λ u n. unplanned_desk l.plan w.desks u inside ∙ unplanned_other l.plan u (desk_at w u) (λ h. n (plan_held w p u k l ok.0 ok.1 h)))
      where
        ok : Owns w.locks w.state p k.command × Sees w.sets w.state k l × IsPassed b l.version w.state.version
        ok = session w p (Failed k l b) good is

        inside : Inside w.desks l.plan
        inside u h = desk_inside w p u good (plan_held w p u k l ok.0 ok.1 h)

        after : (b : Bool) → phase_at w p ≡ Failed k l b → PhaseOf w.sets w.state w.locks p (if b then Held k else Ended k)
        after true is = let x = session w p (Failed k l true) good is in (x.0, omega (arith, x.1.looks, x.2))
        after false is = let x = session w p (Failed k l false) good is in (x.0, omega (arith, x.1.looks, x.1.version))

        rests : (b : Bool) (u : ℕ) → IsAtRest w.sets w.state.accounts u (slice_index_or (unplanned_desks l.plan w.desks) u None) → HeldDesk w.sets w.state.accounts u (slice_index_or (unplanned_desks l.plan w.desks) u None) (if b then Held k else Ended k)
        rests true u h = h
        rests false u h = h
