-- What a Begin and a Look of the kept world come to.
use Rattle.std.proofs.Common.{◌≡◌, ◌≢◌, ◌<◌, ◌+◌, ◌∙◌, ◌⊎◌, Ok, Err, OnOk, inl, inr, ⊎_elim, ℕ, zero, suc, Bool, true, false, All, Some, List, [], ◌∷◌, length, map, sym, ap, subst, refl, arith, Result}
use Rattle.std.specs.Prelude.{if◌then◌else◌, nat_lt, slice_index_or, slice_set}
use Rattle.std.specs.List.{slice_get}
use Rattle.mgn_params.specs.Shelves.{set_at}
use Rattle.mgn_params.specs.Tables.{Tables}
use Rattle.mgn_nets.specs.Portfolios.{AreUnitNets}
use Rattle.mgn_machine.specs.declared.command.Command.{Command}
use Rattle.mgn_machine.specs.State.{AccountState, State}
use Rattle.mgn_unit.specs.declared.row.Row.{Row}
use Rattle.mgn_unit.specs.Rows.{nets_in, no_row}
use Rattle.mgn_unit.proofs.RowNets.{row-nets}
use Rattle.mgn_register.specs.BookStates.{BookState, IsKept}
use Rattle.mgn_plan.specs.declared.plans.Plan.{Plan}
use Rattle.mgn_plan.specs.declared.plans.Plan.TheVariants.{Nothing, One, Two}
use Rattle.mgn_plan.specs.declared.plans.UnitChange.{UnitChange}
use Rattle.mgn_plan.specs.Plans.{CanChange, IsPossible, plan_of, row_at}
use Rattle.mgn_pricing.proofs.Moved.{net-moved}
use Rattle.mgn_world.specs.Claims.{IsAmong}
use Rattle.mgn_world.specs.declared.phases.Call.{Call}
use Rattle.mgn_world.specs.declared.phases.Phase.{Phase}
use Rattle.mgn_world.specs.declared.phases.Phase.TheVariants.{Held, Looked}
use Rattle.mgn_world.specs.declared.phases.Seen.{Seen}
use Rattle.mgn_world.specs.World.{World, in_force, look_on, looks, phase_at, plan_units, seen_at, unit_nets, units_of}
use Rattle.mgn_world.specs.Worlds.{CanFollow, CanFollowPlan, IsSeen, nets_seen, row_nets, seen_in}
use Rattle.mgn_world.proofs.Desks.{in_two}
use Rattle.mgn_world.proofs.Ready.{nets_of_seen}
use Rattle.mgn_world.proofs.Stays.{plan_units-are}

pub ok_always : {T E P : Type 0} (r : Result T E) → P → OnOk r P
ok_always (Ok x) p = p
ok_always (Err e) p = tt

-- Begin

pub planless : (t : Tables) (s : State) (c : Command) → units_of s c ≡ [] → plan_of t s c ≡ Nothing
planless t s c none = by (plan_of t s c) refl
  where
    nobody : (plan : Plan) (u : ℕ) → plan_of t s c ≡ plan → plan ≢ Nothing → IsAmong u (plan_units plan) → plan ≡ Nothing
    nobody plan u e some among =
        let same = plan_units-are t s c (λ (x : plan_of t s c ≡ Nothing). some (sym e ∙ x)) in
        absurd (subst (IsAmong u) none (same.into u (subst (λ (x : Plan). IsAmong u (plan_units x)) (sym e) among)))

    by : (plan : Plan) → plan_of t s c ≡ plan → plan_of t s c ≡ Nothing
    by Nothing e = e
    by (One u) e = e ∙ nobody (One u) u.unit e (λ x. cc) (inl refl)
    by (Two u v) e = e ∙ nobody (Two u v) u.unit e (λ x. cc) (in_two (nat_lt v.unit u.unit) u.unit v.unit).0

-- Look

pub looks_is : (w : World) (p : ℕ) (k : Call) (plan : Plan) (seen : List Seen) (phases : List Phase) → phase_at w p ≡ Held k → plan ≡ plan_of (in_force w) w.state k.command → plan ≢ Nothing → seen ≡ map (seen_at (in_force w) w.state.accounts) (plan_units plan)
    → phases ≡ slice_set w.phases p (Looked record { command = k.command; began = k.began; looks = k.looks + 1 } record { version = w.state.version; plan = plan; seen = seen }) → record w { phases = phases } ≡ looks w p (phase_at w p)
looks_is w p k plan seen phases is of some saw put =
    (λ j. record w { phases = put j })
    ∙ (λ j. record w { phases = slice_set w.phases p (Looked record { command = k.command; began = k.began; looks = k.looks + 1 } record { version = w.state.version; plan = plan; seen = saw j }) })
    ∙ by plan some
    ∙ ap (look_on w p k) of ∙ ap (looks w p) (sym is)
  where
    by : (x : Plan) → x ≢ Nothing → record w { phases = slice_set w.phases p (Looked record { command = k.command; began = k.began; looks = k.looks + 1 } record { version = w.state.version; plan = x; seen = map (seen_at (in_force w) w.state.accounts) (plan_units x) }) } ≡ look_on w p k x
    by Nothing n = absurd (n refl)
    by (One u) n = refl
    by (Two u v) n = refl

-- The units of a plan with the nets of their rows.

slice_get_is : {X : Type 0} (xs : List X) (u : ℕ) (d : X) → u < length xs → slice_get xs u ≡ Some (slice_index_or xs u d)
slice_get_is [] u d inside = absurd (omega (arith, inside))
slice_get_is (x ∷ xs) zero d inside = refl
slice_get_is (x ∷ xs) (suc u) d inside = slice_get_is xs u d (omega (arith, inside))

pub seen_row : (t : Tables) (b : BookState) (u : ℕ) → IsKept t b → u < length b.rows → seen_in b.rows u ≡ seen_at t b.state.accounts u
seen_row t b u kept inside =
    let row = slice_index_or b.rows u (no_row t) in
    (λ j. record { unit = u; nets = row_nets (slice_get_is b.rows u (no_row t) inside j) })
    ∙ (λ j. record { unit = u; nets = nets_in ((kept.rows u (no_row t) inside).is j) })

all_rows : (t : Tables) (b : BookState) (us : List ℕ) → IsKept t b → ((u : ℕ) → IsAmong u us → u < length b.rows) → map (seen_in b.rows) us ≡ map (seen_at t b.state.accounts) us
all_rows t b [] kept inside = refl
all_rows t b (u ∷ us) kept inside = λ j. seen_row t b u kept (inside u (inl refl)) j ∷ all_rows t b us kept (λ x h. inside x (inr h)) j

-- the units of a possible plan are there
pub order_in : (c : Bool) (u v x : ℕ) → IsAmong x (if c then v ∷ u ∷ [] else u ∷ v ∷ []) → (x ≡ u) ⊎ (x ≡ v)
order_in true u v x (inl e) = inr e
order_in true u v x (inr (inl e)) = inl e
order_in true u v x (inr (inr h)) = absurd h
order_in false u v x (inl e) = inl e
order_in false u v x (inr (inl e)) = inr e
order_in false u v x (inr (inr h)) = absurd h

pub plan_inside : (t : Tables) (rows : List Row) (plan : Plan) (x : ℕ) → IsPossible t rows plan → IsAmong x (plan_units plan) → x < length rows
plan_inside t rows Nothing x can h = absurd h
plan_inside t rows (One u) x can (inl e) = subst (λ (i : ℕ). i < length rows) (sym e) can.inside
plan_inside t rows (One u) x can (inr h) = absurd h
plan_inside t rows (Two u v) x can h = ⊎_elim
    (λ (e : x ≡ u.unit). subst (λ (i : ℕ). i < length rows) (sym e) can.0.inside)
    (λ (e : x ≡ v.unit). subst (λ (i : ℕ). i < length rows) (sym e) can.1.inside)
    (order_in (nat_lt v.unit u.unit) u.unit v.unit x h)

pub seen_all : (t : Tables) (b : BookState) (plan : Plan) → IsKept t b → IsPossible t b.rows plan → map (seen_in b.rows) (plan_units plan) ≡ map (seen_at t b.state.accounts) (plan_units plan)
seen_all t b plan kept can = all_rows t b (plan_units plan) kept (λ x h. plan_inside t b.rows plan x can h)

-- What was looked at is within the limits.

follow_of : (t : Tables) (b : BookState) (u : UnitChange) → IsKept t b → CanChange t b.rows u → CanFollow t u.change (unit_nets t b.state.accounts u.unit)
follow_of t b u kept can =
    let row = row_at t b.rows u.unit in
    let is = can.row in
    subst (λ (r : Row). CanFollow t u.change (nets_in r)) ((kept.rows u.unit (no_row t) can.inside).is) record {
      contract = can.change.contract;
      moved = record {
        lots = net-moved row.lots.nets u.change.contract u.change.lots.quantity (omega (arith, is.lots.one_each, can.change.contract)) can.roomy.lots;
        buys = net-moved row.buys.nets u.change.contract u.change.buys.quantity (omega (arith, is.buys.one_each, can.change.contract)) can.roomy.buys;
        sales = net-moved row.sales.nets u.change.contract u.change.sales.quantity (omega (arith, is.sales.one_each, can.change.contract)) can.roomy.sales;
        all = net-moved row.all.nets u.change.contract u.change.all.quantity (omega (arith, is.all.one_each, can.change.contract)) can.roomy.all;
      };
    }

all_seen : (P : Seen → Type 0) (t : Tables) (accounts : List AccountState) (us : List ℕ) → ((u : ℕ) → IsAmong u us → P (seen_at t accounts u)) → All P (map (seen_at t accounts) us)
all_seen P t accounts [] h i d inside = absurd (omega (arith, inside))
all_seen P t accounts (u ∷ us) h zero d inside = h u (inl refl)
all_seen P t accounts (u ∷ us) h (suc i) d inside = all_seen P t accounts us (λ x k. h x (inr k)) i d (omega (arith, inside))

pub seen_sound : (sets : List Tables) (units : ℕ) (b : BookState) (plan : Plan) (seen : List Seen) → length sets ≡ b.state.version + 1 → units ≡ length b.rows → IsKept (set_at sets b.state.version) b → IsPossible (set_at sets b.state.version) b.rows plan → seen ≡ map (seen_at (set_at sets b.state.version) b.state.accounts) (plan_units plan)
    → IsSeen sets units record { version = b.state.version; plan = plan; seen = seen }
seen_sound sets units b plan seen shown long kept can saw = record {
  inside = omega (arith, shown);
  there = subst (All (λ (x : Seen). x.unit < units)) (sym saw) (all_seen (λ (x : Seen). x.unit < units) t b.state.accounts (plan_units plan) (λ u h. let less = plan_inside t b.rows plan u can h in omega (arith, less, long)));
  nets = subst (All (λ (x : Seen). AreUnitNets t x.nets)) (sym saw) (all_seen (λ (x : Seen). AreUnitNets t x.nets) t b.state.accounts (plan_units plan)
      (λ u h. let kr = kept.rows u (no_row t) (plan_inside t b.rows plan u can h) in subst (λ (r : Row). AreUnitNets t (nets_in r)) kr.is (row-nets t _ kr.limits)));
  plan = by plan can saw;
}
  where
    t : Tables
    t = set_at sets b.state.version

    one : (x : Plan) (u : UnitChange) → IsAmong u.unit (plan_units x) → CanChange t b.rows u → seen ≡ map (seen_at t b.state.accounts) (plan_units x) → CanFollow t u.change (nets_seen seen u.unit)
    one x u among c saw = subst (CanFollow t u.change) (sym (ap (λ (xs : List Seen). nets_seen xs u.unit) saw ∙ nets_of_seen t b.state.accounts (plan_units x) u.unit among)) (follow_of t b u kept c)

    by : (x : Plan) → IsPossible t b.rows x → seen ≡ map (seen_at t b.state.accounts) (plan_units x) → CanFollowPlan t seen x
    by Nothing c saw = tt
    by (One u) c saw = one (One u) u (inl refl) c saw
    by (Two u v) c saw =
        let both = in_two (nat_lt v.unit u.unit) u.unit v.unit in
        (one (Two u v) u both.0 c.0 saw, one (Two u v) v both.1 c.1 saw, c.2)
