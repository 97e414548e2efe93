-- Desks that can take a plan, and give it back: for `apply` and `back`.
use Rattle.std.proofs.Common.{◌≡◌, ◌≢◌, ◌<◌, ◌∙◌, inl, ⊎_elim, ℕ, zero, suc, Bool, true, All, Option, None, Some, List, [], ◌∷◌, length, map, sym, ap, subst, refl, arith, ne_eqb}
use Rattle.std.specs.Prelude.{if◌then◌else◌, nat_lt}
use Rattle.std.proofs.lemmas.Bool.{cases_eq, eq-eqb}
use Rattle.mgn_params.specs.Shelves.{set_at}
use Rattle.mgn_params.specs.Tables.{Tables}
use Rattle.mgn_nets.specs.Portfolios.{AreUnitNets, UnitNets}
use Rattle.mgn_desk.specs.Desks.{MarkedNets}
use Rattle.mgn_desk.specs.Portfolios.{moved_by, opposite}
use Rattle.mgn_machine.specs.State.{AccountState}
use Rattle.mgn_unit.specs.declared.change.Change.{Change}
use Rattle.mgn_unit.specs.Rows.{nets_in, row_of}
use Rattle.mgn_plan.specs.declared.plans.Plan.{Plan}
use Rattle.mgn_plan.specs.declared.plans.Plan.TheVariants.{Nothing, One, Two}
use Rattle.mgn_plan.specs.declared.plans.UnitChange.{UnitChange}
use Rattle.mgn_plan.specs.Plans.{moved_nets, nets_by, planned_nets}
use Rattle.mgn_pricing.specs.Desks.{moves_of}
use Rattle.mgn_pricing.proofs.Moved.{net-back}
use Rattle.mgn_world.specs.Claims.{HasPlan, IsAmong}
use Rattle.mgn_world.specs.declared.phases.Call.{Call}
use Rattle.mgn_world.specs.declared.phases.Phase.TheVariants.{Looked, Failed}
use Rattle.mgn_world.specs.DeskMoves.{AreReadyFor, CanGiveBack, IsReadyFor}
use Rattle.mgn_world.specs.Phases.{View}
use Rattle.mgn_world.specs.declared.phases.Seen.{Seen}
use Rattle.mgn_world.specs.Standing.{Good}
use Rattle.mgn_world.specs.World.{World, are_of, desk_at, phase_at, plan_units, planned, seen_at, unit_nets}
use Rattle.mgn_world.specs.Worlds.{CanFollow, CanFollowPlan, IsSeen, nets_seen}
use Rattle.mgn_world.proofs.Desks.{in_two, plan_held, ready, seen_of}
use Rattle.mgn_world.proofs.Said.{failed_plan}
use Rattle.mgn_world.proofs.Simple.{held_desk, session}

-- The nets that were looked at are those of the units.

pub nets_of_seen : (t : Tables) (accounts : List AccountState) (us : List ℕ) (u : ℕ) → IsAmong u us → nets_seen (map (seen_at t accounts) us) u ≡ unit_nets t accounts u
nets_of_seen t accounts [] u h = absurd h
nets_of_seen t accounts (x ∷ us) u h = ⊎_elim
    (λ (e : x ≡ u). ap (λ (b : Bool). if b then unit_nets t accounts x else nets_seen (map (seen_at t accounts) us) u) (eq-eqb x u e) ∙ ap (unit_nets t accounts) e)
    (λ (n : x ≢ u). ap (λ (b : Bool). if b then unit_nets t accounts x else nets_seen (map (seen_at t accounts) us) u) (ne_eqb x u n)
    ∙ nets_of_seen t accounts us u (⊎_elim (λ (e : u ≡ x). absurd (n (sym e))) (λ (r : IsAmong u us). r) h))
    (cases_eq x u)

all_of_seen : (P : Seen → Type 0) (t : Tables) (accounts : List AccountState) (us : List ℕ) (u : ℕ) → IsAmong u us → All P (map (seen_at t accounts) us) → P (seen_at t accounts u)
all_of_seen P t accounts [] u h all = absurd h
all_of_seen P t accounts (x ∷ us) u h all = ⊎_elim
    (λ (e : u ≡ x). subst (λ (i : ℕ). P (seen_at t accounts i)) (sym e) (all zero (seen_at t accounts x) (omega arith)))
    (λ (r : IsAmong u us). all_of_seen P t accounts us u r (λ i d inside. all (suc i) d (omega (arith, inside))))
    h

-- Apply

ready_at : (w : World) (p : ℕ) (k : Call) (l : View) (u : ℕ) → Good w → phase_at w p ≡ Looked k l → are_of l.version w.desks l.seen ≡ true → IsAmong u (plan_units l.plan) → desk_at w u ≡ Some record { version = l.version; nets = unit_nets (set_at w.sets l.version) w.state.accounts u }
ready_at w p k l u good is of among =
    let ok = session w p (Looked k l) good is in
    let t = set_at w.sets l.version in
    ready w.sets w.state.accounts l.version u (desk_at w u)
    (seen_of l.version w.desks t w.state.accounts (plan_units l.plan) u (sym (ap (are_of l.version w.desks) ok.1.seen) ∙ of) among)
    (held_desk w p u (Looked k l) good is (plan_held w p u k l ok.0 ok.1 among))

can_take : (t : Tables) (version : ℕ) (change : Change) (nets : UnitNets) (d : Option MarkedNets) → d ≡ Some record { version = version; nets = nets } → CanFollow t change nets → IsReadyFor t version (moves_of change) d
can_take t version change nets d e follow = subst (IsReadyFor t version (moves_of change)) (sym e) record { under = refl; contract = follow.contract; moved = follow.moved }

pub apply_ready : (w : World) (p units : ℕ) (k : Call) (l : View) → Good w → phase_at w p ≡ Looked k l → IsSeen w.sets units l → are_of l.version w.desks l.seen ≡ true → AreReadyFor (set_at w.sets l.version) l.version l.plan w.desks
apply_ready w p units k l good is seen of = by l.plan refl seen.plan
  where
    t : Tables
    t = set_at w.sets l.version

    one : (u : UnitChange) → IsAmong u.unit (plan_units l.plan) → CanFollow t u.change (nets_seen l.seen u.unit) → IsReadyFor t l.version (moves_of u.change) (desk_at w u.unit)
    one u among follow =
        let ok = session w p (Looked k l) good is in
        can_take t l.version u.change (unit_nets t w.state.accounts u.unit) (desk_at w u.unit) (ready_at w p k l u.unit good is of among)
        (subst (CanFollow t u.change) (ap (λ (xs : List Seen). nets_seen xs u.unit) ok.1.seen ∙ nets_of_seen t w.state.accounts (plan_units l.plan) u.unit among) follow)

    by : (plan : Plan) → l.plan ≡ plan → CanFollowPlan t l.seen plan → AreReadyFor t l.version plan w.desks
    by Nothing e follow = tt
    by (One u) e follow = one u (subst (λ (x : Plan). IsAmong u.unit (plan_units x)) (sym e) (inl refl)) follow
    by (Two u v) e follow =
        let both = in_two (nat_lt v.unit u.unit) u.unit v.unit in (
          one u (subst (λ (x : Plan). IsAmong u.unit (plan_units x)) (sym e) both.0) follow.0,
          one v (subst (λ (x : Plan). IsAmong v.unit (plan_units x)) (sym e) both.1) follow.1,
          follow.2,
        )

-- Back

can_give : (t : Tables) (version : ℕ) (change : Change) (nets : UnitNets) (d : Option MarkedNets) → d ≡ Some record { version = version; nets = moved_by (moves_of change) nets } → AreUnitNets t nets → change.contract < length t.contracts → IsReadyFor t version (opposite (moves_of change)) d
can_give t version change nets d e are inside = subst (IsReadyFor t version (opposite (moves_of change))) (sym e) record {
  under = refl;
  contract = inside;
  moved = record {
    lots = net-back nets.lots change.contract change.lots.quantity (omega (arith, inside, are.lots.one_each)) are.lots.small;
    buys = net-back nets.buys change.contract change.buys.quantity (omega (arith, inside, are.buys.one_each)) are.buys.small;
    sales = net-back nets.sales change.contract change.sales.quantity (omega (arith, inside, are.sales.one_each)) are.sales.small;
    all = net-back nets.all change.contract change.all.quantity (omega (arith, inside, are.all.one_each)) are.all.small;
  };
}

pub own_nets : (u : UnitChange) (nets : UnitNets) → nets_by u u.unit nets ≡ moved_nets u.change nets
own_nets u nets = ap (λ (b : Bool). if b then moved_nets u.change nets else nets) (eq-eqb u.unit u.unit refl)

pub other_nets : (u : UnitChange) (x : ℕ) (nets : UnitNets) → u.unit ≢ x → nets_by u x nets ≡ nets
other_nets u x nets n = ap (λ (b : Bool). if b then moved_nets u.change nets else nets) (ne_eqb u.unit x n)

pub has_nets : (sets : List Tables) (accounts : List AccountState) (l : View) (u : ℕ) (d : Option MarkedNets) (nets : UnitNets) → HasPlan sets accounts l u d → planned l.plan (set_at sets l.version) accounts u ≡ nets → d ≡ Some record { version = l.version; nets = nets }
has_nets sets accounts l u None nets h e = absurd h
has_nets sets accounts l u (Some m) nets h e = λ j. Some record { version = h.0 j; nets = (h.1 ∙ e) j }

pub back_ready : (w : World) (p units : ℕ) (k : Call) (l : View) (again : Bool) → Good w → phase_at w p ≡ Failed k l again → IsSeen w.sets units l → CanGiveBack (set_at w.sets l.version) l.version l.plan w.desks
back_ready w p units k l again good is seen = by l.plan refl seen.plan
  where
    t : Tables
    t = set_at w.sets l.version

    row_nets : ℕ → UnitNets
    row_nets u = nets_in (row_of t w.state.accounts u)

    are : (u : ℕ) → IsAmong u (plan_units l.plan) → AreUnitNets t (unit_nets t w.state.accounts u)
    are u among =
        let ok = session w p (Failed k l again) good is in
        all_of_seen (λ (x : Seen). AreUnitNets t x.nets) t w.state.accounts (plan_units l.plan) u among (subst (All (λ (x : Seen). AreUnitNets t x.nets)) ok.1.seen seen.nets)

    one : (u : UnitChange) → IsAmong u.unit (plan_units l.plan) → planned_nets l.plan u.unit (row_nets u.unit) ≡ moved_nets u.change (row_nets u.unit) → CanFollow t u.change (nets_seen l.seen u.unit) → IsReadyFor t l.version (opposite (moves_of u.change)) (desk_at w u.unit)
    one u among nets follow =
        can_give t l.version u.change (unit_nets t w.state.accounts u.unit) (desk_at w u.unit)
        (has_nets w.sets w.state.accounts l u.unit (desk_at w u.unit) (moved_by (moves_of u.change) (unit_nets t w.state.accounts u.unit)) (failed_plan w p u.unit k l again good is among) nets)
        (are u.unit among) follow.contract

    by : (plan : Plan) → l.plan ≡ plan → CanFollowPlan t l.seen plan → CanGiveBack t l.version plan w.desks
    by Nothing e follow = tt
    by (One u) e follow = one u (subst (λ (x : Plan). IsAmong u.unit (plan_units x)) (sym e) (inl refl)) (ap (λ (x : Plan). planned_nets x u.unit (row_nets u.unit)) e ∙ own_nets u (row_nets u.unit)) follow
    by (Two u v) e follow =
        let both = in_two (nat_lt v.unit u.unit) u.unit v.unit in (
          one u (subst (λ (x : Plan). IsAmong u.unit (plan_units x)) (sym e) both.0) (ap (λ (x : Plan). planned_nets x u.unit (row_nets u.unit)) e ∙ other_nets v u.unit _ follow.2 ∙ own_nets u (row_nets u.unit)) follow.0,
          one v (subst (λ (x : Plan). IsAmong v.unit (plan_units x)) (sym e) both.1) (ap (λ (x : Plan). planned_nets x v.unit (row_nets v.unit)) e ∙ ap (nets_by v v.unit) (other_nets u v.unit (row_nets v.unit) (λ (same : u.unit ≡ v.unit). follow.2 (sym same))) ∙ own_nets v (row_nets v.unit)) follow.1,
          follow.2,
        )
