-- What a step of one session leaves alone.
use Rattle.std.proofs.Common.{◌≡◌, ◌≢◌, ◌<◌, ◌≤◌, ◌+◌, ◌∙◌, ◌⊎◌, inl, inr, ⊎_elim, ℕ, Bool, true, false, All, Option, None, Some, List, [], ◌∷◌, length, map, sym, ap, subst, refl, arith}
use Rattle.std.specs.Prelude.{slice_index_or}
use Rattle.std.proofs.lemmas.Bool.{cases_eq}
use Rattle.mgn_params.specs.Limits.{IsWithinLimits}
use Rattle.mgn_params.specs.Shelves.{set_at}
use Rattle.mgn_params.specs.Tables.{Tables}
use Rattle.mgn_desk.specs.Desks.{MarkedNets}
use Rattle.mgn_machine.specs.declared.command.Command.{Command}
use Rattle.mgn_machine.specs.Refusals.{IsKnown}
use Rattle.mgn_machine.specs.State.{AccountState, State}
use Rattle.mgn_plan.specs.declared.plans.Plan.{Plan}
use Rattle.mgn_plan.specs.Plans.{plan_of, planned_nets}
use Rattle.mgn_world.specs.Claims.{HasPlan, IsAmong, IsReplayed, IsAtRest, before_close}
use Rattle.mgn_world.specs.declared.phases.Call.{Call}
use Rattle.mgn_world.specs.declared.phases.Phase.{Phase}
use Rattle.mgn_world.specs.declared.phases.Phase.TheVariants.{Idle, Held, Looked, Applied, Failed, Ended, Gathered}
use Rattle.mgn_world.specs.Phases.{View}
use Rattle.mgn_world.specs.World.{World, desk_at, in_force, lock_at, phase_at, plan_units, planned, seen_at, unit_nets, units_of}
use Rattle.mgn_world.specs.Standing.{DeskOf, Good, HeldDesk, IsHoused, IsPassed, Owns, PhaseOf, Sees}
use Rattle.mgn_world.proofs.Stays.{SameUnits, plan_stays, plan_units-are, units_before, units_stay}
use Rattle.mgn_world.proofs.Twins.{Keeps, nets-kept}

-- what a step of the session at place p does to the others: what they see and hold stays, and versions only grow
pub record Change (w v : World) (p : ℕ) : Type 0 where
  pub version : w.state.version ≤ v.state.version
  pub sets_long : length w.sets ≤ length v.sets
  pub sets : (i : ℕ) → i < length w.sets → set_at v.sets i ≡ set_at w.sets i
  pub phases : (q : ℕ) → q ≢ p → phase_at v q ≡ phase_at w q
  pub locks : (u q : ℕ) → q ≢ p → lock_at w u ≡ Some q → lock_at v u ≡ Some q
  pub locks_back : (u q : ℕ) → q ≢ p → lock_at v u ≡ Some q → lock_at w u ≡ Some q
  pub rest : (u : ℕ) → lock_at w u ≢ Some p → lock_at v u ≢ Some p → (lock_at v u ≡ lock_at w u) × (desk_at v u ≡ desk_at w u)
  pub kept : Keeps (λ u. lock_at w u ≢ Some p) w.state.accounts v.state.accounts

pub some_same : (q p : ℕ) (o : Option ℕ) → o ≡ Some q → o ≡ Some p → q ≡ p
some_same q p o a b = cc

pub some_none : {X : Type 0} (p : ℕ) (o : Option ℕ) → o ≡ None → o ≡ Some p → X
some_none p o a b = cc

pub holder : (o : Option ℕ) (p : ℕ) → (o ≡ Some p) ⊎ (o ≢ Some p)
holder None p = inr (λ (e : None ≡ Some p). absurd (cc))
holder (Some q) p = ⊎_elim (λ (e : q ≡ p). inl (ap (λ (n : ℕ). Some n) e)) (λ (n : q ≢ p). inr (λ (e : Some q ≡ Some p). n (some_same q p (Some q) refl e))) (cases_eq q p)

-- Desks.

-- what a plan makes of the nets is told by the nets alone
pub planned_same : (plan : Plan) (t t' : Tables) (xs ys : List AccountState) (u : ℕ) → unit_nets t' ys u ≡ unit_nets t xs u → planned plan t' ys u ≡ planned plan t xs u
planned_same plan t t' xs ys u e = ap (planned_nets plan u) e

pub rests_kept : (M : ℕ → Type 0) (sets now : List Tables) (xs ys : List AccountState) (u : ℕ) (d : Option MarkedNets) → length sets ≤ length now → ((i : ℕ) → i < length sets → set_at now i ≡ set_at sets i) → M u → Keeps M xs ys → IsAtRest sets xs u d → IsAtRest now ys u d
rests_kept M sets now xs ys u None long same alone keeps rests = tt
rests_kept M sets now xs ys u (Some m) long same alone keeps rests = (
  omega (arith, rests.0, long),
  rests.1 ∙ sym (nets-kept M (set_at sets m.version) u xs ys alone keeps) ∙ ap (λ (t : Tables). unit_nets t ys u) (sym (same m.version rests.0)),
)

-- where no net of the unit changed
pub rests_same : (sets : List Tables) (xs ys : List AccountState) (u : ℕ) (d : Option MarkedNets) → ((t : Tables) → unit_nets t ys u ≡ unit_nets t xs u) → IsAtRest sets xs u d → IsAtRest sets ys u d
rests_same sets xs ys u None same rests = tt
rests_same sets xs ys u (Some m) same rests = (rests.0, rests.1 ∙ sym (same (set_at sets m.version)))

pub plan_kept : (M : ℕ → Type 0) (sets now : List Tables) (xs ys : List AccountState) (l : View) (u : ℕ) (d : Option MarkedNets) → l.version < length sets → ((i : ℕ) → i < length sets → set_at now i ≡ set_at sets i) → M u → Keeps M xs ys → HasPlan sets xs l u d → HasPlan now ys l u d
plan_kept M sets now xs ys l u None there same alone keeps has = has
plan_kept M sets now xs ys l u (Some m) there same alone keeps has = (
  has.0,
  has.1 ∙ sym (planned_same l.plan (set_at sets l.version) (set_at now l.version) xs ys u
      (ap (λ (t : Tables). unit_nets t ys u) (same l.version there) ∙ nets-kept M (set_at sets l.version) u xs ys alone keeps)),
)

pub view_inside : (sets : List Tables) (s : State) (k : Call) (l : View) → length sets ≡ s.version + 1 → Sees sets s k l → l.version < length sets
view_inside sets s k l shown sees = omega (arith, shown, sees.version)

held_kept : (M : ℕ → Type 0) (sets now : List Tables) (s : State) (locks : List (Option ℕ)) (ys : List AccountState) (u q : ℕ) (d : Option MarkedNets) (st : Phase) → length sets ≡ s.version + 1 → length sets ≤ length now → ((i : ℕ) → i < length sets → set_at now i ≡ set_at sets i) → M u → Keeps M s.accounts ys
    → PhaseOf sets s locks q st → HeldDesk sets s.accounts u d st → HeldDesk now ys u d st
held_kept M sets now s locks ys u q d Idle shown long same alone keeps ok held = held
held_kept M sets now s locks ys u q d (Held k) shown long same alone keeps ok held = rests_kept M sets now s.accounts ys u d long same alone keeps held
held_kept M sets now s locks ys u q d (Looked k l) shown long same alone keeps ok held = rests_kept M sets now s.accounts ys u d long same alone keeps held
held_kept M sets now s locks ys u q d (Applied k l) shown long same alone keeps ok held = plan_kept M sets now s.accounts ys l u d (view_inside sets s k l shown ok.1) same alone keeps held
held_kept M sets now s locks ys u q d (Failed k l again) shown long same alone keeps ok held = plan_kept M sets now s.accounts ys l u d (view_inside sets s k l shown ok.1) same alone keeps held
held_kept M sets now s locks ys u q d (Ended k) shown long same alone keeps ok held = rests_kept M sets now s.accounts ys u d long same alone keeps held
held_kept M sets now s locks ys u q d (Gathered g) shown long same alone keeps ok held = held

desk_kept : (w v : World) (p u : ℕ) → Good w → Change w v p → lock_at w u ≢ Some p → DeskOf v.sets v.state.accounts v.phases u (desk_at w u) (lock_at w u)
desk_kept w v p u good ch apart = by (lock_at w u) refl (good.desks u)
  where
    by : (o : Option ℕ) → lock_at w u ≡ o → DeskOf w.sets w.state.accounts w.phases u (desk_at w u) o → DeskOf v.sets v.state.accounts v.phases u (desk_at w u) o
    by None e rests = rests_kept (λ (x : ℕ). lock_at w x ≢ Some p) w.sets v.sets w.state.accounts v.state.accounts u (desk_at w u) ch.sets_long ch.sets apart ch.kept rests
    by (Some q) e held =
        let other : q ≢ p = λ (same : q ≡ p). apart (e ∙ ap (λ (n : ℕ). Some n) same) in
        subst (HeldDesk v.sets v.state.accounts u (desk_at w u)) (sym (ch.phases q other))
        (held_kept (λ (x : ℕ). lock_at w x ≢ Some p) w.sets v.sets w.state w.locks v.state.accounts u q (desk_at w u) (phase_at w q) good.replayed.shown ch.sets_long ch.sets apart ch.kept (good.sessions q) held)

-- Sessions.

-- the units of a plan that was looked at are those of its command
pub view_units : (sets : List Tables) (s : State) (k : Call) (l : View) → Sees sets s k l → SameUnits (plan_units l.plan) (units_of s k.command)
view_units sets s k l sees =
    subst (λ (us : List ℕ). SameUnits (plan_units l.plan) us) (units_before s k.command)
    (subst (λ (plan : Plan). SameUnits (plan_units plan) (units_of (before_close s) k.command)) sees.plan
    (plan_units-are (set_at sets l.version) (before_close s) k.command (λ e. sees.some (sym sees.plan ∙ e))))

seen_same : (t t' : Tables) (xs ys : List AccountState) (us : List ℕ) → ((u : ℕ) → IsAmong u us → unit_nets t' ys u ≡ unit_nets t xs u) → map (seen_at t xs) us ≡ map (seen_at t' ys) us
seen_same t t' xs ys [] same = refl
seen_same t t' xs ys (u ∷ us) same =
    let here : seen_at t xs u ≡ seen_at t' ys u = λ j. record { unit = u; nets = sym (same u (inl refl)) j } in
    λ j. here j ∷ seen_same t t' xs ys us (λ x h. same x (inr h)) j

pub owns_kept : (M : ℕ → Type 0) (locks now : List (Option ℕ)) (s t : State) (q : ℕ) (c : Command) → Keeps M s.accounts t.accounts → ((u : ℕ) → slice_index_or locks u None ≡ Some q → slice_index_or now u None ≡ Some q) → ((u : ℕ) → slice_index_or now u None ≡ Some q → slice_index_or locks u None ≡ Some q)
    → Owns locks s q c → Owns now t q c
owns_kept M locks now s t q c keeps on back own =
    let same : units_of t c ≡ units_of s c = units_stay M s t c keeps own.some in
    record {
      some = λ e. own.some (sym same ∙ e);
      all_of = λ u h. on u (own.all_of u (subst (IsAmong u) same h));
      no_other = λ u h. subst (IsAmong u) (sym same) (own.no_other u (back u h));
    }

pub sees_kept : (M : ℕ → Type 0) (locks : List (Option ℕ)) (sets now : List Tables) (s t : State) (q : ℕ) (k : Call) (l : View) → Keeps M s.accounts t.accounts → s.version ≤ t.version → length sets ≡ s.version + 1 → ((i : ℕ) → i < length sets → set_at now i ≡ set_at sets i) → ((u : ℕ) → slice_index_or locks u None ≡ Some q → M u)
    → Owns locks s q k.command → Sees sets s k l → Sees now t k l
sees_kept M locks sets now s t q k l keeps later shown same alone own sees =
    let t_is : set_at now l.version ≡ set_at sets l.version = same l.version (view_inside sets s k l shown sees) in
    record {
      version = omega (arith, sees.version, later);
      plan = ap (λ (x : Tables). plan_of x (before_close t) k.command) t_is
          ∙ plan_stays M (set_at sets l.version) (before_close s) (before_close t) k.command refl keeps (λ e. own.some (sym (units_before s k.command) ∙ e)) (λ u h. alone u (own.all_of u (subst (IsAmong u) (units_before s k.command) h)))
          ∙ sees.plan;
      some = sees.some;
      seen = sees.seen ∙ seen_same (set_at sets l.version) (set_at now l.version) s.accounts t.accounts (plan_units l.plan)
          (λ u h. ap (λ (x : Tables). unit_nets x t.accounts u) t_is ∙ nets-kept M (set_at sets l.version) u s.accounts t.accounts (alone u (own.all_of u ((view_units sets s k l sees).into u h))) keeps);
      looks = sees.looks;
    }

passed_kept : (again : Bool) (looked now later : ℕ) → now ≤ later → IsPassed again looked now → IsPassed again looked later
passed_kept true looked now later more is = omega (arith, more, is)
passed_kept false looked now later more is = tt

session_kept : (w v : World) (p q : ℕ) (st : Phase) → Good w → Change w v p → q ≢ p → PhaseOf w.sets w.state w.locks q st → PhaseOf v.sets v.state v.locks q st
session_kept w v p q st good ch other ok = by st ok
  where
    M : ℕ → Type 0
    M u = lock_at w u ≢ Some p

    alone : (u : ℕ) → lock_at w u ≡ Some q → lock_at w u ≢ Some p
    alone u mine = λ theirs. other (some_same q p (lock_at w u) mine theirs)

    own : (c : Command) → Owns w.locks w.state q c → Owns v.locks v.state q c
    own c o = owns_kept (λ (u : ℕ). lock_at w u ≢ Some p) w.locks v.locks w.state v.state q c ch.kept (λ u e. ch.locks u q other e) (λ u e. ch.locks_back u q other e) o

    sees : (k : Call) (l : View) → Owns w.locks w.state q k.command → Sees w.sets w.state k l → Sees v.sets v.state k l
    sees k l o x = sees_kept (λ (u : ℕ). lock_at w u ≢ Some p) w.locks w.sets v.sets w.state v.state q k l ch.kept ch.version good.replayed.shown ch.sets alone o x

    by : (x : Phase) → PhaseOf w.sets w.state w.locks q x → PhaseOf v.sets v.state v.locks q x
    by Idle ok = tt
    by (Held k) ok = (own k.command ok.0, omega (arith, ok.1, ch.version))
    by (Looked k l) ok = (own k.command ok.0, sees k l ok.0 ok.1)
    by (Applied k l) ok = (own k.command ok.0, sees k l ok.0 ok.1)
    by (Failed k l again) ok = (own k.command ok.0, sees k l ok.0 ok.1, passed_kept again l.version w.state.version v.state.version ch.version ok.2)
    by (Ended k) ok = (own k.command ok.0, omega (arith, ok.1, ch.version))
    by (Gathered g) ok = ok

-- a step keeps the world good where what is said of its own session, and of the units that this held or holds, is true
pub good_after : (w v : World) (p : ℕ) → Good w → Change w v p → IsReplayed v → ((i : ℕ) → i < length v.sets → IsWithinLimits (set_at v.sets i)) → All (IsKnown (in_force v)) v.state.accounts → IsHoused v.state → length v.desks ≡ v.state.units → length v.locks ≡ v.state.units
    → PhaseOf v.sets v.state v.locks p (phase_at v p) → ((u : ℕ) → (lock_at w u ≡ Some p) ⊎ (lock_at v u ≡ Some p) → DeskOf v.sets v.state.accounts v.phases u (desk_at v u) (lock_at v u)) → Good v
good_after w v p good ch replayed limits known housed desks_long locks_long own mine = record {
  replayed = replayed;
  limits = limits;
  known = known;
  housed = housed;
  desks_long = desks_long;
  locks_long = locks_long;
  desks = λ u. ⊎_elim (λ (e : lock_at w u ≡ Some p). mine u (inl e))
      (λ (n : lock_at w u ≢ Some p). ⊎_elim (λ (e : lock_at v u ≡ Some p). mine u (inr e)) (λ (m : lock_at v u ≢ Some p). others u n m) (holder (lock_at v u) p))
      (holder (lock_at w u) p);
  sessions = λ q. ⊎_elim (λ (e : q ≡ p). subst (λ (i : ℕ). PhaseOf v.sets v.state v.locks i (phase_at v i)) (sym e) own)
      (λ (other : q ≢ p). subst (PhaseOf v.sets v.state v.locks q) (sym (ch.phases q other)) (session_kept w v p q (phase_at w q) good ch other (good.sessions q)))
      (cases_eq q p);
}
  where
    others : (u : ℕ) → lock_at w u ≢ Some p → lock_at v u ≢ Some p → DeskOf v.sets v.state.accounts v.phases u (desk_at v u) (lock_at v u)
    others u n m =
        let same = ch.rest u n m in
        subst (λ (x : Option MarkedNets × Option ℕ). DeskOf v.sets v.state.accounts v.phases u x.0 x.1) (λ j. (sym same.1 j, sym same.0 j)) (desk_kept w v p u good ch n)
