-- Steps that leave the book alone, and change one session's phase, desks or locks: that the world stays good.
use Rattle.std.proofs.Common.{◌≡◌, ◌≢◌, ◌<◌, ◌∙◌, inl, ⊎_elim, ℕ, true, Option, None, Some, List, [], ◌∷◌, length, sym, subst, refl, arith, Result, Ok, Err}
use Rattle.std.specs.Prelude.{slice_index_or, slice_set}
use Rattle.std.proofs.lemmas.List.{get_or-set_same, get_or-set_other, length-map}
use Rattle.std.proofs.lemmas.List.Elements.{All-get_or}
use Rattle.mgn_params.specs.Tables.{Tables}
use Rattle.mgn_desk.specs.Desks.{MarkedNets}
use Rattle.mgn_machine.specs.declared.command.Command.{Command}
use Rattle.mgn_machine.specs.declared.command.Command.TheVariants as asked
use Rattle.mgn_machine.specs.declared.reply.Refusal.{Refusal}
use Rattle.mgn_machine.specs.Refusals.{place_of}
use Rattle.mgn_machine.specs.State.{AccountState, State, account_at, no_account}
use Rattle.mgn_plan.specs.declared.plans.Plan.{Plan}
use Rattle.mgn_plan.specs.declared.plans.Plan.TheVariants.{Nothing}
use Rattle.mgn_plan.specs.Plans.{plan_of}
use Rattle.mgn_world.specs.Claims.{IsAmong, IsAtRest, before_close}
use Rattle.mgn_world.specs.declared.phases.Call.{Call}
use Rattle.mgn_world.specs.declared.phases.Phase.{Phase}
use Rattle.mgn_world.specs.declared.phases.Phase.TheVariants.{Idle, Held}
use Rattle.mgn_world.specs.World.{World, are_free, desk_at, finished, freed, in_force, lock_at, looked_at, phase_at, taken, unit_found, units_found, units_of, with_phase}
use Rattle.mgn_world.specs.Standing.{DeskOf, Good, HeldDesk, IsHoused, Owns, PhaseOf}
use Rattle.mgn_world.proofs.Frames.{good_after, holder, some_none, some_same}
use Rattle.mgn_world.proofs.Locks.{among_or, free_at, freed_at, freed_mine, freed_other, taken_long, taken_mine, taken_other}
use Rattle.mgn_world.proofs.Stays.{plan_now}
use Rattle.mgn_world.proofs.Twins.{keeps-same}
use Rattle.mgn_register.proofs.Found.{place-inside}

-- the desk of a unit that the session at a place holds
pub held_desk : (w : World) (p u : ℕ) (st : Phase) → Good w → phase_at w p ≡ st → lock_at w u ≡ Some p → HeldDesk w.sets w.state.accounts u (desk_at w u) st
held_desk w p u st good is e =
    subst (HeldDesk w.sets w.state.accounts u (desk_at w u)) is (subst (DeskOf w.sets w.state.accounts w.phases u (desk_at w u)) e (good.desks u))

pub session : (w : World) (p : ℕ) (st : Phase) → Good w → phase_at w p ≡ st → PhaseOf w.sets w.state w.locks p st
session w p st good is = subst (PhaseOf w.sets w.state w.locks p) is (good.sessions p)

-- its desk, once the session is in another phase
pub desk_in : (phases : List Phase) (p : ℕ) (st : Phase) (sets : List Tables) (accounts : List AccountState) (u : ℕ) (d : Option MarkedNets) (o : Option ℕ) → p < length phases → o ≡ Some p → HeldDesk sets accounts u d st → DeskOf sets accounts (slice_set phases p st) u d o
desk_in phases p st sets accounts u d o there e held =
    subst (DeskOf sets accounts (slice_set phases p st) u d) (sym e) (subst (HeldDesk sets accounts u d) (sym (get_or-set_same phases p st Idle there)) held)

pub phase_in : (phases : List Phase) (p : ℕ) (st : Phase) (sets : List Tables) (s : State) (locks : List (Option ℕ)) → p < length phases → PhaseOf sets s locks p st → PhaseOf sets s locks p (slice_index_or (slice_set phases p st) p Idle)
phase_in phases p st sets s locks there ok = subst (PhaseOf sets s locks p) (sym (get_or-set_same phases p st Idle there)) ok

-- A step of a session's phase and of the desks that it holds.
pub good_desks : (w : World) (p : ℕ) (st : Phase) (desks : List (Option MarkedNets)) → Good w → p < length w.phases → length desks ≡ length w.desks → PhaseOf w.sets w.state w.locks p st
    → ((u : ℕ) → lock_at w u ≡ Some p → HeldDesk w.sets w.state.accounts u (slice_index_or desks u None) st) → ((u : ℕ) → lock_at w u ≢ Some p → slice_index_or desks u None ≡ desk_at w u)
    → Good (record w { desks = desks; phases = slice_set w.phases p st })
good_desks w p st desks good there long ok mine rest =
    good_after w (record w { desks = desks; phases = slice_set w.phases p st }) p good record {
      version = omega arith;
      sets_long = omega arith;
      sets = λ i inside. refl;
      phases = λ q other. get_or-set_other w.phases p q st Idle other;
      locks = λ u q other e. e;
      locks_back = λ u q other e. e;
      rest = λ u n m. (refl, rest u n);
      kept = keeps-same (λ u. lock_at w u ≢ Some p) w.state.accounts;
    }
    good.replayed good.limits good.known good.housed (long ∙ good.desks_long) good.locks_long
    (phase_in w.phases p st w.sets w.state w.locks there ok)
    (λ u h. let e : lock_at w u ≡ Some p = ⊎_elim (λ (x : lock_at w u ≡ Some p). x) (λ (x : lock_at w u ≡ Some p). x) h in
    desk_in w.phases p st w.sets w.state.accounts u (slice_index_or desks u None) (lock_at w u) there e (mine u e))

-- A step of its phase alone.
pub good_phase : (w : World) (p : ℕ) (old st : Phase) → Good w → phase_at w p ≡ old → p < length w.phases → PhaseOf w.sets w.state w.locks p st
    → ((u : ℕ) (d : Option MarkedNets) → HeldDesk w.sets w.state.accounts u d old → HeldDesk w.sets w.state.accounts u d st) → Good (with_phase w p st)
good_phase w p old st good is there ok on = good_desks w p st w.desks good there refl ok (λ u e. on u (desk_at w u) (held_desk w p u old good is e)) (λ u n. refl)

-- Begin, of a command that has units

pub units_inside : (s : State) (c : Command) (u : ℕ) → IsHoused s → IsAmong u (units_of s c) → u < s.units
units_inside s c u housed h = by c h
  where
    one : (name : List ℕ) (r : Result ℕ Refusal) → place_of s name ≡ r → IsAmong u (unit_found s r) → u < s.units
    one name (Err why) e h = absurd h
    one name (Ok k) e h =
        let less : (account_at s.accounts k).unit < s.units = All-get_or (λ (a : AccountState). a.unit < s.units) s.accounts k no_account (place-inside s name k e) housed.accounts in
        ⊎_elim (λ (same : u ≡ (account_at s.accounts k).unit). omega (arith, less, same)) (λ (n : ⊥). absurd n) h

    both : (from to : List ℕ) (a b : Result ℕ Refusal) → place_of s from ≡ a → place_of s to ≡ b → IsAmong u (units_found s a b) → u < s.units
    both from to (Err why) b e f h = absurd h
    both from to (Ok g) (Err why) e f h = absurd h
    both from to (Ok g) (Ok k) e f h = ⊎_elim (λ (same : u ≡ (account_at s.accounts g).unit). one from (Ok g) e (inl same)) (λ (r : IsAmong u ((account_at s.accounts k).unit ∷ [])). one to (Ok k) f r) h

    by : (c : Command) → IsAmong u (units_of s c) → u < s.units
    by (asked.Trade t) h = one t.account _ refl h
    by (asked.Bust account lot) h = one account _ refl h
    by (asked.Hold x) h = one x.account _ refl h
    by (asked.Fill f) h = one f.account _ refl h
    by (asked.Release account order) h = one account _ refl h
    by (asked.Transfer m) h = both m.from m.to _ _ refl refl h
    by (asked.NewOrigin name mode) h = absurd h
    by (asked.NewAccount account origin) h = absurd h
    by (asked.Post account class units) h = absurd h
    by (asked.Draw account class units) h = absurd h
    by (asked.Ask account) h = absurd h
    by (asked.Total origin) h = absurd h
    by (asked.Statement account) h = absurd h
    by asked.EndDay h = absurd h

abbrev pub call_of : World → Command → Call
call_of w c = record { command = c; began = w.state.version; looks = 0 }

pub good_taken : (w : World) (p : ℕ) (c : Command) → Good w → phase_at w p ≡ Idle → p < length w.phases → units_of w.state c ≢ [] → are_free w.locks (units_of w.state c) ≡ true
    → Good (record w { locks = taken p (units_of w.state c) w.locks; phases = slice_set w.phases p (Held (call_of w c)) })
good_taken w p c good idle there some free =
    good_after w v p good record {
      version = omega arith;
      sets_long = omega arith;
      sets = λ i inside. refl;
      phases = λ q other. get_or-set_other w.phases p q (Held (call_of w c)) Idle other;
      locks = λ u q other e. ⊎_elim (λ (h : IsAmong u us). some_none q (lock_at w u) (free_at w.locks us u free h) e) (λ (n : IsAmong u us → ⊥). taken_other p us w.locks u n ∙ e) (among_or u us);
      locks_back = λ u q other e. ⊎_elim (λ (h : IsAmong u us). absurd (other (some_same q p (lock_at v u) e (taken_mine p us w.locks u inside h)))) (λ (n : IsAmong u us → ⊥). sym (taken_other p us w.locks u n) ∙ e) (among_or u us);
      rest = λ u n m. ⊎_elim (λ (h : IsAmong u us). absurd (m (taken_mine p us w.locks u inside h))) (λ (k : IsAmong u us → ⊥). (taken_other p us w.locks u k, refl)) (among_or u us);
      kept = keeps-same (λ u. lock_at w u ≢ Some p) w.state.accounts;
    }
    good.replayed good.limits good.known good.housed good.desks_long (taken_long p us w.locks ∙ good.locks_long)
    (phase_in w.phases p (Held (call_of w c)) w.sets w.state v.locks there (own, omega arith))
    (λ u h. ⊎_elim (λ (e : lock_at w u ≡ Some p). absurd (held_desk w p u Idle good idle e))
    (λ (e : lock_at v u ≡ Some p).
    let mine = own.no_other u e in
    desk_in w.phases p (Held (call_of w c)) w.sets w.state.accounts u (desk_at w u) (lock_at v u) there e
    (subst (DeskOf w.sets w.state.accounts w.phases u (desk_at w u)) (free_at w.locks us u free mine) (good.desks u)))
    h)
  where
    us : List ℕ
    us = units_of w.state c

    v : World
    v = record w { locks = taken p us w.locks; phases = slice_set w.phases p (Held (call_of w c)) }

    inside : (u : ℕ) → IsAmong u us → u < length w.locks
    inside u h = let less = units_inside w.state c u good.housed h in omega (arith, less, good.locks_long)

    own : Owns v.locks w.state p c
    own = record {
      some = some;
      all_of = λ u h. taken_mine p us w.locks u inside h;
      no_other = λ u e. ⊎_elim (λ (h : IsAmong u us). h) (λ (n : IsAmong u us → ⊥). absurd (held_desk w p u Idle good idle (sym (taken_other p us w.locks u n) ∙ e))) (among_or u us);
    }

-- the units of a session given back, where their desks rest
pub good_finished : (w : World) (p : ℕ) (st : Phase) → Good w → phase_at w p ≡ st → p < length w.phases → ((u : ℕ) (d : Option MarkedNets) → HeldDesk w.sets w.state.accounts u d st → IsAtRest w.sets w.state.accounts u d) → Good (finished w p)
good_finished w p st good is there on =
    good_after w v p good record {
      version = omega arith;
      sets_long = omega arith;
      sets = λ i inside. refl;
      phases = λ q other. get_or-set_other w.phases p q Idle Idle other;
      locks = λ u q other e. freed_at p w.locks u ∙ freed_other p (lock_at w u) (λ (mine : lock_at w u ≡ Some p). other (some_same q p (lock_at w u) e mine)) ∙ e;
      locks_back = λ u q other e. ⊎_elim (λ (mine : lock_at w u ≡ Some p). some_none q (lock_at v u) (freed_at p w.locks u ∙ freed_mine p (lock_at w u) mine) e)
          (λ (n : lock_at w u ≢ Some p). sym (freed_at p w.locks u ∙ freed_other p (lock_at w u) n) ∙ e) (holder (lock_at w u) p);
      rest = λ u n m. (freed_at p w.locks u ∙ freed_other p (lock_at w u) n, refl);
      kept = keeps-same (λ u. lock_at w u ≢ Some p) w.state.accounts;
    }
    good.replayed good.limits good.known good.housed good.desks_long (length-map w.locks (freed p) ∙ good.locks_long)
    (phase_in w.phases p Idle w.sets w.state v.locks there tt)
    (λ u h. ⊎_elim (λ (e : lock_at w u ≡ Some p). given_back u e)
    (λ (e : lock_at v u ≡ Some p). ⊎_elim (λ (mine : lock_at w u ≡ Some p). given_back u mine)
    (λ (n : lock_at w u ≢ Some p). absurd (n (sym (freed_at p w.locks u ∙ freed_other p (lock_at w u) n) ∙ e))) (holder (lock_at w u) p))
    h)
  where
    v : World
    v = finished w p

    given_back : (u : ℕ) → lock_at w u ≡ Some p → DeskOf w.sets w.state.accounts v.phases u (desk_at w u) (lock_at v u)
    given_back u e = subst (DeskOf w.sets w.state.accounts v.phases u (desk_at w u)) (sym (freed_at p w.locks u ∙ freed_mine p (lock_at w u) e)) (on u (desk_at w u) (held_desk w p u st good is e))

-- Look, that finds a plan
pub good_looked : (w : World) (p : ℕ) (k : Call) (plan : Plan) → Good w → phase_at w p ≡ Held k → p < length w.phases → plan_of (in_force w) w.state k.command ≡ plan → plan ≢ Nothing → Good (with_phase w p (looked_at w k plan))
good_looked w p k plan good is there found some =
    let ok = session w p (Held k) good is in
    good_phase w p (Held k) (looked_at w k plan) good is there (
      ok.0,
      record {
        version = omega arith;
        plan = ⊎_elim (λ (e : plan_of (in_force w) w.state k.command ≡ plan_of (in_force w) (before_close w.state) k.command). sym e ∙ found)
            (λ (e : plan_of (in_force w) w.state k.command ≡ Nothing). absurd (some (sym found ∙ e)))
            (plan_now (in_force w) w.state k.command);
        some = some;
        seen = refl;
        looks = omega (arith, ok.1);
      },
    )
    (λ u d h. h)
