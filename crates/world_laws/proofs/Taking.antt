-- Begin, which takes the units of accounts or waits for them: for its laws.
use Rattle.std.proofs.Common.{◌≡◌, ◌≢◌, ◌<◌, ◌≤◌, ◌∙◌, ◌⊎◌, inl, inr, ⊎_elim, ℕ, Bool, true, false, Option, None, Some, List, [], ◌∷◌, length, sym, ap, subst, refl, arith, Result, Ok, Err}
use Rattle.std.specs.Prelude.{◌&&◌, if◌then◌else◌, slice_index_or, slice_set}
use Rattle.std.proofs.lemmas.List.{get_or-set_same, get_or-set_other}
use Rattle.mgn_machine.specs.declared.command.Command.{Command}
use Rattle.mgn_machine.specs.declared.command.Command.TheVariants as asked
use Rattle.mgn_machine.specs.declared.reply.Refusal.{Refusal}
use Rattle.mgn_machine.specs.Refusals.{place_of}
use Rattle.mgn_machine.specs.State.{State, account_at}
use Rattle.mgn_world.specs.Claims.{IsAmong, IsReached}
use Rattle.mgn_world.specs.declared.phases.Deed.TheVariants.{Begin}
use Rattle.mgn_world.specs.declared.phases.Phase.TheVariants.{Held, Idle}
use Rattle.mgn_world.specs.World.{World, are_free, begin_on, begins, is_free, lock_at, next, phase_at, taken, unit_found, units_found, units_of}
use Rattle.mgn_world.proofs.Frames.{some_none}
use Rattle.mgn_world.proofs.Locks.{free_at, taken_mine, taken_other}
use Rattle.mgn_world.proofs.Said.{good_reached}
use Rattle.mgn_world.proofs.Simple.{units_inside}
use Rattle.world_laws.specs.Calls.{AreFree, IsMissingOne, IsOfOne, Takes, accounts_of}
use Rattle.world_laws.specs.Moves.{step_of}
use Rattle.world_laws.proofs.Places.{next_is, next_out, there_or}

-- these are the units of these accounts, and free
abbrev Listed : World → List (List ℕ) → List ℕ → Type 0
Listed w [] [] = Unit {0}
Listed w [] (u ∷ us) = ⊥
Listed w (name ∷ names) [] = ⊥
Listed w (name ∷ names) (u ∷ us) = ((k : ℕ) × ((place_of w.state name ≡ Ok k) × ((account_at w.state.accounts k).unit ≡ u) × (lock_at w u ≡ None))) × Listed w names us

one_listed : (w : World) (name : List ℕ) → AreFree w (name ∷ []) → Listed w (name ∷ []) (unit_found w.state (place_of w.state name))
one_listed w name free =
    let k = free.0.0 in
    subst (λ (r : Result ℕ Refusal). Listed w (name ∷ []) (unit_found w.state r)) (sym free.0.1.0) ((k, (free.0.1.0, refl, free.0.1.1)), tt)

two_listed : (w : World) (from to : List ℕ) → AreFree w (from ∷ to ∷ []) → Listed w (from ∷ to ∷ []) (units_found w.state (place_of w.state from) (place_of w.state to))
two_listed w from to free =
    subst (λ (r : Result ℕ Refusal × Result ℕ Refusal). Listed w (from ∷ to ∷ []) (units_found w.state r.0 r.1)) (λ j. (sym free.0.1.0 j, sym free.1.0.1.0 j))
    ((free.0.0, (free.0.1.0, refl, free.0.1.1)), ((free.1.0.0, (free.1.0.1.0, refl, free.1.0.1.1)), tt))

units_listed : (w : World) (c : Command) → accounts_of c ≢ [] → AreFree w (accounts_of c) → Listed w (accounts_of c) (units_of w.state c)
units_listed w (asked.Trade t) some free = one_listed w t.account free
units_listed w (asked.Bust account lot) some free = one_listed w account free
units_listed w (asked.Hold h) some free = one_listed w h.account free
units_listed w (asked.Fill f) some free = one_listed w f.account free
units_listed w (asked.Release account order) some free = one_listed w account free
units_listed w (asked.Transfer m) some free = two_listed w m.from m.to free
units_listed w (asked.NewOrigin name mode) some free = absurd (some refl)
units_listed w (asked.NewAccount account origin) some free = absurd (some refl)
units_listed w (asked.Post account class units) some free = absurd (some refl)
units_listed w (asked.Draw account class units) some free = absurd (some refl)
units_listed w (asked.Ask account) some free = absurd (some refl)
units_listed w (asked.Total origin) some free = absurd (some refl)
units_listed w (asked.Statement account) some free = absurd (some refl)
units_listed w asked.EndDay some free = absurd (some refl)

-- A command without units

second_missing : (s : State) (a : Result ℕ Refusal) (why : Refusal) → units_found s a (Err why) ≡ []
second_missing s (Ok k) why = refl
second_missing s (Err first) why = refl

one_missing : (s : State) (name : List ℕ) → (name ∷ [] ≡ []) ⊎ IsMissingOne s (name ∷ []) → unit_found s (place_of s name) ≡ []
one_missing s name (inl none) = cc
one_missing s name (inr (inl missing)) = ap (unit_found s) missing.1
one_missing s name (inr (inr n)) = absurd n

two_missing : (s : State) (from to : List ℕ) → (from ∷ to ∷ [] ≡ []) ⊎ IsMissingOne s (from ∷ to ∷ []) → units_found s (place_of s from) (place_of s to) ≡ []
two_missing s from to (inl none) = cc
two_missing s from to (inr (inl missing)) = ap (λ (r : Result ℕ Refusal). units_found s r (place_of s to)) missing.1
two_missing s from to (inr (inr (inl missing))) = ap (units_found s (place_of s from)) missing.1 ∙ second_missing s (place_of s from) missing.0
two_missing s from to (inr (inr (inr n))) = absurd n

pub no_units : (s : State) (c : Command) → (accounts_of c ≡ []) ⊎ IsMissingOne s (accounts_of c) → units_of s c ≡ []
no_units s (asked.Trade t) none = one_missing s t.account none
no_units s (asked.Bust account lot) none = one_missing s account none
no_units s (asked.Hold h) none = one_missing s h.account none
no_units s (asked.Fill f) none = one_missing s f.account none
no_units s (asked.Release account order) none = one_missing s account none
no_units s (asked.Transfer m) none = two_missing s m.from m.to none
no_units s (asked.NewOrigin name mode) none = refl
no_units s (asked.NewAccount account origin) none = refl
no_units s (asked.Post account class units) none = refl
no_units s (asked.Draw account class units) none = refl
no_units s (asked.Ask account) none = refl
no_units s (asked.Total origin) none = refl
no_units s (asked.Statement account) none = refl
no_units s asked.EndDay none = refl

none_is_free : (o : Option ℕ) → o ≡ None → is_free o ≡ true
none_is_free o e = ap is_free e

listed_free : (w : World) (names : List (List ℕ)) (us : List ℕ) → Listed w names us → are_free w.locks us ≡ true
listed_free w [] [] are = refl
listed_free w [] (u ∷ us) are = absurd are
listed_free w (name ∷ names) [] are = absurd are
listed_free w (name ∷ names) (u ∷ us) are =
    ap (λ (b : Bool). b && are_free w.locks us) (none_is_free (lock_at w u) are.0.1.2) ∙ listed_free w names us are.1

listed_into : (w : World) (names : List (List ℕ)) (us : List ℕ) (x : ℕ) → Listed w names us → IsAmong x us → IsOfOne w.state names x
listed_into w [] [] x are h = absurd h
listed_into w [] (u ∷ us) x are h = absurd are
listed_into w (name ∷ names) [] x are h = absurd are
listed_into w (name ∷ names) (u ∷ us) x are h = ⊎_elim
    (λ (e : x ≡ u). inl (are.0.0, (are.0.1.0, are.0.1.1 ∙ sym e)))
    (λ (r : IsAmong x us). inr (listed_into w names us x are.1 r))
    h

same_place : (k m : ℕ) (r : Result ℕ Refusal) → r ≡ Ok k → r ≡ Ok m → k ≡ m
same_place k m r a b = cc

listed_back : (w : World) (names : List (List ℕ)) (us : List ℕ) (x : ℕ) → Listed w names us → IsOfOne w.state names x → IsAmong x us
listed_back w [] us x are h = absurd h
listed_back w (name ∷ names) [] x are h = absurd are
listed_back w (name ∷ names) (u ∷ us) x are h = ⊎_elim
    (λ (e : (k : ℕ) × ((place_of w.state name ≡ Ok k) × ((account_at w.state.accounts k).unit ≡ x))).
    inl (sym e.1.1 ∙ ap (λ (k : ℕ). (account_at w.state.accounts k).unit) (same_place e.0 are.0.0 (place_of w.state name) e.1.0 are.0.1.0) ∙ are.0.1.1))
    (λ (r : IsOfOne w.state names x). inr (listed_back w names us x are.1 r))
    h

listed_some : (w : World) (names : List (List ℕ)) (us : List ℕ) → names ≢ [] → Listed w names us → us ≢ []
listed_some w [] us some are = absurd (some refl)
listed_some w (name ∷ names) [] some are = absurd are
listed_some w (name ∷ names) (u ∷ us) some are = λ (e : u ∷ us ≡ []). cc

-- Begin

-- a session holds these units
abbrev holding : World → ℕ → Command → List ℕ → World
holding w p c us = record w { locks = taken p us w.locks; phases = slice_set w.phases p (Held record { command = c; began = w.state.version; looks = 0 }) }

begin_on_is : (w : World) (p : ℕ) (c : Command) (us : List ℕ) → us ≢ [] → are_free w.locks us ≡ true → begin_on w p c us ≡ holding w p c us
begin_on_is w p c [] some free = absurd (some refl)
begin_on_is w p c (u ∷ us) some free = ap (λ (b : Bool). if b then holding w p c (u ∷ us) else w) free

pub begins_by : (w : World) (p : ℕ) (c : Command) → p < length w.phases → phase_at w p ≡ Idle → next w (step_of p (Begin c)) ≡ begin_on w p c (units_of w.state c)
begins_by w p c there idle = next_is w p (Begin c) there ∙ ap (begins w p c) idle

pub takes : (w : World) (p : ℕ) (c : Command) → IsReached w → p < length w.phases → phase_at w p ≡ Idle → accounts_of c ≢ [] → AreFree w (accounts_of c) → Takes p c w (next w (step_of p (Begin c)))
takes w p c reached there idle some free = subst (Takes p c w) (sym now) record {
  phase = get_or-set_same w.phases p (Held record { command = c; began = w.state.version; looks = 0 }) Idle there;
  others = λ q other. get_or-set_other w.phases p q (Held record { command = c; began = w.state.version; looks = 0 }) Idle other;
  mine = λ u h. taken_mine p us w.locks u inside (listed_back w (accounts_of c) us u listed h);
  theirs = λ u n. taken_other p us w.locks u (λ h. n (listed_into w (accounts_of c) us u listed h));
  desks = λ u. refl;
  book = record { sets = refl; state = refl; history = refl };
}
  where
    us : List ℕ
    us = units_of w.state c

    listed : Listed w (accounts_of c) us
    listed = units_listed w c some free

    inside : (u : ℕ) → IsAmong u us → u < length w.locks
    inside u h = let good = good_reached w reached in let less = units_inside w.state c u good.housed h in omega (arith, less, good.locks_long)

    now : next w (step_of p (Begin c)) ≡ holding w p c us
    now = begins_by w p c there idle ∙ begin_on_is w p c us (listed_some w (accounts_of c) us some listed) (listed_free w (accounts_of c) us listed)

-- a unit is held
held_not_free : (locks : List (Option ℕ)) (us : List ℕ) (u q : ℕ) (b : Bool) → are_free locks us ≡ b → IsAmong u us → slice_index_or locks u None ≡ Some q → b ≡ false
held_not_free locks us u q true e h held = some_none q (slice_index_or locks u None) (free_at locks us u e h) held
held_not_free locks us u q false e h held = refl

waits_on : (w : World) (p : ℕ) (c : Command) (us : List ℕ) (u q : ℕ) → IsAmong u us → lock_at w u ≡ Some q → begin_on w p c us ≡ w
waits_on w p c [] u q h held = absurd h
waits_on w p c (x ∷ us) u q h held = ap (λ (b : Bool). if b then holding w p c (x ∷ us) else w) (held_not_free w.locks (x ∷ us) u q _ refl h held)

waits_there : (w : World) (p u q : ℕ) (c : Command) → p < length w.phases → phase_at w p ≡ Idle → IsAmong u (units_of w.state c) → lock_at w u ≡ Some q → next w (step_of p (Begin c)) ≡ w
waits_there w p u q c there idle h held = begins_by w p c there idle ∙ waits_on w p c (units_of w.state c) u q h held

pub waits : (w : World) (p u q : ℕ) (c : Command) → phase_at w p ≡ Idle → IsAmong u (units_of w.state c) → lock_at w u ≡ Some q → next w (step_of p (Begin c)) ≡ w
waits w p u q c idle h held = ⊎_elim
    (λ (there : p < length w.phases). waits_there w p u q c there idle h held)
    (λ (out : length w.phases ≤ p). next_out w p (Begin c) out)
    (there_or w p)
