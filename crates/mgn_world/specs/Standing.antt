-- What every step keeps: the desks of free and of held units, and what each session knows.
use Rattle.std.specs.Prelude.{ℕ, ◌≡◌, ◌≢◌, ◌+◌, ◌<◌, ◌≤◌, Bool, true, false, Option, None, Some, IfSome, All, List, [], length, map, slice_index_or}
use Rattle.mgn_params.specs.Limits.{IsWithinLimits}
use Rattle.mgn_params.specs.Shelves.{set_at}
use Rattle.mgn_params.specs.Tables.{Tables}
use Rattle.mgn_desk.specs.Desks.{MarkedNets}
use Rattle.mgn_machine.specs.declared.command.Command.{Command}
use Rattle.mgn_machine.specs.declared.origin.Origin.{Origin}
use Rattle.mgn_machine.specs.Refusals.{IsKnown}
use Rattle.mgn_machine.specs.State.{AccountState, State}
use Rattle.mgn_plan.specs.declared.plans.Plan.TheVariants.{Nothing}
use Rattle.mgn_plan.specs.Plans.{plan_of}
use Rattle.mgn_world.specs.Claims.{HasPlan, IsAmong, IsReplayed, IsAtRest, before_close}
use Rattle.mgn_world.specs.declared.phases.Call.{Call}
use Rattle.mgn_world.specs.declared.phases.Phase.{Phase}
use Rattle.mgn_world.specs.declared.phases.Phase.TheVariants.{Idle, Held, Looked, Applied, Failed, Ended, Gathered}
use Rattle.mgn_world.specs.Phases.{View}
use Rattle.mgn_world.specs.World.{World, desk_at, in_force, lock_at, phase_at, plan_units, seen_at, units_of}

-- the desk of a unit that a session holds, by the session's phase
abbrev pub HeldDesk : List Tables → List AccountState → ℕ → Option MarkedNets → Phase → Type 0
HeldDesk sets accounts u d Idle = ⊥
HeldDesk sets accounts u d (Held k) = IsAtRest sets accounts u d
HeldDesk sets accounts u d (Looked k l) = IsAtRest sets accounts u d
HeldDesk sets accounts u d (Applied k l) = HasPlan sets accounts l u d
HeldDesk sets accounts u d (Failed k l again) = HasPlan sets accounts l u d
HeldDesk sets accounts u d (Ended k) = IsAtRest sets accounts u d
HeldDesk sets accounts u d (Gathered g) = ⊥

-- the desk of any unit
abbrev pub DeskOf : List Tables → List AccountState → List Phase → ℕ → Option MarkedNets → Option ℕ → Type 0
DeskOf sets accounts phases u d None = IsAtRest sets accounts u d
DeskOf sets accounts phases u d (Some p) = HeldDesk sets accounts u d (slice_index_or phases p Idle)

-- Sessions.

-- a session holds the units of its command, at least one, and no other
pub record Owns (locks : List (Option ℕ)) (s : State) (p : ℕ) (c : Command) : Type 0 where
  pub some : units_of s c ≢ []
  pub all_of : (u : ℕ) → IsAmong u (units_of s c) → slice_index_or locks u None ≡ Some p
  pub no_other : (u : ℕ) → slice_index_or locks u None ≡ Some p → IsAmong u (units_of s c)

-- what a Look took is still so, but for the version in force and the end of the day
pub record Sees (sets : List Tables) (s : State) (k : Call) (l : View) : Type 0 where
  pub version : l.version ≤ s.version
  pub plan : plan_of (set_at sets l.version) (before_close s) k.command ≡ l.plan
  pub some : l.plan ≢ Nothing
  pub seen : l.seen ≡ map (seen_at (set_at sets l.version) s.accounts) (plan_units l.plan)
  pub looks : k.looks + k.began ≤ l.version + 1

-- a call is to Look again only where another set came into force
abbrev pub IsPassed : Bool → ℕ → ℕ → Type 0
IsPassed false looked now = Unit {0}
IsPassed true looked now = looked < now

-- what is true of a session, by its phase
abbrev pub PhaseOf : List Tables → State → List (Option ℕ) → ℕ → Phase → Type 0
PhaseOf sets s locks p Idle = Unit {0}
PhaseOf sets s locks p (Held k) = Owns locks s p k.command × (k.looks + k.began ≤ s.version)
PhaseOf sets s locks p (Looked k l) = Owns locks s p k.command × Sees sets s k l
PhaseOf sets s locks p (Applied k l) = Owns locks s p k.command × Sees sets s k l
PhaseOf sets s locks p (Failed k l again) = Owns locks s p k.command × Sees sets s k l × IsPassed again l.version s.version
PhaseOf sets s locks p (Ended k) = Owns locks s p k.command × (k.looks + k.began ≤ s.version + 1)
PhaseOf sets s locks p (Gathered g) = IsWithinLimits g.set

-- The units of accounts and of netted origins were made.
pub record IsHoused (s : State) : Type 0 where
  pub accounts : All (λ (a : AccountState). a.unit < s.units) s.accounts
  pub origins : All (λ (o : Origin). IfSome o.unit (λ u. u < s.units)) s.origins

-- what every step keeps
pub record Good (w : World) : Type 0 where
  pub replayed : IsReplayed w
  pub limits : (i : ℕ) → i < length w.sets → IsWithinLimits (set_at w.sets i)
  -- the set in force has the contract of each live lot and of each hold
  pub known : All (IsKnown (in_force w)) w.state.accounts
  pub housed : IsHoused w.state
  pub desks_long : length w.desks ≡ w.state.units
  pub locks_long : length w.locks ≡ w.state.units
  pub desks : (u : ℕ) → DeskOf w.sets w.state.accounts w.phases u (desk_at w u) (lock_at w u)
  pub sessions : (p : ℕ) → PhaseOf w.sets w.state w.locks p (phase_at w p)
