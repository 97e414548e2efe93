-- What is true of the world after every list of steps (own profile).
use Rattle.std.specs.Prelude.{ℕ, ◌≡◌, ◌⊎◌, ◌+◌, ◌<◌, ◌≤◌, false, Option, None, Some, List, [], ◌∷◌, ◌++◌, length}
use Rattle.mgn_params.specs.Limits.{IsWithinLimits}
use Rattle.mgn_params.specs.Shelves.{set_at}
use Rattle.mgn_params.specs.Tables.{Tables}
use Rattle.mgn_desk.specs.Desks.{MarkedNets}
use Rattle.mgn_machine.specs.declared.entry.Entry.{Entry}
use Rattle.mgn_machine.specs.History.{Legal, replay}
use Rattle.mgn_machine.specs.State.{AccountState, State}
use Rattle.mgn_world.specs.declared.phases.Call.{Call}
use Rattle.mgn_world.specs.declared.phases.Deed.{Deed}
use Rattle.mgn_world.specs.declared.phases.Deed.TheVariants.{Gather}
use Rattle.mgn_world.specs.declared.phases.Phase.{Phase}
use Rattle.mgn_world.specs.declared.phases.Phase.TheVariants.{Idle, Held, Looked, Applied, Failed, Ended, Gathered}
use Rattle.mgn_world.specs.declared.phases.Step.{Step}
use Rattle.mgn_world.specs.Phases.{View}
use Rattle.mgn_world.specs.World.{World, desk_at, in_force, opening, phase_at, planned, run, unit_nets}

-- the history is legal and replays to the state, the last set is in force, and there are at most 1,000,000 entries
pub record IsRun (sets : List Tables) (state : State) (history : List Entry) : Type 0 where
  pub legal : Legal sets history
  pub replayed : state ≡ replay sets history
  pub shown : length sets ≡ state.version + 1
  pub few : length history ≤ 1000000

abbrev pub IsReplayed : World → Type 0
IsReplayed w = IsRun w.sets w.state w.history

-- a set that is gathered is within the limits of set files
abbrev pub IsLimited : Deed → Type 0
IsLimited (Gather set) = IsWithinLimits set
IsLimited _ = Unit {0}

abbrev pub AreLimited : List Step → Type 0
AreLimited [] = Unit {0}
AreLimited (e ∷ es) = IsLimited e.deed × AreLimited es

-- steps of any sessions, in any order, lead to this world
pub record IsReached (w : World) : Type 0 where
  pub set : Tables
  pub steps : List Step
  pub limits : IsWithinLimits set
  pub gathered : AreLimited steps
  pub is : w ≡ run (opening set) steps

-- a number is one of a list
abbrev pub IsAmong : ℕ → List ℕ → Type 0
IsAmong u [] = ⊥
IsAmong u (v ∷ vs) = (u ≡ v) ⊎ IsAmong u vs

-- a desk is empty, or has the nets of the unit under the set of its own version
abbrev pub IsAtRest : List Tables → List AccountState → ℕ → Option MarkedNets → Type 0
IsAtRest sets accounts u None = Unit {0}
IsAtRest sets accounts u (Some m) = (m.version < length sets) × (m.nets ≡ unit_nets (set_at sets m.version) accounts u)

-- a desk is of the looked version, and has the unit's nets changed by exactly the plan
abbrev pub HasPlan : List Tables → List AccountState → View → ℕ → Option MarkedNets → Type 0
HasPlan sets accounts l u None = ⊥
HasPlan sets accounts l u (Some m) =
    (m.version ≡ l.version) × (m.nets ≡ planned l.plan (set_at sets l.version) accounts u)

-- the call of a session, which a switch is not
abbrev pub call_in : Phase → Option Call
call_in Idle = None
call_in (Held k) = Some k
call_in (Looked k l) = Some k
call_in (Applied k l) = Some k
call_in (Failed k l again) = Some k
call_in (Ended k) = Some k
call_in (Gathered g) = None

-- the session at a place is in this call
abbrev pub IsIn : World → ℕ → Call → Type 0
IsIn w p k = call_in (phase_at w p) ≡ Some k

-- the nets of a unit as the state has them, under the set in force
abbrev pub shown_now : World → ℕ → MarkedNets
shown_now w u = record { version = w.state.version; nets = unit_nets (in_force w) w.state.accounts u }

-- the state, as if the day were not over
abbrev pub before_close : State → State
before_close s = record s { closed = false }

-- a set came into force for all units at once: of the state nothing but its version changed, nor any desk
pub record Switches (w v : World) : Type 0 where
  pub set : Tables
  pub sets : v.sets ≡ w.sets ++ set ∷ []
  pub state : v.state ≡ record w.state { version = w.state.version + 1 }
  pub desks : (u : ℕ) → desk_at v u ≡ desk_at w u

-- the sets and the version in force are what they were
pub record KeepsSets (w v : World) : Type 0 where
  pub sets : v.sets ≡ w.sets
  pub version : v.state.version ≡ w.state.version
