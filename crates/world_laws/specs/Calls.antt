-- The steps of a call, in words of commands, accounts and units.
use Rattle.std.specs.Prelude.{ℕ, ◌≡◌, ◌≢◌, ◌⊎◌, Bool, true, false, Option, None, Some, List, [], ◌∷◌, Ok, Err}
use Rattle.mgn_params.specs.Shelves.{set_at}
use Rattle.mgn_desk.specs.Desks.{MarkedNets}
use Rattle.mgn_machine.specs.declared.command.Command.{Command}
use Rattle.mgn_machine.specs.declared.command.Command.TheVariants as asked
use Rattle.mgn_machine.specs.declared.reply.Refusal.{Refusal}
use Rattle.mgn_machine.specs.declared.request.Request.{Request}
use Rattle.mgn_machine.specs.Refusals.{place_of}
use Rattle.mgn_machine.specs.State.{State, account_at}
use Rattle.mgn_world.specs.Claims.{IsAmong}
use Rattle.mgn_world.specs.declared.phases.Call.{Call}
use Rattle.mgn_world.specs.declared.phases.Deed.{Deed}
use Rattle.mgn_world.specs.declared.phases.Deed.TheVariants.{Begin, Look, Mark, Apply, Commit, Back, End, Gather, Prepare}
use Rattle.mgn_world.specs.declared.phases.Phase.{Phase}
use Rattle.mgn_world.specs.declared.phases.Phase.TheVariants.{Idle, Held, Looked, Applied, Failed, Ended, Gathered}
use Rattle.mgn_world.specs.Phases.{View}
use Rattle.mgn_world.specs.World.{World, desk_at, lock_at, phase_at, plan_units, unit_nets}
use Rattle.world_laws.specs.Moves.{Enters, KeepsBook, KeepsOthers, KeepsUnits}

-- the steps that a session in a phase may make
abbrev pub is_next : Phase → Deed → Bool
is_next Idle (Begin c) = true
is_next Idle (Gather set) = true
is_next (Held k) Look = true
is_next (Looked k l) Mark = true
is_next (Looked k l) Apply = true
is_next (Applied k l) Commit = true
is_next (Failed k l again) Back = true
is_next (Ended k) End = true
is_next (Gathered g) (Prepare u) = true
is_next (Gathered g) Commit = true
is_next phase deed = false

-- the accounts whose units a command has
abbrev pub accounts_of : Command → List (List ℕ)
accounts_of (asked.Trade t) = t.account ∷ []
accounts_of (asked.Bust account lot) = account ∷ []
accounts_of (asked.Hold h) = h.account ∷ []
accounts_of (asked.Fill f) = f.account ∷ []
accounts_of (asked.Release account order) = account ∷ []
accounts_of (asked.Transfer m) = m.from ∷ m.to ∷ []
accounts_of (asked.NewOrigin name mode) = []
accounts_of (asked.NewAccount account origin) = []
accounts_of (asked.Post account class units) = []
accounts_of (asked.Draw account class units) = []
accounts_of (asked.Ask account) = []
accounts_of (asked.Total origin) = []
accounts_of (asked.Statement account) = []
accounts_of asked.EndDay = []

-- each of these accounts is there, and no session holds its unit
abbrev pub AreFree : World → List (List ℕ) → Type 0
AreFree w [] = Unit {0}
AreFree w (name ∷ names) =
    ((k : ℕ) × ((place_of w.state name ≡ Ok k) × (lock_at w (account_at w.state.accounts k).unit ≡ None)))
    × AreFree w names

-- one of these accounts is not there
abbrev pub IsMissingOne : State → List (List ℕ) → Type 0
IsMissingOne s [] = ⊥
IsMissingOne s (name ∷ names) = ((why : Refusal) × (place_of s name ≡ Err why)) ⊎ IsMissingOne s names

-- a unit is that of one of these accounts
abbrev pub IsOfOne : State → List (List ℕ) → ℕ → Type 0
IsOfOne s [] u = ⊥
IsOfOne s (name ∷ names) u =
    ((k : ℕ) × ((place_of s name ≡ Ok k) × ((account_at s.accounts k).unit ≡ u))) ⊎ IsOfOne s names u

-- a session begins the call of a command: it holds the units of its accounts, and nothing else changes
pub record Takes (p : ℕ) (c : Command) (w v : World) : Type 0 where
  pub phase : phase_at v p ≡ Held record { command = c; began = w.state.version; looks = 0 }
  pub others : KeepsOthers p w v
  pub mine : (u : ℕ) → IsOfOne w.state (accounts_of c) u → lock_at v u ≡ Some p
  pub theirs : (u : ℕ) → (IsOfOne w.state (accounts_of c) u → ⊥) → lock_at v u ≡ lock_at w u
  pub desks : (u : ℕ) → desk_at v u ≡ desk_at w u
  pub book : KeepsBook w v

-- a session comes to a phase with one step of the machine; desks and holders are as they were
pub record Commits (p : ℕ) (request : Request) (to : Phase) (w v : World) : Type 0 where
  pub phase : phase_at v p ≡ to
  pub others : KeepsOthers p w v
  pub enters : Enters p request w v
  pub units : KeepsUnits w v

-- the version that a desk is of
abbrev pub marked_under : Option MarkedNets → Option ℕ
marked_under None = None
marked_under (Some m) = Some m.version

-- the desk of a unit of the plan that is not of the looked version is set to it, with the nets that the unit has
pub record MarksDesk (l : View) (u : ℕ) (w v : World) : Type 0 where
  pub of_plan : IsAmong u (plan_units l.plan)
  pub older : marked_under (desk_at w u) ≢ Some l.version
  pub now : desk_at v u
      ≡ Some record { version = l.version; nets = unit_nets (set_at w.sets l.version) w.state.accounts u }
  pub rest : (x : ℕ) → x ≢ u → desk_at v x ≡ desk_at w x

-- a Mark sets one such desk, or all desks of the plan are of the looked version and it changes none
pub record MarksOne (p : ℕ) (l : View) (w v : World) : Type 0 where
  pub phases : (q : ℕ) → phase_at v q ≡ phase_at w q
  pub holders : (u : ℕ) → lock_at v u ≡ lock_at w u
  pub book : KeepsBook w v
  pub desks : (((u : ℕ) → IsAmong u (plan_units l.plan) → marked_under (desk_at w u) ≡ Some l.version)
      × ((u : ℕ) → desk_at v u ≡ desk_at w u))
      ⊎ ((u : ℕ) × MarksDesk l u w v)

-- a call is applied: beside its phase, only desks of units of its plan change
pub record AppliesPlan (p : ℕ) (k : Call) (l : View) (w v : World) : Type 0 where
  pub phase : phase_at v p ≡ Applied k l
  pub others : KeepsOthers p w v
  pub holders : (u : ℕ) → lock_at v u ≡ lock_at w u
  pub desks : (u : ℕ) → (IsAmong u (plan_units l.plan) → ⊥) → desk_at v u ≡ desk_at w u
  pub book : KeepsBook w v
