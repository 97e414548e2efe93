-- The desks of margin units beside the rows of a book (own profile).
use Rattle.std.specs.Prelude.{ℕ, ◌≡◌, ◌≢◌, ◌<◌, ◌≤◌, ◌==◌, ◌||◌, Bool, false, true, List, length, slice_index_or, is_some, Option, Some, None}
use Rattle.mgn_params.specs.Tables.{Tables}
use Rattle.mgn_nets.specs.Portfolios.{AreUnitNets, UnitNets}
use Rattle.mgn_desk.specs.declared.desk.Marked.{Marked}
use Rattle.mgn_desk.specs.declared.moves.Moves.{Moves}
use Rattle.mgn_desk.specs.Desks.{DeskRows}
use Rattle.mgn_desk.specs.Portfolios.{ArePortfolios, nets_of}
use Rattle.mgn_unit.specs.declared.change.Change.{Change}
use Rattle.mgn_unit.specs.declared.row.Row.{Row}
use Rattle.mgn_unit.specs.Rows.{Priced, nets_in}
use Rattle.mgn_plan.specs.declared.plans.Plan.{Plan}
use Rattle.mgn_plan.specs.declared.plans.Plan.TheVariants.{Nothing, One, Two}
use Rattle.mgn_plan.specs.declared.plans.UnitChange.{UnitChange}
use Rattle.mgn_plan.specs.Plans.{moved_nets, planned_nets, row_at}

-- what a change moves in the nets of a desk
abbrev pub moves_of : Change → Moves
moves_of change = record {
  contract = change.contract;
  lots = change.lots.quantity;
  buys = change.buys.quantity;
  sales = change.sales.quantity;
  all = change.all.quantity;
}

-- nets can change so: they are within their limits before and after
pub record CanGain (set : Tables) (nets : UnitNets) (change : Change) : Type 0 where
  pub contract : change.contract < length set.contracts
  pub before : AreUnitNets set nets
  pub after : AreUnitNets set (moved_nets change nets)

-- what is marked on the desk of a unit, nothing where there is no desk
abbrev pub marked_at : List DeskRows → ℕ → Option Marked
marked_at desks u = (slice_index_or desks u record { unit = u; marked = None }).marked

-- the number of the desk at a unit's place, which is the unit's own where there is no desk
abbrev pub number_at : List DeskRows → ℕ → ℕ
number_at desks u = (slice_index_or desks u record { unit = u; marked = None }).unit

-- each desk has the number of its unit
abbrev pub AreNumbered : List DeskRows → Type 0
AreNumbered desks = (u : ℕ) → number_at desks u ≡ u

abbrev pub is_of : ℕ → Option Marked → Bool
is_of version None = false
is_of version (Some m) = m.version == version

-- a desk is marked under the version with these nets, and all that it keeps is that of these nets under the set
pub record IsReadyWith (set : Tables) (version : ℕ) (nets : UnitNets) (m : Marked) : Type 0 where
  pub under : m.version ≡ version
  pub of_set : ArePortfolios set m.portfolios
  pub shows : nets_of m.portfolios ≡ nets

abbrev pub IsReady : Tables → ℕ → UnitNets → Option Marked → Type 0
IsReady set version nets None = ⊥
IsReady set version nets (Some m) = IsReadyWith set version nets m

-- a desk is empty, or of an older version, or ready with these nets
abbrev pub Rests : Tables → ℕ → UnitNets → Option Marked → Type 0
Rests set version nets None = Unit {0}
Rests set version nets (Some m) = (m.version ≤ version) × (m.version ≡ version → IsReadyWith set version nets m)

-- the desks of all units are as a plan would leave their rows
pub record AreDesks (set : Tables) (version : ℕ) (plan : Plan) (rows : List Row) (desks : List DeskRows) : Type 0 where
  pub few : length desks ≤ length rows
  pub each : (u : ℕ) → Rests set version (planned_nets plan u (nets_in (row_at set rows u))) (marked_at desks u)

-- the desks of all other units are as they were
abbrev pub KeepsOthers : ℕ → List DeskRows → List DeskRows → Type 0
KeepsOthers u old new = (k : ℕ) → k ≢ u → marked_at new k ≡ marked_at old k

-- a requirement is told of each unit whose desk is marked under a version, and of no other
abbrev pub AreTold : ℕ → List DeskRows → List (Option Priced) → Type 0
AreTold version desks known = (u : ℕ) → is_some (slice_index_or known u None) ≡ is_of version (marked_at desks u)

-- no desk is marked that was not
abbrev pub StayEmpty : List DeskRows → List DeskRows → Type 0
StayEmpty old new = (u : ℕ) → marked_at old u ≡ None → marked_at new u ≡ None

-- the desks that are marked under a version still are
abbrev pub KeepsMarked : ℕ → List DeskRows → List DeskRows → Type 0
KeepsMarked version old new = (k : ℕ) → is_of version (marked_at old k) ≡ true → is_of version (marked_at new k) ≡ true

-- a unit is one of a plan's
abbrev pub is_planned : Plan → ℕ → Bool
is_planned Nothing k = false
is_planned (One u) k = u.unit == k
is_planned (Two u v) k = (u.unit == k) || (v.unit == k)

-- the desks of all units that are none of a plan's are as they were
abbrev pub KeepsUnplanned : Plan → List DeskRows → List DeskRows → Type 0
KeepsUnplanned plan old new = (k : ℕ) → is_planned plan k ≡ false → marked_at new k ≡ marked_at old k

-- the desks of a plan's units are empty
abbrev pub AreEmpty : Plan → List DeskRows → Type 0
AreEmpty plan desks = (k : ℕ) → is_planned plan k ≡ true → marked_at desks k ≡ None

-- the desk of a unit is ready with its nets after a change
abbrev pub IsMovedBy : Tables → ℕ → List Row → List DeskRows → UnitChange → Type 0
IsMovedBy set version rows desks u =
    IsReady set version (moved_nets u.change (nets_in (row_at set rows u.unit))) (marked_at desks u.unit)

-- the desks of a plan's units are ready with their nets after it
abbrev pub AreReady : Tables → ℕ → Plan → List Row → List DeskRows → Type 0
AreReady set version Nothing rows desks = Unit {0}
AreReady set version (One u) rows desks = IsMovedBy set version rows desks u
AreReady set version (Two u v) rows desks = IsMovedBy set version rows desks u × IsMovedBy set version rows desks v
