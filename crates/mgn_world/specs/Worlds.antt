-- The world that a run keeps: what it is shown as, and what is true of it beside that (own profile).
use Rattle.std.specs.Prelude.{ℕ, ◌≡◌, ◌≢◌, ◌<◌, ◌==◌, All, if◌then◌else◌, Option, None, Some, List, [], ◌∷◌, length, map, slice_get, slice_index_or}
use Rattle.mgn_params.specs.Shelves.{set_at}
use Rattle.mgn_params.specs.Tables.{Tables}
use Rattle.mgn_nets.specs.Portfolios.{AreUnitNets, UnitNets}
use Rattle.mgn_desk.specs.Desks.{MarkedNets}
use Rattle.mgn_desk.specs.Portfolios.{CanMove, requirements_of}
use Rattle.mgn_unit.specs.declared.change.Change.{Change}
use Rattle.mgn_unit.specs.declared.row.Row.{Row}
use Rattle.mgn_unit.specs.Rows.{Priced, nets_in, row_of}
use Rattle.mgn_plan.specs.declared.plans.Plan.{Plan}
use Rattle.mgn_plan.specs.declared.plans.Plan.TheVariants.{Nothing, One, Two}
use Rattle.mgn_pricing.specs.Desks.{moves_of}
use Rattle.mgn_book.specs.BookViews.{Stands}
use Rattle.mgn_world.specs.declared.phases.Phase.{Phase}
use Rattle.mgn_world.specs.declared.phases.Phase.TheVariants.{Idle, Held, Looked, Applied, Failed, Ended, Gathered}
use Rattle.mgn_world.specs.declared.state.WorldState.{WorldState}
use Rattle.mgn_world.specs.DeskMoves.{AreRightDesks, desk_shown}
use Rattle.mgn_world.specs.Phases.{Gathering, View}
use Rattle.mgn_world.specs.declared.phases.Seen.{Seen}
use Rattle.mgn_world.specs.World.{World, in_force, no_nets}

-- the world that is kept, as the definition has it
abbrev pub shown : WorldState → World
shown w = record {
  sets = w.shelf;
  state = w.book.book.state;
  history = w.book.history;
  desks = map desk_shown w.desks.items;
  locks = w.locks.items;
  phases = w.phases.items;
}

-- rows of a world: one for each unit that was made, worked out from lots, holds and collateral under the set in force
pub record AreRows (w : World) (rows : List Row) : Type 0 where
  pub one_each : length rows ≡ w.state.units
  pub each : (u : ℕ) (row : Row) → u < length rows → slice_index_or rows u row ≡ row_of (in_force w) w.state.accounts u

-- what a desk requires: what its own nets do, under the set of its version
abbrev pub required : List Tables → Option MarkedNets → Option Priced
required sets None = None
required sets (Some m) = Some (requirements_of (set_at sets m.version) m.nets)

abbrev pub row_nets : Option Row → UnitNets
row_nets None = no_nets
row_nets (Some row) = nets_in row

-- a unit with the nets of its row
abbrev pub seen_in : List Row → ℕ → Seen
seen_in rows u = record { unit = u; nets = row_nets (slice_get rows u) }

-- the nets of a unit as they were looked at
abbrev pub nets_seen : List Seen → ℕ → UnitNets
nets_seen [] u = no_nets
nets_seen (x ∷ xs) u = if x.unit == u then x.nets else nets_seen xs u

-- nets stay within their limits after a change
pub record CanFollow (set : Tables) (change : Change) (nets : UnitNets) : Type 0 where
  pub contract : change.contract < length set.contracts
  pub moved : CanMove (moves_of change) nets

abbrev pub CanFollowPlan : Tables → List Seen → Plan → Type 0
CanFollowPlan set seen Nothing = Unit {0}
CanFollowPlan set seen (One u) = CanFollow set u.change (nets_seen seen u.unit)
CanFollowPlan set seen (Two u v) =
    CanFollow set u.change (nets_seen seen u.unit)
    × CanFollow set v.change (nets_seen seen v.unit)
    × (v.unit ≢ u.unit)

-- what was looked at: the nets of units that are there, within their limits under the set, after the plan too
pub record IsSeen (sets : List Tables) (units : ℕ) (l : View) : Type 0 where
  pub inside : l.version < length sets
  pub there : All (λ (x : Seen). x.unit < units) l.seen
  pub nets : All (λ (x : Seen). AreUnitNets (set_at sets l.version) x.nets) l.seen
  pub plan : CanFollowPlan (set_at sets l.version) l.seen l.plan

-- what was gathered: nets within their limits under the set of then
pub record IsGathered (sets : List Tables) (g : Gathering) : Type 0 where
  pub inside : g.version < length sets
  pub nets : All (AreUnitNets (set_at sets g.version)) g.nets

abbrev pub IsPhase : List Tables → ℕ → Phase → Type 0
IsPhase sets units Idle = Unit {0}
IsPhase sets units (Held k) = Unit {0}
IsPhase sets units (Looked k l) = IsSeen sets units l
IsPhase sets units (Applied k l) = IsSeen sets units l
IsPhase sets units (Failed k l again) = IsSeen sets units l
IsPhase sets units (Ended k) = Unit {0}
IsPhase sets units (Gathered g) = IsGathered sets g

-- what is true of the world that is kept after every step, beside what is true of the definition's: the rows of the book
-- are those of its state, all that desks keep is right, and each view and gathering was one of the sets of then
pub record IsSound (w : WorldState) : Type 0 where
  pub book : Stands w.shelf w.book
  pub sixteen : length w.phases.items ≡ 16
  pub desks : AreRightDesks w.shelf w.desks.items
  pub phases : All (IsPhase w.shelf (length w.desks.items)) w.phases.items
