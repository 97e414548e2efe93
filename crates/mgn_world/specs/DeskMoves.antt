-- Desks of a run as its steps move them (own profile).
use Rattle.std.specs.Prelude.{ℕ, ◌≡◌, ◌≢◌, ◌<◌, All, Option, None, Some, List, length, slice_index_or}
use Rattle.mgn_params.specs.Tables.{Tables}
use Rattle.mgn_params.specs.Shelves.{set_at}
use Rattle.mgn_desk.specs.declared.desk.Marked.{Marked}
use Rattle.mgn_desk.specs.declared.moves.Moves.{Moves}
use Rattle.mgn_desk.specs.Desks.{DeskRows, MarkedNets, marked_nets}
use Rattle.mgn_desk.specs.Portfolios.{ArePortfolios, CanMove, opposite}
use Rattle.mgn_plan.specs.declared.plans.Plan.{Plan}
use Rattle.mgn_plan.specs.declared.plans.Plan.TheVariants.{Nothing, One, Two}
use Rattle.mgn_pricing.specs.Desks.{moves_of}

abbrev pub desk_shown : DeskRows → Option MarkedNets
desk_shown desk = marked_nets desk.marked

-- all that a marked desk keeps is that of its nets, under the set of its version
abbrev pub IsRightIn : List Tables → Option Marked → Type 0
IsRightIn sets None = Unit {0}
IsRightIn sets (Some m) = (m.version < length sets) × ArePortfolios (set_at sets m.version) m.portfolios

-- each desk is that of the unit at its place, and right
pub record AreRightDesks (sets : List Tables) (desks : List DeskRows) : Type 0 where
  pub numbered : (u : ℕ) (d : DeskRows) → u < length desks → (slice_index_or desks u d).unit ≡ u
  pub right : All (λ (d : DeskRows). IsRightIn sets d.marked) desks

-- a desk is of a version, and its nets stay within their limits after moves
pub record CanTake (set : Tables) (version : ℕ) (moves : Moves) (m : MarkedNets) : Type 0 where
  pub under : m.version ≡ version
  pub contract : moves.contract < length set.contracts
  pub moved : CanMove moves m.nets

abbrev pub IsReadyFor : Tables → ℕ → Moves → Option MarkedNets → Type 0
IsReadyFor set version moves None = ⊥
IsReadyFor set version moves (Some m) = CanTake set version moves m

-- the desks of a plan's units can take it
abbrev pub AreReadyFor : Tables → ℕ → Plan → List (Option MarkedNets) → Type 0
AreReadyFor set version Nothing desks = Unit {0}
AreReadyFor set version (One u) desks =
    IsReadyFor set version (moves_of u.change) (slice_index_or desks u.unit None)
AreReadyFor set version (Two u v) desks =
    IsReadyFor set version (moves_of u.change) (slice_index_or desks u.unit None)
    × IsReadyFor set version (moves_of v.change) (slice_index_or desks v.unit None)
    × (v.unit ≢ u.unit)

-- and give it back
abbrev pub CanGiveBack : Tables → ℕ → Plan → List (Option MarkedNets) → Type 0
CanGiveBack set version Nothing desks = Unit {0}
CanGiveBack set version (One u) desks =
    IsReadyFor set version (opposite (moves_of u.change)) (slice_index_or desks u.unit None)
CanGiveBack set version (Two u v) desks =
    IsReadyFor set version (opposite (moves_of u.change)) (slice_index_or desks u.unit None)
    × IsReadyFor set version (opposite (moves_of v.change)) (slice_index_or desks v.unit None)
    × (v.unit ≢ u.unit)
