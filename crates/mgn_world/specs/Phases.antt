-- What a session knows of its call (own profile).
use Rattle.std.specs.Prelude.{ℕ, ◌≡◌, Bool, List, Option, length}
use Rattle.mgn_params.specs.Tables.{Tables}
use Rattle.mgn_nets.specs.Portfolios.{UnitNets}
use Rattle.mgn_unit.specs.NewSets.{ArePrepared, PreparedUnit}
use Rattle.mgn_plan.specs.declared.plans.Plan.{Plan}
use Rattle.mgn_world.specs.declared.phases.Seen.{Seen}

-- what a Look took: the version in force, what the command then changes, and the units of this plan, in order of
-- their numbers
pub record View : Type 0 where
  pub version : ℕ
  pub plan : Plan
  pub seen : List Seen

-- what a Gather took for a switch: the set, the version in force, the nets of all units, and which of these were
-- worked out under the set since
pub record Gathering : Type 0 where
  pub set : Tables
  pub version : ℕ
  pub nets : List UnitNets
  pub prepared : List Bool

-- Inside.

-- what was worked out is what the nets require under the set, and it stands in a list as long as that of the nets
pub record IsGathering (set : Tables) (nets : List UnitNets) (prepared : List (Option PreparedUnit)) : Type 0 where
  pub prepared_are : ArePrepared set prepared
  pub long : length prepared ≡ length nets
