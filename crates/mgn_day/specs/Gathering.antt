-- What a switch is prepared from, and what is known of it later by the stamps of its units (own profile).
use Rattle.std.specs.Prelude.{ℕ, ◌≡◌, ◌<◌, List, None, Option, Some, length, slice_index_or}
use Rattle.mgn_params.specs.Tables.{Tables}
use Rattle.mgn_nets.specs.Portfolios.{UnitNets}
use Rattle.mgn_unit.specs.Prepared.{AreCarried}
use Rattle.mgn_unit.specs.NewSets.{PreparedUnit}
use Rattle.mgn_day.specs.Changes.{SameUnit}
use Rattle.mgn_day.specs.Days.{Day, nets_of, set_of}

-- the day that a stamp shows has this set in force, and these nets of a unit
pub record IsSeen (day : Day) (set : Tables) (u : ℕ) (nets : UnitNets) : Type 0 where
  pub set_is : set ≡ set_of day
  pub nets_are : nets ≡ nets_of day u

abbrev pub AreSeen : {T : Type 0} → (T → Day) → Tables → List UnitNets → List (ℕ × T) → Type 0
AreSeen shown set nets since =
    (u : ℕ) (n : UnitNets) (s : _) → u < length since → IsSeen (shown (slice_index_or since u s).1) set u (slice_index_or nets u n)

-- a unit has its nets, under the set in force, since the entry that its stamp shows
abbrev pub IsUnchanged : {T : Type 0} → (T → Day) → Day → List (ℕ × T) → ℕ → Type 0
IsUnchanged shown day since u = (u < length since) × ((s : _) → SameUnit (shown (slice_index_or since u s).1) day u)

-- what was prepared of each unit is for the nets that its stamp shows, under the set of that day
abbrev pub AreReady : {T : Type 0} → (T → Day) → Tables → List (Option PreparedUnit) → List (ℕ × T) → Type 0
AreReady shown new units since =
    (u : ℕ) (one : PreparedUnit) (s : _) → u < length since → slice_index_or units u None ≡ Some one →
    let day = shown (slice_index_or since u s).1 in
    AreCarried (set_of day) new (nets_of day u) one
