-- Since which place a unit has the same nets under the same set (own profile).
use Rattle.std.specs.Prelude.{ℕ, ◌≡◌, ◌⊎◌, ◌-◌, ◌<◌, ◌≤◌, false, List, length, slice_index_or}
use Rattle.mgn_machine.specs.declared.reply.Reply.{Reply}
use Rattle.mgn_machine.specs.declared.reply.Reply.TheVariants.{Done, Figures, NewSet, Refused, Statement, Totals}
use Rattle.mgn_plan.specs.declared.plans.Plan.{Plan}
use Rattle.mgn_plan.specs.declared.plans.Plan.TheVariants.{Nothing, One, Two}
use Rattle.mgn_plan.specs.Plans.{LeavesNets}
use Rattle.mgn_pricing.specs.Desks.{is_planned}
use Rattle.mgn_day.specs.Days.{Day, nets_of, set_of, version_of}

-- a unit has the same nets on two days, under the same version of the same set
pub record SameUnit (before day : Day) (u : ℕ) : Type 0 where
  pub version : version_of before ≡ version_of day
  pub set_is : set_of before ≡ set_of day
  pub nets : nets_of before u ≡ nets_of day u

-- the stamp of a place shows the nets that a unit has now, and the set in force
pub record IsUnchangedSince {T : Type 0} (shown : T → Day) (stamps : List T) (place u : ℕ) (day : Day) : Type 0 where
  pub some : 0 < place
  pub there : place ≤ length stamps
  pub same : (t : T) → SameUnit (shown (slice_index_or stamps (place - 1) t)) day u

-- of each unit such a place
pub record AreUnchangedSince {T : Type 0} (shown : T → Day) (stamps : List T) (places : List ℕ) (day : Day) : Type 0 where
  pub long : length places ≡ length day.book.book.rows
  pub each : (u : ℕ) → u < length places → IsUnchangedSince shown stamps (slice_index_or places u 0) u day

-- what a command changes that is answered so: its plan where it is done
abbrev pub settled : Plan → Reply → Plan
settled plan Done = plan
settled plan (Figures figures) = Nothing
settled plan (Totals totals) = Nothing
settled plan (NewSet told) = Nothing
settled plan (Statement told) = Nothing
settled plan (Refused why) = Nothing

-- what a command leaves of the day that a stamp shows: version and set stay, and the nets are those that its plan gives
pub record Leads {T : Type 0} (shown : T → Day) (old : Day) (plan : Plan) (reply : Reply) (t : T) : Type 0 where
  pub version : version_of (shown t) ≡ version_of old
  pub set_is : set_of (shown t) ≡ set_of old
  pub nets : LeavesNets (set_of old) plan reply old.book.book.rows (shown t).book.book.rows

-- Inside the ledger: how these places are kept.

-- a plan's units are below a number
abbrev pub AreThere : Plan → ℕ → Type 0
AreThere Nothing n = Unit {0}
AreThere (One u) n = u.unit < n
AreThere (Two u v) n = (u.unit < n) × (v.unit < n)

-- a plan's units have this place, and the others the one that they had
pub record AreNoted (plan : Plan) (place : ℕ) (old new : List ℕ) : Type 0 where
  pub long : length new ≡ length old
  pub each : (u : ℕ) → u < length old
      → (slice_index_or new u 0 ≡ place)
      ⊎ ((slice_index_or new u 0 ≡ slice_index_or old u 0) × (is_planned plan u ≡ false))

-- a plan's units, and those that were not there, have this place, and the others the one that they had
pub record AreRenewed (plan : Plan) (units place : ℕ) (old new : List ℕ) : Type 0 where
  pub long : length new ≡ units
  pub each : (u : ℕ) → u < units
      → (slice_index_or new u 0 ≡ place)
      ⊎ ((slice_index_or new u 0 ≡ slice_index_or old u 0) × (u < length old) × (is_planned plan u ≡ false))

-- after a switch that is answered so: all units have this place under a set that came into force, else those that they had
abbrev pub AreSwitched : Reply → ℕ → List ℕ → List ℕ → Type 0
AreSwitched (NewSet told) place old new =
    (length new ≡ length old) × ((u : ℕ) → u < length old → slice_index_or new u 0 ≡ place)
AreSwitched Done place old new = new ≡ old
AreSwitched (Figures figures) place old new = new ≡ old
AreSwitched (Totals totals) place old new = new ≡ old
AreSwitched (Statement told) place old new = new ≡ old
AreSwitched (Refused why) place old new = new ≡ old
