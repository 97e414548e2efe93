-- Desks under locks of their own, and the stamps that show where their nets stood in the book (own profile).
use Rattle.std.specs.Borrow.{Bor}
use Rattle.std.specs.Prelude.{ℕ, ◌≡◌, Option, Some, None, IfSome}
use Rattle.mgn_params.specs.Tables.{Tables}
use Rattle.mgn_nets.specs.Portfolios.{UnitNets}
use Rattle.mgn_desk.specs.Desks.{DeskRows}
use Rattle.mgn_unit.specs.declared.change.Change.{Change}
use Rattle.mgn_plan.specs.declared.plans.UnitChange.{UnitChange}
use Rattle.mgn_unit_desk.specs.declared.sight.UnitMove.{UnitMove}
use Rattle.mgn_plan.specs.Plans.{moved_nets}
use Rattle.mgn_pricing.specs.Desks.{CanGain, IsReady}
use Rattle.mgn_day.specs.Changes.{SameUnit}
use Rattle.mgn_day.specs.Days.{Day, nets_of, set_of, version_of}

-- a desk has the nets that its unit had on a day, and all that it keeps is that of these under the set of the day
abbrev pub IsOfDay : Day → DeskRows → Type 0
IsOfDay day desk = IsReady (set_of day) (version_of day) (nets_of day desk.unit) desk.marked

-- a desk with a stamp is of the day that the stamp shows; one without counts as empty
abbrev pub IsInStep : {T : Type 0} → (T → Day) → DeskRows → Option (ℕ × T) → Type 0
IsInStep shown desk None = Unit {0}
IsInStep shown desk (Some at) = IsOfDay (shown at.1) desk

-- where a desk has a stamp and a set, the set is that of the day that the stamp shows
abbrev pub IsSetAt : {T : Type 0} → (T → Day) → Option (ℕ × T) → Option (Bor Tables) → Type 0
IsSetAt shown None set = Unit {0}
IsSetAt shown (Some at) None = Unit {0}
IsSetAt shown (Some at) (Some set) = set.now ≡ set_of (shown at.1)

-- what a plan's change is of its unit
abbrev pub moved_in : UnitChange → UnitMove
moved_in u = record { unit = u.unit; change = u.change }

-- what was looked at of a unit is that of the day that the stamp shows: version, set and nets, which can change so
pub record IsSight {T : Type 0} (shown : T → Day) (u : UnitMove) (version : ℕ) (set : Tables) (at : ℕ × T) (nets : Option UnitNets) : Type 0 where
  pub version_is : version ≡ version_of (shown at.1)
  pub set_is : set ≡ set_of (shown at.1)
  pub can : CanGain set (nets_of (shown at.1) u.unit) u.change
  pub copied : IfSome nets (λ n. n ≡ nets_of (shown at.1) u.unit)

-- a desk has the nets of a day after a change of its unit
abbrev pub IsMovedOf : Day → UnitMove → DeskRows → Type 0
IsMovedOf day u desk =
    IsReady (set_of day) (version_of day) (moved_nets u.change (nets_of day u.unit)) desk.marked

abbrev pub IsMoved : {T : Type 0} → (T → Day) → UnitMove → T → DeskRows → Type 0
IsMoved shown u t desk = IsMovedOf (shown t) u desk

-- a day has the set of an earlier one, and a unit's nets after a change
pub record IsAfterDay (before after : Day) (u : UnitMove) : Type 0 where
  pub version : version_of after ≡ version_of before
  pub set_is : set_of after ≡ set_of before
  pub nets : nets_of after u.unit ≡ moved_nets u.change (nets_of before u.unit)

abbrev pub IsAfter : {T : Type 0} → (T → Day) → UnitMove → T → T → Type 0
IsAfter shown u before after = IsAfterDay (shown before) (shown after) u

-- two changes move the same nets by as much
pub record SameMoves (a b : Change) : Type 0 where
  pub contract : a.contract ≡ b.contract
  pub lots : a.lots.quantity ≡ b.lots.quantity
  pub buys : a.buys.quantity ≡ b.buys.quantity
  pub sales : a.sales.quantity ≡ b.sales.quantity
  pub all : a.all.quantity ≡ b.all.quantity

-- a change is of the unit that was looked at and moves its nets by as much, and the unit has the same nets under the same set
pub record IsAsSeen {T : Type 0} (shown : T → Day) (day : Day) (now : UnitChange) (u : UnitMove) (t : T) : Type 0 where
  pub unit : now.unit ≡ u.unit
  pub moves : SameMoves now.change u.change
  pub same : SameUnit (shown t) day now.unit
