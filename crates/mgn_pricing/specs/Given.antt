-- Desks that are given with a command, and whether they fit the rows that it changes (own profile).
use Rattle.std.specs.Prelude.{ℕ, ◌≡◌, ◌==◌, ◌&&◌, Bool, true, false, nat_lt, ℤ, List, Option, Some, None}
use Rattle.std.specs.Cmp.Lexicographic.{pointwise}
use Rattle.std.specs.List.{find, list_any}
use Rattle.std.specs.Ordering.{int_eq}
use Rattle.mgn_params.specs.Tables.{Tables}
use Rattle.mgn_nets.specs.Portfolios.{UnitNets}
use Rattle.mgn_desk.specs.declared.desk.Marked.{Marked}
use Rattle.mgn_desk.specs.Desks.{DeskRows}
use Rattle.mgn_desk.specs.Portfolios.{ArePortfolios, nets_of}
use Rattle.mgn_unit.specs.declared.row.Row.{Row}
use Rattle.mgn_unit.specs.Rows.{nets_in}
use Rattle.mgn_plan.specs.declared.plans.Plan.{Plan}
use Rattle.mgn_plan.specs.declared.plans.Plan.TheVariants.{Nothing, One, Two}
use Rattle.mgn_plan.specs.declared.plans.UnitChange.{UnitChange}
use Rattle.mgn_plan.specs.Plans.{moved_nets, row_at}

abbrev pub marked_in : Option DeskRows → Option Marked
marked_in None = None
marked_in (Some desk) = desk.marked

-- what is marked on the desk of a unit, nothing where the unit has no desk among these
abbrev pub desk_of : ℕ → List DeskRows → Option Marked
desk_of u desks = marked_in (find (λ d. d.unit == u) desks)

-- marked under a version before this one
abbrev pub is_older : ℕ → Option Marked → Bool
is_older version None = false
is_older version (Some m) = nat_lt m.version version

abbrev pub is_one_older : ℕ → List DeskRows → Bool
is_one_older version desks = list_any (λ d. is_older version d.marked) desks

abbrev pub same_nets : List ℤ → List ℤ → Bool
same_nets = pointwise int_eq

abbrev pub same_four : UnitNets → UnitNets → Bool
same_four m n =
    same_nets m.lots n.lots && (same_nets m.buys n.buys && (same_nets m.sales n.sales && same_nets m.all n.all))

-- a desk is marked with these nets, and under the version
abbrev pub has_nets : UnitNets → Option Marked → Bool
has_nets nets None = false
has_nets nets (Some m) = same_four (nets_of m.portfolios) nets

abbrev pub fits : ℕ → UnitNets → Option Marked → Bool
fits version nets None = false
fits version nets (Some m) = m.version == version && same_four (nets_of m.portfolios) nets

-- the desk of a unit has the nets of its row after a change
abbrev pub fits_change : Tables → ℕ → List Row → List DeskRows → UnitChange → Bool
fits_change set version rows desks u =
    fits version (moved_nets u.change (nets_in (row_at set rows u.unit))) (desk_of u.unit desks)

-- each unit of a plan has a desk with the nets of its row after the plan
abbrev pub fit_plan : Tables → ℕ → List Row → List DeskRows → Plan → Bool
fit_plan set version rows desks Nothing = true
fit_plan set version rows desks (One u) = fits_change set version rows desks u
fit_plan set version rows desks (Two u v) = fits_change set version rows desks u && fits_change set version rows desks v

-- a desk that is marked under the version keeps what is that of its nets under the set
abbrev pub IsRight : Tables → ℕ → Option Marked → Type 0
IsRight set version None = Unit {0}
IsRight set version (Some m) = m.version ≡ version → ArePortfolios set m.portfolios
