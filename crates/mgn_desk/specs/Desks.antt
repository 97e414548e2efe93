-- The desk of a margin unit: empty, or its four portfolios under the set of a version.
use Rattle.std.specs.Prelude.{ℕ, ◌≡◌, ℤ, Option, Some, None}
use Rattle.mgn_params.specs.Tables.{Tables}
use Rattle.mgn_span.specs.Positions.{IsNet}
use Rattle.mgn_span.specs.Scan.{value_at}
use Rattle.mgn_nets.specs.declared.portfolios.Portfolios.{Portfolios}
use Rattle.mgn_nets.specs.Portfolios.{UnitNets}
use Rattle.mgn_desk.specs.declared.desk.Marked.{Marked}
use Rattle.mgn_desk.specs.declared.moves.Moves.{Moves}
use Rattle.mgn_desk.specs.Portfolios.{ArePortfolios, AreRows, AreTogether, CanMove, KeepsTogether, moved_by, nets_of, requirements_of}

pub record DeskRows : Type 0 where
  pub unit : ℕ
  pub marked : Option Marked

-- What a desk shows.

pub record MarkedNets : Type 0 where
  pub version : ℕ
  pub nets : UnitNets

pub record Shown : Type 0 where
  pub unit : ℕ
  pub marked : Option MarkedNets

abbrev pub marked_nets : Option Marked → Option MarkedNets
marked_nets None = None
marked_nets (Some m) = Some (record { version = m.version; nets = nets_of m.portfolios })

abbrev pub shown : DeskRows → Shown
shown d = record { unit = d.unit; marked = marked_nets d.marked }

-- the version that it was marked under
abbrev pub version_of : Option Marked → Option ℕ
version_of None = None
version_of (Some m) = Some m.version

-- the desk with these nets under the set of a version
abbrev pub marked_with : ℕ → ℕ → UnitNets → Shown
marked_with unit version nets = record { unit = unit; marked = Some (record { version = version; nets = nets }) }

-- the desk after moves, in which nothing else changes
abbrev pub moved_marked : Moves → Option MarkedNets → Option MarkedNets
moved_marked m None = None
moved_marked m (Some n) = Some (record { version = n.version; nets = moved_by m n.nets })

abbrev pub moved_desk : Moves → Shown → Shown
moved_desk m d = record { unit = d.unit; marked = moved_marked m d.marked }

-- Facts on a desk's portfolios.

-- it is marked, and all that is kept is that of its nets under this set
abbrev pub IsMarkedBy : Tables → Option Marked → Type 0
IsMarkedBy set None = ⊥
IsMarkedBy set (Some m) = ArePortfolios set m.portfolios

-- it is marked, with the rows that a set asks for
abbrev pub HasRows : Tables → Option Marked → Type 0
HasRows set None = ⊥
HasRows set (Some m) = AreRows set m.portfolios

-- it is marked, with these nets
abbrev pub AreNetsOf : Option Marked → UnitNets → Type 0
AreNetsOf None nets = ⊥
AreNetsOf (Some m) nets = nets ≡ nets_of m.portfolios

-- it is marked, with these nets of a contract
abbrev pub nets_at : UnitNets → ℕ → Portfolios ℤ
nets_at n i = record { lots = value_at n.lots i; buys = value_at n.buys i; sales = value_at n.sales i; all = value_at n.all i }

abbrev pub AreNetsAt : Option Marked → ℕ → Portfolios ℤ → Type 0
AreNetsAt None i nets = ⊥
AreNetsAt (Some m) i nets = nets ≡ nets_at (nets_of m.portfolios) i

-- nets of a contract within their limits
pub record AreInLimits (nets : Portfolios ℤ) : Type 0 where
  pub lots : IsNet nets.lots
  pub buys : IsNet nets.buys
  pub sales : IsNet nets.sales
  pub all : IsNet nets.all

-- its nets stay within their limits after moves
abbrev pub CanMoveMarked : Moves → Option Marked → Type 0
CanMoveMarked moves None = Unit {0}
CanMoveMarked moves (Some m) = CanMove moves (nets_of m.portfolios)

-- what its portfolios require
abbrev pub Requires : Tables → Option Marked → Portfolios ℤ → Type 0
Requires set None r = ⊥
Requires set (Some m) r = r ≡ requirements_of set (nets_of m.portfolios)

-- it is marked, and its portfolios that have the nets of the lots are not apart
abbrev pub IsMarkedTogether : UnitNets → Option Marked → Type 0
IsMarkedTogether nets None = ⊥
IsMarkedTogether nets (Some m) = AreTogether nets (m.portfolios.buys, m.portfolios.sales, m.portfolios.all)

-- its portfolios that move as the lots are apart only if they were
abbrev pub StaysTogether : Moves → Option Marked → Option Marked → Type 0
StaysTogether moves None new = Unit {0}
StaysTogether moves (Some old) None = ⊥
StaysTogether moves (Some old) (Some new) = KeepsTogether moves old.portfolios new.portfolios
