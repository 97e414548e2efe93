-- What there is of a day: the sets of the shelf by version, and the book (own profile).
use Rattle.std.specs.Prelude.{ℕ, List}
use Rattle.mgn_params.specs.Shelves.{set_at}
use Rattle.mgn_params.specs.Tables.{Tables}
use Rattle.mgn_nets.specs.Portfolios.{UnitNets}
use Rattle.mgn_unit.specs.Rows.{nets_in}
use Rattle.mgn_plan.specs.Plans.{row_at}
use Rattle.mgn_register.specs.BookStates.{BookView}

pub record Day : Type 0 where
  pub sets : List Tables
  pub book : BookView

-- the version in force
abbrev pub version_of : Day → ℕ
version_of day = day.book.book.state.version

-- the set in force
abbrev pub set_of : Day → Tables
set_of day = set_at day.sets (version_of day)

-- the nets of a unit
abbrev pub nets_of : Day → ℕ → UnitNets
nets_of day u = nets_in (row_at (set_of day) day.book.book.rows u)
