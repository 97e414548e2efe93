-- What the rows of all units become under another set.
use Rattle.std.specs.Prelude.{ℕ, ◌≡◌, ◌<◌, ℤ, List, length, slice_index_or}
use Rattle.mgn_params.specs.Tables.{Tables}
use Rattle.mgn_span.specs.Scan.{value_at}
use Rattle.mgn_unit.specs.declared.amounts.NewRows.{NewRows}
use Rattle.mgn_unit.specs.declared.amounts.NewRows.TheVariants.{Kept, Moved}
use Rattle.mgn_unit.specs.declared.row.Row.{Row}
use Rattle.mgn_unit.specs.Amounts.{AreAfter}
use Rattle.mgn_unit.specs.NewSets.{unit_gain}
use Rattle.mgn_register.specs.BookStates.{BookState, IsUnitRow}

-- how much more the collateral of each unit is worth under the new set
pub record AreGains (old new : Tables) (f : BookState) (gains : List ℤ) : Type 0 where
  pub one_each : length gains ≡ length f.rows
  pub are : (u : ℕ) → u < length f.rows → value_at gains u ≡ unit_gain old new f.state.accounts u

-- amounts stand for each unit
abbrev pub FitRows : NewRows → List Row → Type 0
FitRows (Kept amounts) old = length amounts.items ≡ length old
FitRows (Moved rows) old = Unit {0}

-- rows that are made anew leave those before
abbrev pub spent_by : NewRows → List Row → List Row → List Row
spent_by (Kept amounts) old spent = spent
spent_by (Moved rows) old spent = old

-- what the rows of all units become is the rows of the state under a set
pub record AreNewRows (set : Tables) (f : BookState) (rows : NewRows) : Type 0 where
  pub fit : FitRows rows f.rows
  pub long : (after : List Row) → AreAfter rows f.rows after → length after ≡ length f.rows
  pub are : (after : List Row) → AreAfter rows f.rows after → (u : ℕ) (d : Row) → u < length after → IsUnitRow set f.state.accounts u (slice_index_or after u d)
