-- What was prepared of a unit, portfolio by portfolio: for `Row::under`.
use Rattle.std.proofs.Common.{◌≡◌, List, subst, sym}
use Rattle.std.specs.Prelude.{IfSome, IsSomeAnd, None, Option, Some, ℤ}
use Rattle.std.specs.Option.{option_map}
use Rattle.mgn_params.specs.Tables.{Tables}
use Rattle.mgn_unit.specs.declared.row.PreparedPortfolio.{PreparedPortfolio}
use Rattle.mgn_unit.specs.declared.row.Row.{Row}
use Rattle.mgn_unit.specs.NewSets.{IsPrepared, IsPreparedPortfolio, PreparedUnit, carried}
use Rattle.mgn_unit.specs.Prepared.{AreCarried}
use Rattle.mgn_unit.specs.Rows.{nets_in}

-- a part is for these nets
abbrev IsFor : List ℤ → Option PreparedPortfolio → Type 0
IsFor nets part = IsSomeAnd part (λ it. it.nets ≡ nets)

-- a part of what was prepared for the nets of a row is for those that the row carries over
pub part-carried : (of : PreparedUnit → PreparedPortfolio) (old new : Tables) (row : Row) (nets : List ℤ) (p : Option PreparedUnit) (part : Option PreparedPortfolio) → ((it : PreparedUnit) → AreCarried old new (nets_in row) it → (of it).nets ≡ carried old new nets) → part ≡ option_map of p → IsSomeAnd p (AreCarried old new (nets_in row)) → IsFor (carried old new nets) part
part-carried of old new row nets p part each is are = subst (IsFor (carried old new nets)) (sym is) (by p are)
  where
    by : (p : Option PreparedUnit) → IsSomeAnd p (AreCarried old new (nets_in row)) → IsFor (carried old new nets) (option_map of p)
    by None are = are
    by (Some it) are = each it are

pub all-prepared : (set : Tables) (p : Option PreparedUnit) → IfSome p (IsPrepared set) → IfSome (option_map (λ (it : PreparedUnit). it.all) p) (IsPreparedPortfolio set)
all-prepared set None are = are
all-prepared set (Some it) are = are.all
