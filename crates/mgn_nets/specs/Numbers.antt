-- Quantities at places of a list.
use Rattle.std.specs.Prelude.{ℕ, ℤ, pos, Option, None, Some, List}
use Rattle.mgn_span.specs.Scan.{value_at}

-- the number at a place of a row, 0 where there is no place
abbrev pub number_at : List ℤ → Option ℕ → ℤ
number_at row None = pos 0
number_at row (Some i) = value_at row i
