-- The rows that a calculation keeps: one for each commodity of a set, in file order.
use Rattle.std.specs.Prelude.{ℕ, Bool, true, List, [], slice_index_or, slice_index}

-- the row of a commodity's legs
abbrev pub legs_row : List (List ℕ) → ℕ → List ℕ
legs_row rows commodity = slice_index_or rows commodity []

-- the number of a leg
abbrev pub leg_of : List (List ℕ) → ℕ → ℕ → ℕ
leg_of rows commodity leg = slice_index (legs_row rows commodity) leg

-- whether a commodity is marked
abbrev pub mark_at : List Bool → ℕ → Bool
mark_at marks commodity = slice_index_or marks commodity true
