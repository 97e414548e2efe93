-- Nets of which some more are held of one contract.
use Rattle.std.specs.Prelude.{ℕ, zero, suc, ◌+◌, ◌-◌, ◌^◌, min, ◌==◌, if◌then◌else◌, ℤ, ◌+ℤ◌, unsigned_abs, List, slice_set}
use Rattle.mgn_span.specs.Scan.{value_at}

-- a quantity more at a place
abbrev pub more_of : List ℤ → ℕ → ℤ → List ℤ
more_of nets i quantity = slice_set nets i (value_at nets i +ℤ quantity)

-- how many risk arrays are read for it: none where it is 0
abbrev pub arrays_of_quantity : ℤ → ℕ
arrays_of_quantity quantity = if unsigned_abs quantity == 0 then 0 else 1

-- a count of arrays after some more, which stays at its greatest value
abbrev pub counted : ℕ → ℕ → ℕ
counted arrays zero = arrays
counted arrays (suc more) = min (arrays + suc more) (2 ^ 64 - 1)
