-- What reading a text answers: the number, or why there is none in range (own format).
use Rattle.std.specs.Prelude.{ℕ, ◌^◌, ◌&&◌, nat_le, List, if◌then◌else◌, Option, Some, None, ℤ, pos, negsuc, Result, Ok, Err, unsigned_abs}
use Rattle.mgn_num.specs.Text.{spelled}
use Rattle.mgn_num.specs.declared.reading.NumFault.{NumFault}
use Rattle.mgn_num.specs.declared.reading.NumFault.TheVariants.{Syntax, Range}

-- a number within the limits, a number outside them, no number
abbrev pub number_or_fault : Option ℤ → Result ℤ NumFault
number_or_fault None = Err Syntax
number_or_fault (Some z) = if nat_le (unsigned_abs z) (10 ^ 36) then Ok z else Err Range

-- the number of at most 10^36 in size that a text spells
abbrev pub number_of : List ℕ → Result ℤ NumFault
number_of bytes = number_or_fault (spelled bytes)

-- the number, where it lies between two bounds
abbrev pub within : ℕ → ℕ → Option ℤ → Result ℕ NumFault
within low high None = Err Syntax
within low high (Some (pos n)) = if nat_le low n && nat_le n high then Ok n else Err Range
within low high (Some (negsuc n)) = Err Range

-- the number from `low` to `high` that a word spells
unfoldable pub unsigned_in : ℕ → ℕ → List ℕ → Result ℕ NumFault
unsigned_in low high word = within low high (spelled word)

-- the number, where its size is at most the bound
abbrev pub of_size : ℕ → Option ℤ → Result ℤ NumFault
of_size high None = Err Syntax
of_size high (Some z) = if nat_le (unsigned_abs z) high then Ok z else Err Range

-- the number of at most `high` in size that a word spells
unfoldable pub signed_in : ℕ → List ℕ → Result ℤ NumFault
signed_in high word = of_size high (spelled word)
