-- The sum of a row of which one number is written, for `RiskSum`.
use Rattle.std.proofs.Common.{◌≡◌, ℕ, ◌<◌, List, length, set, pos, ℤ, arith, length-set, get_or-set_same, get_or-set_other}
use Rattle.std.specs.Prelude.{◌+ℤ◌, ◌-ℤ◌}
use Rattle.std.proofs.lemmas.Int.{ints}
use Rattle.mgn_num.specs.Signed.{signed_sum_below}
use Rattle.mgn_span.specs.Scan.{value_at}
use Rattle.mgn_span.proofs.SumLemmas.{signed_sum_below_moved}

-- where one number of a row is written, its sum moves by the difference
pub sum_of_row-set : (row : List ℤ) (g : ℕ) (x : ℤ) → g < length row → signed_sum_below (value_at (set row g x)) (length (set row g x)) ≡ signed_sum_below (value_at row) (length row) -ℤ value_at row g +ℤ x
sum_of_row-set row g x inside =
    let long = length-set row g x in
    let moved = signed_sum_below_moved (value_at row) (value_at (set row g x)) (length row) g inside (λ m other. get_or-set_other row g m x (pos 0) other) in
    let written = get_or-set_same row g x (pos 0) inside in
    rw long (omega (arith, ints, moved, written))
