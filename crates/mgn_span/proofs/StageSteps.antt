-- Stages, one after the other, and those that form nothing: for `form_spreads`, and for runs that are kept.
use Rattle.std.proofs.Common.{◌≡◌, ℕ, zero, suc, ◌+◌, ◌-◌, ◌≤◌, List, [], ◌∷◌, ◌++◌, slice_index, replicate, arith, refl, Option, Some, None}
use Rattle.std.proofs.lemmas.List.{set-get_or}
use Rattle.std.proofs.Math.Nat.{zero-div}
use Rattle.std.proofs.lemmas.Grind.{common_steps}
use Rattle.std.proofs.lemmas.List.Sums.{fold-append}
use Rattle.mgn_params.specs.declared.tables.SpotCharge.{SpotCharge}
use Rattle.mgn_span.specs.declared.stage.Stage.{Stage}
use Rattle.mgn_span.specs.Spot.{spot_charge_from}
use Rattle.mgn_span.specs.Stages.{amount_of, charges_of, left_after, left_by, used}

-- first some stages, then others
pub left_by-append : (starts : List ℕ) (stages more : List Stage) → left_by starts (stages ++ more) ≡ left_by (left_by starts stages) more
left_by-append starts stages more = fold-append left_after starts stages more

pub charges_of-append : (starts : List ℕ) (stages more : List Stage) → charges_of starts (stages ++ more) ≡ charges_of starts stages + charges_of (left_by starts stages) more
charges_of-append starts [] more = omega arith
charges_of-append starts (s ∷ stages) more = omega (arith, charges_of-append (left_after starts s) stages more)

-- no stage adds to a leg, or makes a row longer
pub left_after_le : (left : List ℕ) (s : Stage) (k : ℕ) → slice_index (left_after left s) k ≤ slice_index left k
left_after_le left s k = grind (arith, common_steps)

pub left_by_le : (starts : List ℕ) (stages : List Stage) (k : ℕ) → slice_index (left_by starts stages) k ≤ slice_index starts k
left_by_le starts [] k = omega arith
left_by_le starts (s ∷ stages) k = omega (arith, left_by_le (left_after starts s) stages k, left_after_le starts s k)

-- a stage that forms nothing changes nothing
used_none : (ratio : ℕ) → used 0 ratio ≡ 0
used_none ratio = omega arith

pub left_after_none : (left : List ℕ) (s : Stage) → amount_of left s ≡ 0 → left_after left s ≡ left
left_after_none left s none =
    let a = slice_index left s.first_leg in
    let b = slice_index left s.second_leg in
    let first : a - used (amount_of left s) s.first_ratio ≡ a = rw (none, used_none s.first_ratio) (omega arith) in
    let second : b - used (amount_of left s) s.second_ratio ≡ b = rw (none, used_none s.second_ratio) (omega arith) in
    rw (first, second, set-get_or left s.first_leg 0, set-get_or left s.second_leg 0) refl

-- of nothing, no stage forms anything
none_at : (n k : ℕ) → slice_index (replicate n 0) k ≡ 0
none_at zero k = refl
none_at (suc n) zero = refl
none_at (suc n) (suc k) = none_at n k

amount_of_nothing : (n : ℕ) (s : Stage) → amount_of (replicate n 0) s ≡ 0
amount_of_nothing n s =
    rw (none_at n s.first_leg, none_at n s.second_leg, zero-div s.first_ratio, zero-div s.second_ratio) refl

pub left_by_nothing : (n : ℕ) (stages : List Stage) → left_by (replicate n 0) stages ≡ replicate n 0
left_by_nothing n [] = refl
left_by_nothing n (s ∷ stages) =
    rw (left_after_none (replicate n 0) s (amount_of_nothing n s)) (left_by_nothing n stages)

pub charges_of_nothing : (n : ℕ) (stages : List Stage) → charges_of (replicate n 0) stages ≡ 0
charges_of_nothing n [] = refl
charges_of_nothing n (s ∷ stages) =
    rw (left_after_none (replicate n 0) s (amount_of_nothing n s), amount_of_nothing n s) (omega (arith, charges_of_nothing n stages))

pub spot_charge_of_nothing : (n : ℕ) (spot : Option SpotCharge) → spot_charge_from (replicate n 0) (replicate n 0) spot ≡ 0
spot_charge_of_nothing n None = refl
spot_charge_of_nothing n (Some spot) = rw (none_at n spot.tier, none_at n (8 + spot.tier)) (omega arith)
