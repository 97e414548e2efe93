-- The active scenario is the lowest with the largest total, and no other is: for `active_scenario` and its law.
use Rattle.std.proofs.Common.{◌≡◌, ℕ, zero, suc, ◌<◌, ◌≤◌, ⊎_elim, ap, arith}
use Rattle.std.specs.Prelude.{ℤ, ◌≤ℤ◌, ◌<ℤ◌}
use Rattle.std.proofs.lemmas.Bool.{cases_lt}
use Rattle.std.proofs.lemmas.Int.{ints}
use Rattle.mgn_span.specs.Scan.{IsActive, active, lowest_largest, pair_of}

-- what is chosen of the scenarios up to `last` is one of them, none of them is larger, and each lower one is smaller

chosen_within : (t : ℕ → ℤ) (last : ℕ) → lowest_largest t last ≤ last
chosen_within t zero = omega arith
chosen_within t (suc last) = grind (arith, ints, chosen_within t last)

none_larger : (t : ℕ → ℤ) (last k : ℕ) → k ≤ last → t k ≤ℤ t (lowest_largest t last)
none_larger t zero k h = let only : k ≡ 0 = omega arith in omega (arith, ints, ap t only)
none_larger t (suc last) k h =
    ⊎_elim
    (λ (earlier : k < suc last). let before = none_larger t last k (omega arith) in grind (arith, ints))
    (λ (newest : suc last ≤ k). let is : k ≡ suc last = omega arith in grind (arith, ints))
    (cases_lt k (suc last))

lower_smaller : (t : ℕ → ℤ) (last k : ℕ) → k < lowest_largest t last → t k <ℤ t (lowest_largest t last)
lower_smaller t zero k h = absurd (omega arith)
lower_smaller t (suc last) k h =
    grind (arith, ints, chosen_within t last, none_larger t last k, lower_smaller t last k)

pub active_is : (t : ℕ → ℤ) → IsActive t (active t)
unfolding active
active_is t = record {
  scenario = omega (arith, chosen_within t 15);
  largest = λ k h. none_larger t 15 k (omega arith);
  lowest = lower_smaller t 15;
}

-- of two that are active neither stands below the other
not_below : (t : ℕ → ℤ) (a b : ℕ) → IsActive t a → IsActive t b → a < b → ⊥
not_below t a b one other below = omega (arith, ints, one.largest b other.scenario, other.lowest a below)

pub only_active : (t : ℕ → ℤ) (a : ℕ) → IsActive t a → a ≡ active t
only_active t a is =
    omega (arith, not_below t a (active t) is (active_is t), not_below t (active t) a (active_is t) is)

-- the same for a row of the 16 totals
pub active_along : (t u : ℕ → ℤ) (a : ℕ) → ((s : ℕ) → s < 16 → t s ≡ u s) → IsActive t a → a ≡ active u
active_along t u a same is =
    let small = is.scenario in
    let here = same a small in
    only_active u a (record {
      scenario = small;
      largest = λ k h. omega (arith, ints, here, same k h, is.largest k h);
      lowest = λ k h. omega (arith, ints, here, same k (omega arith), is.lowest k h);
    })

pub pair_of_small : (s : ℕ) → s < 16 → pair_of s < 16
pair_of_small s h = grind arith
