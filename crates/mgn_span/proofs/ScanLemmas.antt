-- Scan figures of totals that agree in the 16 scenarios, and their size: for the scan risk of both ways.
use Rattle.std.proofs.Common.{◌≡◌, ℕ, zero, suc, ◌*◌, ◌<◌, ◌≤◌, ap, ◌∙◌, arith, refl, pos, ℤ, unsigned_abs}
use Rattle.std.specs.Int.{int_max}
use Rattle.std.proofs.lemmas.Int.{ints}
use Rattle.mgn_span.proofs.ActiveLemmas.{pair_of_small}
use Rattle.mgn_span.specs.Scan.{lowest_largest, active, scan_risk, pair_of, price_risk2}
use Rattle.mgn_span.specs.Words.{price_risk2_at}

lowest_largest-le : (t : ℕ → ℤ) (last : ℕ) → lowest_largest t last ≤ last
lowest_largest-le t zero = omega arith
lowest_largest-le t (suc last) = let before = lowest_largest-le t last in grind arith

lowest_largest-same : (t u : ℕ → ℤ) (last : ℕ) → ((s : ℕ) → s ≤ last → t s ≡ u s) → lowest_largest t last ≡ lowest_largest u last
lowest_largest-same t u zero same = refl
lowest_largest-same t u (suc last) same =
    let before = lowest_largest-same t u last (λ s h. same s (omega arith)) in
    let low = lowest_largest-le u last in
    rw (before, same (lowest_largest u last) (omega arith), same (suc last) (omega arith)) refl

pub active_small : (t : ℕ → ℤ) → active t < 16
unfolding active
active_small t = omega (arith, lowest_largest-le t 15)

pub active_same : (t u : ℕ → ℤ) → ((s : ℕ) → s < 16 → t s ≡ u s) → active t ≡ active u
unfolding active
active_same t u same = lowest_largest-same t u 15 (λ s h. same s (omega arith))

pub scan_risk_same : (t u : ℕ → ℤ) → ((s : ℕ) → s < 16 → t s ≡ u s) → scan_risk t ≡ scan_risk u
scan_risk_same t u same =
    ap (int_max (pos 0)) (same (active t) (active_small t) ∙ ap u (active_same t u same))

pub price_risk2_same : (t u : ℕ → ℤ) → ((s : ℕ) → s < 16 → t s ≡ u s) → price_risk2 t ≡ price_risk2 u
price_risk2_same t u same =
    let a = active t in
    let h = active_small t in
    let at : price_risk2_at t a ≡ price_risk2_at u a = rw (same a h, same (pair_of a) (pair_of_small a h), same 0 (omega arith), same 1 (omega arith)) refl in
    at ∙ ap (price_risk2_at u) (active_same t u same)

-- four totals of at most `most` in size
pub price_risk2_small : (t : ℕ → ℤ) (most : ℕ) → ((s : ℕ) → s < 16 → unsigned_abs (t s) ≤ most) → unsigned_abs (price_risk2 t) ≤ 4 * most
price_risk2_small t most small =
    let a = active t in
    let h = active_small t in
    let one = small a h in
    let two = small (pair_of a) (pair_of_small a h) in
    let three = small 0 (omega arith) in
    let four = small 1 (omega arith) in
    grind (arith, ints, one, two, three, four)
