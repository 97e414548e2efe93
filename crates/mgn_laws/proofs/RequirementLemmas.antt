-- What is owed is never below 0, and a scan never above the worst cases: for the laws of requirements.
use Rattle.std.proofs.Common.{ℕ, ◌<◌, List, [], ◌∷◌, arith}
use Rattle.std.specs.Prelude.{ℤ, pos, ◌≤ℤ◌}
use Rattle.std.proofs.lemmas.Int.{clamps, ints}
use Rattle.mgn_num.proofs.SignedLemmas.{signed_sum_by-cons}
use Rattle.mgn_laws.specs.Worst.{own_worst, worst_cases}
use Rattle.mgn_span.specs.Positions.{Position}
use Rattle.mgn_span.specs.Requirement.{requirement, scan_of}
use Rattle.mgn_span.specs.Scan.{active, scan_risk, scenario_total}
use Rattle.mgn_span.specs.Words.{scenario_share}
use Rattle.mgn_params.specs.Tables.{Tables}
use Rattle.mgn_span.proofs.ActiveLemmas.{active_is}

-- no total is above the scan risk
total_le_scan : (t : ℕ → ℤ) (s : ℕ) → s < 16 → t s ≤ℤ scan_risk t
total_le_scan t s h = omega (arith, ints, clamps, (active_is t).largest s h)

scan_not_negative : (t : ℕ → ℤ) → pos 0 ≤ℤ scan_risk t
scan_not_negative t = omega (arith, ints, clamps)

worst_not_negative : (g : ℕ) (portfolio : List Position) → pos 0 ≤ℤ worst_cases g portfolio
worst_not_negative g [] = omega (arith, ints)
worst_not_negative g (p ∷ portfolio) =
    omega (arith, ints, signed_sum_by-cons (own_worst g) p portfolio, scan_not_negative (λ s. scenario_share g s p), worst_not_negative g portfolio)

total_le_worst : (g s : ℕ) → s < 16 → (portfolio : List Position) → scenario_total g portfolio s ≤ℤ worst_cases g portfolio
total_le_worst g s h [] = omega (arith, ints)
total_le_worst g s h (p ∷ portfolio) =
    omega (arith, ints, signed_sum_by-cons (own_worst g) p portfolio, signed_sum_by-cons (scenario_share g s) p portfolio, total_le_scan (λ k. scenario_share g k p) s h, total_le_worst g s h portfolio)

-- a scan never exceeds the positions' own worst cases together
pub scan_le_worst : (g : ℕ) (portfolio : List Position) → scan_of portfolio g ≤ℤ worst_cases g portfolio
scan_le_worst g portfolio =
    let total = total_le_worst g (active (scenario_total g portfolio)) (active_is (scenario_total g portfolio)).scenario portfolio in
    omega (arith, ints, clamps, total, worst_not_negative g portfolio)

-- no requirement is negative
pub requirement_not_negative : (set : Tables) (nets : List ℤ) → pos 0 ≤ℤ requirement set nets
unfolding requirement
requirement_not_negative set nets = omega (arith, ints, clamps)
