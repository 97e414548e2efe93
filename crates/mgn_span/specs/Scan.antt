-- Scan risk and price risk. A scenario is named by its place in the array, which is its number less 1.
use Rattle.std.specs.Prelude.{ℕ, suc, zero, ◌+◌, ◌-◌, ◌%◌, ◌<◌, ◌==◌, nat_lt, if◌then◌else◌, ℤ, pos, ◌+ℤ◌, ◌-ℤ◌, ◌*ℤ◌, ◌≤ℤ◌, ◌<ℤ◌, int_lt, List, slice_index_or}
use Rattle.std.specs.Int.{int_max}
use Rattle.mgn_num.specs.Signed.{signed_sum_by}
use Rattle.mgn_span.specs.Positions.{Position}

-- the value at a place of an array
abbrev pub value_at : List ℤ → ℕ → ℤ
value_at array s = slice_index_or array s (pos 0)

-- the total of a scenario: the sum over the contracts of the commodity of net quantity times array value (CME SPAN)
abbrev pub scenario_total : ℕ → List Position → ℕ → ℤ
scenario_total commodity portfolio s =
    signed_sum_by (λ p. if p.0.commodity == commodity then p.1 *ℤ value_at p.0.array s else pos 0) portfolio

-- of the scenarios up to `last`, the lowest one with the largest total
abbrev pub lowest_largest : (ℕ → ℤ) → ℕ → ℕ
lowest_largest t zero = 0
lowest_largest t (suc last) =
    let best = lowest_largest t last in if int_lt (t best) (t (suc last)) then suc last else best

-- the active scenario (CME SPAN; the lowest of ties is of this profile)
unfoldable pub active : (ℕ → ℤ) → ℕ
active t = lowest_largest t 15

-- it is the lowest of the 16 with the largest total
pub record IsActive (t : ℕ → ℤ) (s : ℕ) : Type 0 where
  pub scenario : s < 16
  pub largest : (k : ℕ) → k < 16 → t k ≤ℤ t s
  pub lowest : (k : ℕ) → k < s → t k <ℤ t s

-- the largest total, if it is above 0 (CME SPAN)
abbrev pub scan_risk : (ℕ → ℤ) → ℤ
scan_risk t = int_max (pos 0) (t (active t))

-- the other scenario of the same price move; the two extreme ones are their own (CME SPAN)
abbrev pub pair_of : ℕ → ℕ
pair_of s = if nat_lt s 14 then (if s % 2 == 0 then s + 1 else s - 1) else s

-- twice the price risk: the active total and that of its pair, less the two totals of an unmoved price, where both the
-- active total and this are above 0 (own profile, after SPAN)
abbrev pub price_risk2 : (ℕ → ℤ) → ℤ
price_risk2 t =
    let s = active t in
    if int_lt (pos 0) (t s) then int_max (pos 0) (t s +ℤ t (pair_of s) -ℤ t 0 -ℤ t 1) else pos 0
