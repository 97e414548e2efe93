-- Risks with their sum, as `RiskSum` keeps it.
use Rattle.std.proofs.Common.{ℕ, ◌*◌, ◌<◌, ◌≤◌, ◌^◌, List, length, set, pos, ℤ, unsigned_abs, ap, ◌∙◌, sym, arith, replicate, length-set}
use Rattle.std.specs.Prelude.{◌+ℤ◌, ◌-ℤ◌}
use Rattle.std.proofs.lemmas.Int.{ints}
use Rattle.std.proofs.lemmas.List.{get_or-replicate, length-replicate}
use Rattle.std.proofs.lemmas.List.Elements.{All-replicate, All-set}
use Rattle.mgn_span.specs.Scan.{value_at}
use Rattle.mgn_span.proofs.SumLemmas.{signed_sum_below_none, signed_sum_below_small}
use Rattle.mgn_desk.specs.Risks.{AreSummed, IsRisk}
use Rattle.mgn_desk.proofs.SumLemmas.{sum_of_row-set}

pub sum_small : (risks : List ℤ) (sum : ℤ) → AreSummed risks sum → unsigned_abs sum ≤ 8 * 10 ^ 29
sum_small risks sum are =
    let small = signed_sum_below_small (value_at risks) (3 * 10 ^ 27) (length risks) (λ m h. are.small m (pos 0) h) in
    omega (arith, ints, small, are.is, are.few)

pub summed_none : (n : ℕ) → n ≤ 256 → AreSummed (replicate n (pos 0)) (pos 0)
summed_none n few =
    let long = length-replicate {A = ℤ} n (pos 0) in
    record {
      few = omega (arith, long);
      small = All-replicate IsRisk n (pos 0) (omega (arith, ints));
      is = rw long (sym (signed_sum_below_none (value_at (replicate n (pos 0))) n (λ m h. get_or-replicate n m (pos 0) (pos 0) h)));
    }

pub summed_written : (risks : List ℤ) (sum x : ℤ) (g : ℕ) → AreSummed risks sum → g < length risks → IsRisk x → AreSummed (set risks g x) (sum -ℤ value_at risks g +ℤ x)
summed_written risks sum x g are h small = record {
  few = omega (arith, length-set risks g x, are.few);
  small = All-set IsRisk risks g x small are.small;
  is = ap (λ (s : ℤ). s -ℤ value_at risks g +ℤ x) are.is ∙ sym (sum_of_row-set risks g x h);
}
