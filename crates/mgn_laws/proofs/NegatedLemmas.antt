-- What becomes of sums and deltas when every position is negated: for the laws of negated positions.
use Rattle.std.proofs.Common.{◌≡◌, ℕ, zero, suc, List, [], ◌∷◌, ◌==◌, true, false, length, refl, ap, ◌∙◌, arith}
use Rattle.std.specs.Prelude.{ℤ, pos, ◌+ℤ◌, ◌*ℤ◌, neg_ℤ, if◌then◌else◌, Bool}
use Rattle.std.proofs.Math.IntN.{zero-*ℤ, +ℤ_invl}
use Rattle.std.proofs.lemmas.Int.{ints}
use Rattle.mgn_laws.specs.Negated.{negated}
use Rattle.mgn_num.proofs.SignedLemmas.{signed_sum_by-cons, sum-*ℤ}
use Rattle.mgn_num.specs.Signed.{signed_sum_below, signed_sum_by}
use Rattle.mgn_params.specs.declared.tables.Contract.{Contract}
use Rattle.mgn_params.specs.declared.tables.Month.{Month}
use Rattle.mgn_span.proofs.SumLemmas.{sum_below_same}
use Rattle.mgn_span.specs.Deltas.{is_in_tier, month_delta, positive_part}
use Rattle.mgn_span.specs.Positions.{Position, positions}
use Rattle.mgn_span.specs.Scan.{scenario_total, value_at}
use Rattle.mgn_span.specs.Words.{long_delta, long_share, month_share, net_delta, net_share, scenario_share, short_delta, short_share}
use Rattle.mgn_params.specs.Tables.{month_at}

-- what counts the other way for a negated position sums to the other sign
negated_sum : (f : Position → ℤ) → ((c : Contract) (n : ℤ) → f (c, neg_ℤ n) ≡ neg_ℤ (f (c, n))) → (cs : List Contract) (ns : List ℤ) → signed_sum_by f (positions cs (negated ns)) ≡ neg_ℤ (signed_sum_by f (positions cs ns))
negated_sum f turn [] ns = refl
negated_sum f turn (c ∷ cs) [] = refl
negated_sum f turn (c ∷ cs) (n ∷ ns) =
    omega (arith, ints, signed_sum_by-cons f (c, neg_ℤ n) (positions cs (negated ns)), signed_sum_by-cons f (c, n) (positions cs ns), turn c n, negated_sum f turn cs ns)

negated_product : (a b : ℤ) → neg_ℤ a *ℤ b ≡ neg_ℤ (a *ℤ b)
negated_product a b =
    let none : (neg_ℤ a +ℤ a) *ℤ b ≡ pos 0 = ap (λ z. z *ℤ b) (+ℤ_invl a) ∙ zero-*ℤ b in
    omega (arith, ints, sum-*ℤ (neg_ℤ a) a b, none)

negated_if : (b : Bool) (x y : ℤ) → x ≡ neg_ℤ y → (if b then x else pos 0) ≡ neg_ℤ (if b then y else pos 0)
negated_if true x y e = e
negated_if false x y e = refl

-- scenarios
pub total_negated : (cs : List Contract) (ns : List ℤ) (g s : ℕ) → scenario_total g (positions cs (negated ns)) s ≡ neg_ℤ (scenario_total g (positions cs ns) s)
total_negated cs ns g s =
    negated_sum (scenario_share g s) (λ c n. negated_if (c.commodity == g) (neg_ℤ n *ℤ value_at c.array s) (n *ℤ value_at c.array s) (negated_product n (value_at c.array s))) cs ns

-- deltas

month_negated : (cs : List Contract) (ns : List ℤ) (m : ℕ) → month_delta (positions cs (negated ns)) m ≡ neg_ℤ (month_delta (positions cs ns) m)
month_negated cs ns m =
    negated_sum (month_share m) (λ c n. negated_if (c.month == m) (neg_ℤ n *ℤ c.delta) (n *ℤ c.delta) (negated_product n c.delta)) cs ns

-- a sum over the numbers below a bound, of which each is turned
signed_sum_below_negated : (f g : ℕ → ℤ) → ((m : ℕ) → f m ≡ neg_ℤ (g m)) → (n : ℕ) → signed_sum_below f n ≡ neg_ℤ (signed_sum_below g n)
signed_sum_below_negated f g turn zero = refl
signed_sum_below_negated f g turn (suc n) = omega (arith, ints, signed_sum_below_negated f g turn n, turn n)

negated_back : (a b : ℤ) → a ≡ neg_ℤ b → neg_ℤ a ≡ b
negated_back a b e = omega (arith, ints)

pub long_negated : (ms : List Month) (cs : List Contract) (ns : List ℤ) (g tier : ℕ) → long_delta ms (positions cs (negated ns)) g tier ≡ short_delta ms (positions cs ns) g tier
long_negated ms cs ns g tier =
    sum_below_same (long_share ms (positions cs (negated ns)) g tier) (short_share ms (positions cs ns) g tier) (length ms)
    (λ m h. ap (λ (d : ℤ). if is_in_tier ms g tier m then positive_part d else 0) (month_negated cs ns m))

pub short_negated : (ms : List Month) (cs : List Contract) (ns : List ℤ) (g tier : ℕ) → short_delta ms (positions cs (negated ns)) g tier ≡ long_delta ms (positions cs ns) g tier
short_negated ms cs ns g tier =
    sum_below_same (short_share ms (positions cs (negated ns)) g tier) (long_share ms (positions cs ns) g tier) (length ms)
    (λ m h. ap (λ (d : ℤ). if is_in_tier ms g tier m then positive_part d else 0) (negated_back (month_delta (positions cs (negated ns)) m) (month_delta (positions cs ns) m) (month_negated cs ns m)))

pub net_negated : (ms : List Month) (cs : List Contract) (ns : List ℤ) (g : ℕ) → net_delta ms (positions cs (negated ns)) g ≡ neg_ℤ (net_delta ms (positions cs ns) g)
net_negated ms cs ns g =
    signed_sum_below_negated (net_share ms (positions cs (negated ns)) g) (net_share ms (positions cs ns) g)
    (λ m. negated_if ((month_at ms m).commodity == g) (month_delta (positions cs (negated ns)) m) (month_delta (positions cs ns) m) (month_negated cs ns m)) (length ms)
