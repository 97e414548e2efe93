-- How large the sums over the positions of a set are: that totals, deltas and minimums do not wrap.
use Rattle.std.proofs.Common.{◌≡◌, ◌≢◌, ℕ, zero, suc, ◌*◌, ◌<◌, ◌≤◌, ◌^◌, cond, List, length, take, pos, ℤ, ⊎_elim, ap, arith, take_all, add-one, eq-eqb, ne_eqb, unsigned_abs}
use Rattle.std.specs.Prelude.{◌*ℤ◌, ◌==◌, All}
use Rattle.std.specs.List.{count_by, sum_by}
use Rattle.std.proofs.Math.Nat.{mul-le-mul, mul-le-mul_right}
use Rattle.std.proofs.lemmas.Bool.{cases_eq}
use Rattle.std.proofs.lemmas.Int.{ints}
use Rattle.std.proofs.lemmas.List.Sums.{count_by_more_yes, count_by_more_no, sum_by-take-le}
use Rattle.mgn_num.specs.Signed.{signed_sum_by}
use Rattle.mgn_num.proofs.SignedLemmas.{size-*ℤ-le}
use Rattle.mgn_span.proofs.PositionLemmas.{position_count_all, position_count_more, position_sum_all, position_sum_more, value_at_small}
use Rattle.mgn_params.specs.declared.tables.Contract.{Contract}
use Rattle.mgn_params.specs.declared.tables.Month.{Month}
use Rattle.mgn_span.specs.Deltas.{negative_part}
use Rattle.mgn_params.specs.Limits.{IsContract, IsWithinLimits}
use Rattle.mgn_span.specs.Options.{net_option_value, short_option_minimum}
use Rattle.mgn_span.specs.Positions.{Position, positions, IsNet}
use Rattle.mgn_span.specs.Scan.{value_at, scenario_total}
use Rattle.mgn_span.specs.Sizes.{IsTotal}
use Rattle.mgn_span.specs.Words.{month_share, scenario_share, short_share_of, value_share}
use Rattle.mgn_params.specs.Tables.{Tables, contract_at, no_contract}

-- One position.

-- at most 10^15 in a scenario
pub scenario_share_small : (commodities : ℕ) (months : List Month) (g s : ℕ) (c : Contract) (n : ℤ) → IsContract commodities months c → IsNet n → unsigned_abs (scenario_share g s (c, n)) ≤ 10 ^ 15
scenario_share_small commodities months g s c n limits small =
    let product = size-*ℤ-le n (value_at c.array s) (10 ^ 7) (10 ^ 8) small (value_at_small c.array (10 ^ 8) s limits.array) in
    grind (arith, ints, product)

-- at most 10^12 in a month
pub month_share_small : (commodities : ℕ) (months : List Month) (m : ℕ) (c : Contract) (n : ℤ) → IsContract commodities months c → IsNet n → unsigned_abs (month_share m (c, n)) ≤ 10 ^ 12
month_share_small commodities months m c n limits small =
    let product = size-*ℤ-le n c.delta (10 ^ 7) (10 ^ 5) small limits.delta in
    grind (arith, ints, product)

-- at most 10^16 in a minimum
pub short_share_small : (g charge : ℕ) (c : Contract) (n : ℤ) → charge ≤ 10 ^ 9 → IsNet n → short_share_of g charge (c, n) ≤ 10 ^ 16
short_share_small g charge c n low small =
    let short : negative_part n ≤ 10 ^ 7 = grind (arith, ints) in
    let product : negative_part n * charge ≤ 10 ^ 7 * 10 ^ 9 = mul-le-mul short low in
    grind (arith, product)

-- at most 10^15 in the net option value
pub value_share_small : (commodities : ℕ) (months : List Month) (c : Contract) (n : ℤ) → IsContract commodities months c → IsNet n → unsigned_abs (value_share (c, n)) ≤ 10 ^ 15
value_share_small commodities months c n limits small =
    let product = size-*ℤ-le n (pos c.option_value) (10 ^ 7) (10 ^ 8) small limits.option_value in
    grind (arith, ints, product)

-- a position of the commodity counts by its net, and one of another for nothing

pub scenario_share_in : (g s : ℕ) (c : Contract) (n : ℤ) → c.commodity ≡ g → scenario_share g s (c, n) ≡ n *ℤ value_at c.array s
scenario_share_in g s c n e = grind arith

pub scenario_share_out : (g s : ℕ) (c : Contract) (n : ℤ) → c.commodity ≢ g → scenario_share g s (c, n) ≡ pos 0
scenario_share_out g s c n e = grind arith

pub short_share_out : (g charge : ℕ) (c : Contract) (n : ℤ) → c.commodity ≢ g → short_share_of g charge (c, n) ≡ 0
short_share_out g charge c n e = grind arith

-- All positions.

-- what each position counts for at most `most` in size comes to no more than that for each contract
pub share_sum_small : (f : Position → ℤ) (most : ℕ) (cs : List Contract) (ns : List ℤ) (i : ℕ) → length ns ≡ length cs → ((k : ℕ) → k < length cs → unsigned_abs (f (contract_at cs k, value_at ns k)) ≤ most) → i ≤ length cs → unsigned_abs (signed_sum_by f (take i (positions cs ns))) ≤ i * most
share_sum_small f most cs ns zero e small h = omega (arith, ints)
share_sum_small f most cs ns (suc i) e small h =
    let before = share_sum_small f most cs ns i e small (omega arith) in
    let more = rw add-one at (position_sum_more f cs ns i (omega arith) e) in
    let share = small i (omega arith) in
    omega (arith, ints, before, more, share)

-- what only the positions of a commodity count for comes to no more than that for each of its contracts
pub share_sum_by_count : (f : Position → ℤ) (g most : ℕ) (cs : List Contract) (ns : List ℤ) (i : ℕ) → length ns ≡ length cs → ((k : ℕ) → k < length cs → (contract_at cs k).commodity ≢ g → f (contract_at cs k, value_at ns k) ≡ pos 0) → ((k : ℕ) → k < length cs → unsigned_abs (f (contract_at cs k, value_at ns k)) ≤ most) → i ≤ length cs → unsigned_abs (signed_sum_by f (take i (positions cs ns))) ≤ count_by (λ c. c.commodity == g) (take i cs) * most
share_sum_by_count f g most cs ns zero e outside small h = omega (arith, ints)
share_sum_by_count f g most cs ns (suc i) e outside small h =
    let before = share_sum_by_count f g most cs ns i e outside small (omega arith) in
    let more = rw add-one at (position_sum_more f cs ns i (omega arith) e) in
    let share = small i (omega arith) in
    ⊎_elim
    (λ (same : (contract_at cs i).commodity ≡ g).
    let counted = rw add-one at (count_by_more_yes (λ (c : Contract). c.commodity == g) cs i no_contract (omega arith) (eq-eqb (contract_at cs i).commodity g same)) in
    omega (arith, ints, before, more, share, ap (λ (n : ℕ). n * most) counted))
    (λ (other : (contract_at cs i).commodity ≢ g).
    let counted = rw add-one at (count_by_more_no (λ (c : Contract). c.commodity == g) cs i no_contract (omega arith) (ne_eqb (contract_at cs i).commodity g other)) in
    omega (arith, ints, before, more, ap (λ (n : ℕ). n * most) counted, outside i (omega arith) other))
    (cases_eq (contract_at cs i).commodity g)

-- and so to no more than that for each of the 256 contracts that a commodity may have
pub share_sum_of_commodity : (f : Position → ℤ) (t : Tables) (nets : List ℤ) (g most i : ℕ) → IsWithinLimits t → length nets ≡ length t.contracts → ((k : ℕ) → k < length t.contracts → (contract_at t.contracts k).commodity ≢ g → f (contract_at t.contracts k, value_at nets k) ≡ pos 0) → ((k : ℕ) → k < length t.contracts → unsigned_abs (f (contract_at t.contracts k, value_at nets k)) ≤ most) → i ≤ length t.contracts → unsigned_abs (signed_sum_by f (take i (positions t.contracts nets))) ≤ 256 * most
share_sum_of_commodity f t nets g most i limits one_each outside small h =
    let sum = share_sum_by_count f g most t.contracts nets i one_each outside small h in
    let of_all = sum_by-take-le (λ (c : Contract). cond (c.commodity == g) 1 0) t.contracts i in
    let few : count_by (λ (c : Contract). c.commodity == g) (take i t.contracts) ≤ 256 = omega (arith, of_all, limits.few_contracts_in_each g) in
    omega (arith, sum, mul-le-mul_right most few)

-- the same for what is counted without a sign
pub share_count_by_count : (f : Position → ℕ) (g most : ℕ) (cs : List Contract) (ns : List ℤ) (i : ℕ) → length ns ≡ length cs → ((c : Contract) (n : ℤ) → c.commodity ≢ g → f (c, n) ≡ 0) → ((k : ℕ) → k < length cs → f (contract_at cs k, value_at ns k) ≤ most) → i ≤ length cs → sum_by f (take i (positions cs ns)) ≤ count_by (λ c. c.commodity == g) (take i cs) * most
share_count_by_count f g most cs ns zero e outside small h = omega arith
share_count_by_count f g most cs ns (suc i) e outside small h =
    let before = share_count_by_count f g most cs ns i e outside small (omega arith) in
    let more = rw add-one at (position_count_more f cs ns i (omega arith) e) in
    let share = small i (omega arith) in
    ⊎_elim
    (λ (same : (contract_at cs i).commodity ≡ g).
    let counted = rw add-one at (count_by_more_yes (λ (c : Contract). c.commodity == g) cs i no_contract (omega arith) (eq-eqb (contract_at cs i).commodity g same)) in
    omega (arith, before, more, share, ap (λ (n : ℕ). n * most) counted))
    (λ (other : (contract_at cs i).commodity ≢ g).
    let counted = rw add-one at (count_by_more_no (λ (c : Contract). c.commodity == g) cs i no_contract (omega arith) (ne_eqb (contract_at cs i).commodity g other)) in
    omega (arith, before, more, ap (λ (n : ℕ). n * most) counted, outside (contract_at cs i) (value_at ns i) other))
    (cases_eq (contract_at cs i).commodity g)

-- no total is larger than the 256 contracts of a commodity at their limits, however many positions are summed
pub scenario_total_small_to : (t : Tables) (nets : List ℤ) (g s i : ℕ) → IsWithinLimits t → length nets ≡ length t.contracts → All IsNet nets → i ≤ length t.contracts → IsTotal (scenario_total g (take i (positions t.contracts nets)) s)
scenario_total_small_to t nets g s i limits one_each small h =
    share_sum_of_commodity (scenario_share g s) t nets g (10 ^ 15) i limits one_each
    (λ k p other. scenario_share_out g s (contract_at t.contracts k) (value_at nets k) other)
    (λ k p. scenario_share_small (length t.commodities) t.months g s (contract_at t.contracts k) (value_at nets k) (limits.contracts k no_contract p) (small k (pos 0) (omega (arith, one_each))))
    h

pub scenario_total_small : (t : Tables) (nets : List ℤ) (g s : ℕ) → IsWithinLimits t → length nets ≡ length t.contracts → All IsNet nets → IsTotal (scenario_total g (positions t.contracts nets) s)
scenario_total_small t nets g s limits one_each small =
    let n = length t.contracts in
    let all = position_sum_all (scenario_share g s) t.contracts nets n (omega arith) one_each in
    omega (arith, ints, all, scenario_total_small_to t nets g s n limits one_each small (omega arith))

-- nor any minimum
pub short_option_minimum_small : (t : Tables) (nets : List ℤ) (g charge : ℕ) → IsWithinLimits t → length nets ≡ length t.contracts → All IsNet nets → charge ≤ 10 ^ 9 → short_option_minimum (positions t.contracts nets) g charge ≤ 256 * 10 ^ 16
short_option_minimum_small t nets g charge limits one_each small low =
    let n = length t.contracts in
    let sum = share_count_by_count (short_share_of g charge) g (10 ^ 16) t.contracts nets n one_each (λ c m h. short_share_out g charge c m h) (λ k h. short_share_small g charge (contract_at t.contracts k) (value_at nets k) low (small k (pos 0) (omega (arith, one_each)))) (omega arith) in
    let all = position_count_all (short_share_of g charge) t.contracts nets n (omega arith) one_each in
    let every = ap (λ (cs : List Contract). count_by (λ (c : Contract). c.commodity == g) cs) (take_all n t.contracts (omega arith)) in
    let few = limits.few_contracts_in_each g in
    omega (arith, sum, all, every, few)

-- nor any net option value larger than the 4,096 contracts of a set at theirs
pub net_option_value_small : (t : Tables) (nets : List ℤ) → IsWithinLimits t → length nets ≡ length t.contracts → All IsNet nets → unsigned_abs (net_option_value (positions t.contracts nets)) ≤ 4096 * 10 ^ 15
net_option_value_small t nets limits one_each small =
    let n = length t.contracts in
    let sum = share_sum_small value_share (10 ^ 15) t.contracts nets n one_each (λ k h. value_share_small (length t.commodities) t.months (contract_at t.contracts k) (value_at nets k) (limits.contracts k no_contract h) (small k (pos 0) (omega (arith, one_each)))) (omega arith) in
    let all = position_sum_all value_share t.contracts nets n (omega arith) one_each in
    let few = limits.few_contracts in
    omega (arith, ints, sum, all, few)
