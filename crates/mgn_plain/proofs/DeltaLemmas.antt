-- What deltas come to, and how large they are: for `add_months` and `month_sums`.
use Rattle.std.proofs.Common.{◌≡◌, ℕ, zero, suc, ◌+◌, ◌-◌, ◌*◌, ◌<◌, ◌≤◌, ◌^◌, List, length, take, pos, ℤ, ap, ◌∙◌, arith, take_all, add-one, eq-eqb, refl, unsigned_abs, ⊎_elim}
use Rattle.std.specs.Prelude.{◌+ℤ◌, nat_lt}
use Rattle.std.proofs.lemmas.Bool.{cases_lt}
use Rattle.std.proofs.lemmas.Int.{ints}
use Rattle.std.proofs.lemmas.List.{get_or_past}
use Rattle.std.proofs.lemmas.List.FromFn.{fill_by_all}
use Rattle.std.proofs.lemmas.Slice.Zip.{length-zip}
use Rattle.mgn_num.specs.Signed.{signed_sum_below, sum_below}
use Rattle.mgn_num.proofs.SignedLemmas.{signed_sum_below_more, sum_below_more}
use Rattle.mgn_params.specs.declared.tables.Contract.{Contract}
use Rattle.mgn_params.specs.declared.tables.Month.{Month}
use Rattle.mgn_span.specs.Deltas.{month_delta, starts_from}
use Rattle.mgn_params.specs.Limits.{IsWithinLimits}
use Rattle.mgn_span.specs.Positions.{Position, positions}
use Rattle.mgn_span.specs.Scan.{value_at}
use Rattle.mgn_span.specs.Sizes.{IsDelta}
use Rattle.mgn_span.specs.Words.{long_share, month_share, net_delta, net_share, short_share, start_of, starts_of}
use Rattle.mgn_params.specs.Tables.{Tables, contract_at, no_contract, no_month, month_at}
use Rattle.mgn_plain.specs.Kept.{leg_of, legs_row}
use Rattle.mgn_plain.specs.declared.deltas.MonthSums.{MonthSums}
use Rattle.mgn_plain.specs.Months.{AreMonthSums, AreMonthSumsTo}
use Rattle.mgn_plain.specs.Parts.{AreDeltas, AreNets}
use Rattle.mgn_span.proofs.PositionLemmas.{position_sum_more}
use Rattle.mgn_span.proofs.DeltaLemmas.{net_delta_small_to}
use Rattle.mgn_span.proofs.ShareLemmas.{month_share_small}
use Rattle.mgn_span.proofs.SumLemmas.{sum_below_same, signed_sum_below_same, sum_below_le, sum_below_none, sum_below_grown, sum_below_one, sum_below_if, sum_below_fewer}
use Rattle.mgn_span.specs.MonthDeltas.{leg_share, month_net, net_share_by, start_share}

-- a month counts for at most its delta's size
pub start_share_small : (month : Month) (delta : ℤ) (g leg : ℕ) → start_share month delta g leg ≤ unsigned_abs delta
start_share_small month delta g leg = grind (arith, ints)

-- what a leg starts with, summed over the months with their deltas
pub start_is : (t : Tables) (nets deltas : List ℤ) (g leg : ℕ) → AreDeltas t nets deltas → sum_below (leg_share t.months deltas g leg) (length t.months) ≡ start_of t.months (positions t.contracts nets) g leg
start_is t nets deltas g leg are =
    let portfolio : List Position = positions t.contracts nets in
    sum_below_same (leg_share t.months deltas g leg) (λ m. start_share (month_at t.months m) (month_delta portfolio m) g leg) (length t.months) (λ m h. ap (λ (d : ℤ). start_share (month_at t.months m) d g leg) (are.each m h))
    ∙ sum_below_if (nat_lt leg 8) (long_share t.months portfolio g leg) (short_share t.months portfolio g (leg - 8)) (length t.months)

-- the row of what the 16 legs start with
pub starts_are : (t : Tables) (nets deltas : List ℤ) (starts : List (List ℕ)) (g : ℕ) → AreDeltas t nets deltas → length (legs_row starts g) ≡ 16 → ((leg : ℕ) → leg < 16 → leg_of starts g leg ≡ sum_below (leg_share t.months deltas g leg) (length t.months)) → legs_row starts g ≡ starts_of t.months (positions t.contracts nets) g
unfolding starts_from
starts_are t nets deltas starts g are long each =
    fill_by_all (start_of t.months (positions t.contracts nets) g) (legs_row starts g) 16 0 long (λ leg h. each leg h ∙ start_is t nets deltas g leg are)

-- the net delta of a commodity, summed over the months with their deltas
pub net_is : (t : Tables) (nets deltas : List ℤ) (g : ℕ) → AreDeltas t nets deltas → signed_sum_below (net_share_by t.months deltas g) (length t.months) ≡ net_delta t.months (positions t.contracts nets) g
net_is t nets deltas g are =
    signed_sum_below_same (net_share_by t.months deltas g) (net_share t.months (positions t.contracts nets) g) (length t.months) (λ m h. ap (λ (d : ℤ). month_net (month_at t.months m) d g) (are.each m h))

-- a delta of 0 counts for nothing

pub start_share_none : (month : Month) (g leg : ℕ) → start_share month (pos 0) g leg ≡ 0
start_share_none month g leg = grind arith

month_net_none : (month : Month) (g : ℕ) → month_net month (pos 0) g ≡ pos 0
month_net_none month g = grind arith

months_flat : (t : Tables) (deltas : List ℤ) (m : ℕ) (sums : MonthSums) → value_at deltas m ≡ pos 0 → AreMonthSumsTo t deltas m sums → AreMonthSumsTo t deltas (m + 1) sums
months_flat t deltas m sums none are = record {
  one_row_each = are.one_row_each;
  one_net_each = are.one_net_each;
  sixteen = are.sixteen;
  starts = λ g leg h k.
      let share : leg_share t.months deltas g leg m ≡ 0 = rw none (start_share_none (month_at t.months m) g leg) in
      omega (arith, are.starts g leg h k, share, sum_below_more (leg_share t.months deltas g leg) m);
  nets = λ g h.
      let share : net_share_by t.months deltas g m ≡ pos 0 = rw none (month_net_none (month_at t.months m) g) in
      omega (arith, ints, are.nets g h, share, signed_sum_below_more (net_share_by t.months deltas g) m);
}

-- nor do several that follow one another

months_run : (t : Tables) (deltas : List ℤ) (m n : ℕ) (sums : MonthSums) → ((k : ℕ) → m ≤ k → k < m + n → value_at deltas k ≡ pos 0) → AreMonthSumsTo t deltas m sums → AreMonthSumsTo t deltas (m + n) sums
months_run t deltas m zero sums flat are = let none : m + 0 ≡ m = omega arith in rw none are
months_run t deltas m (suc n) sums flat are =
    let last : m + suc n ≡ (m + n) + 1 = omega arith in
    rw last (months_flat t deltas (m + n) sums (flat (m + n) (omega arith) (omega arith)) (months_run t deltas m n sums (λ k low high. flat k low (omega (arith, high))) are))

pub months_flat_to : (t : Tables) (deltas : List ℤ) (m n : ℕ) (sums : MonthSums) → m ≤ n → ((k : ℕ) → m ≤ k → k < n → value_at deltas k ≡ pos 0) → AreMonthSumsTo t deltas m sums → AreMonthSumsTo t deltas n sums
months_flat_to t deltas m n sums low flat are =
    let all : m + (n - m) ≡ n = omega (arith, low) in
    rw all at (months_run t deltas m (n - m) sums (λ k from to. flat k from (omega (arith, to, low))) are)

-- the sizes of all month deltas together are at most 10^12 for each position
month_sizes : (t : Tables) (nets : List ℤ) (i : ℕ) → IsWithinLimits t → AreNets t nets → i ≤ length t.contracts → sum_below (λ m. unsigned_abs (month_delta (take i (positions t.contracts nets)) m)) (length t.months) ≤ i * 10 ^ 12
month_sizes t nets zero limits are h =
    omega (arith, sum_below_none (λ m. unsigned_abs (month_delta (take 0 (positions t.contracts nets)) m)) (length t.months) (λ m p. omega (arith, ints)))
month_sizes t nets (suc i) limits are h =
    let portfolio : List Position = positions t.contracts nets in
    let c : Contract = contract_at t.contracts i in
    let n : ℤ = value_at nets i in
    let inside : i < length t.contracts = omega arith in
    let before = month_sizes t nets i limits are (omega arith) in
    let share : ℕ → ℕ = λ m. unsigned_abs (month_share m (c, n)) in
    let small = month_share_small (length t.commodities) t.months c.month c n (limits.contracts i no_contract inside) (are.small i (pos 0) (omega (arith, are.one_each))) in
    let one = sum_below_one share c.month (length t.months) (λ m other. grind arith) in
    let grown = sum_below_grown (λ m. unsigned_abs (month_delta (take i portfolio) m)) (λ m. unsigned_abs (month_delta (take (suc i) portfolio) m)) share (length t.months) (λ m p. let more = rw add-one at (position_sum_more (month_share m) t.contracts nets i inside are.one_each) in omega (arith, ints, more)) in
    omega (arith, before, small, one, grown)

-- no leg starts with more than 10^16
pub start_small : (t : Tables) (nets : List ℤ) (g leg : ℕ) → IsWithinLimits t → AreNets t nets → start_of t.months (positions t.contracts nets) g leg ≤ 10 ^ 16
start_small t nets g leg limits are =
    let portfolio : List Position = positions t.contracts nets in
    let n = length t.contracts in
    let all = ap (λ (ps : List Position). sum_below (λ m. unsigned_abs (month_delta ps m)) (length t.months)) (take_all n portfolio (omega (arith, length-zip t.contracts nets))) in
    let sizes = month_sizes t nets n limits are (omega arith) in
    let is = sum_below_if (nat_lt leg 8) (long_share t.months portfolio g leg) (short_share t.months portfolio g (leg - 8)) (length t.months) in
    let le = sum_below_le (λ m. start_share (month_at t.months m) (month_delta portfolio m) g leg) (λ m. unsigned_abs (month_delta portfolio m)) (length t.months) (λ m h. start_share_small (month_at t.months m) (month_delta portfolio m) g leg) in
    let few = limits.few_contracts in
    omega (arith, all, sizes, is, le, few)

-- nor does it after the first months
pub start_small_to : (t : Tables) (nets deltas : List ℤ) (m : ℕ) (sums : MonthSums) (g leg : ℕ) → IsWithinLimits t → AreDeltas t nets deltas → AreMonthSumsTo t deltas m sums → m ≤ length t.months → g < length t.commodities → leg < 16 → leg_of sums.starts g leg ≤ 10 ^ 16
start_small_to t nets deltas m sums g leg limits are summed few h k =
    let fewer = sum_below_fewer (leg_share t.months deltas g leg) m (length t.months) few in
    omega (arith, summed.starts g leg h k, fewer, start_is t nets deltas g leg are, start_small t nets g leg limits are.of_nets)

-- and the net delta of a commodity with one month of it more is a delta
pub net_room : (t : Tables) (nets deltas : List ℤ) (m : ℕ) (sums : MonthSums) → IsWithinLimits t → AreDeltas t nets deltas → AreMonthSumsTo t deltas m sums → m < length t.months → let g = (month_at t.months m).commodity in IsDelta (value_at sums.nets.items g +ℤ value_at deltas m)
net_room t nets deltas m sums limits are summed h =
    let g = (month_at t.months m).commodity in
    let small = net_delta_small_to t nets g (m + 1) limits are.of_nets.one_each are.of_nets.small in
    let same = signed_sum_below_same (net_share_by t.months deltas g) (net_share t.months (positions t.contracts nets) g) (m + 1) (λ k p. ap (λ (d : ℤ). month_net (month_at t.months k) d g) (are.each k (omega (arith, p, h)))) in
    let more = signed_sum_below_more (net_share_by t.months deltas g) m in
    let own : net_share_by t.months deltas g m ≡ value_at deltas m = rw (eq-eqb g g refl) refl in
    omega (arith, ints, small, same, more, own, summed.nets g (limits.months m no_month h).commodity)

-- the sums of all months
pub months_all : (t : Tables) (nets deltas : List ℤ) (sums : MonthSums) → IsWithinLimits t → AreDeltas t nets deltas → AreMonthSumsTo t deltas (length t.months) sums → AreMonthSums t nets sums
months_all t nets deltas sums limits are summed = record {
  starts = record {
    one_row_each = summed.one_row_each;
    each = λ g h. starts_are t nets deltas sums.starts g are (summed.sixteen g h) (λ leg k. summed.starts g leg h k);
    small = λ g leg h.
        ⊎_elim
        (λ (low : leg < 16). omega (arith, start_small_to t nets deltas (length t.months) sums g leg limits are summed (omega arith) h low))
        (λ past. rw (get_or_past (legs_row sums.starts g) leg 0 (omega (arith, summed.sixteen g h, past))) (omega arith))
        (cases_lt leg 16);
  };
  net_deltas = record {
    of_nets = are.of_nets;
    one_each = summed.one_net_each;
    each = λ g h. summed.nets g h ∙ net_is t nets deltas g are;
  };
}
