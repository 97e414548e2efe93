-- The pass over the positions, what one more counts for and how large sums are: for `add_position`.
use Rattle.std.proofs.Common.{◌≡◌, ◌≢◌, ℕ, Bool, true, false, set, sym, get_or-set_same, get_or-set_other, zero, suc, ◌+◌, ◌-◌, ◌*◌, ◌<◌, ◌≤◌, ◌^◌, List, length, take, pos, ℤ, ap, ◌∙◌, arith, refl, add-one, eq-eqb, unsigned_abs, ⊎_elim}
use Rattle.std.specs.Prelude.{◌+ℤ◌, ◌*ℤ◌, slice_index}
use Rattle.std.specs.List.{sum_by}
use Rattle.std.proofs.lemmas.Bool.{cases_eq, cases_lt, true≢false}
use Rattle.std.proofs.lemmas.Int.{ints}
use Rattle.mgn_params.specs.Limits.{IsWithinLimits}
use Rattle.mgn_params.specs.declared.tables.Contract.{Contract}
use Rattle.mgn_params.specs.Tables.{Tables, commodity_at, contract_at, no_commodity, no_contract}
use Rattle.mgn_span.specs.Positions.{Position, positions}
use Rattle.mgn_span.specs.Scan.{value_at}
use Rattle.mgn_span.specs.Sizes.{IsDelta, IsTotal}
use Rattle.mgn_span.specs.Words.{month_share, scenario_share, short_share_of, total_of, value_share}
use Rattle.mgn_span.proofs.DeltaLemmas.{month_delta_small_to}
use Rattle.mgn_span.proofs.FlatLemmas.{month_share_flat, share_flat, short_share_flat, value_share_flat}
use Rattle.mgn_span.proofs.PositionLemmas.{position_count_all, position_count_more, position_sum_all, position_sum_more}
use Rattle.mgn_span.proofs.ShareLemmas.{scenario_share_in, scenario_total_small_to, share_sum_small, short_share_small, value_share_small}
use Rattle.mgn_plain.specs.declared.sums.Sums.{Sums}
use Rattle.mgn_plain.specs.Kept.{mark_at}
use Rattle.mgn_plain.specs.Parts.{AreSums}
use Rattle.mgn_plain.specs.Sums.{AreSumsTo}

-- a net of 0 counts for nothing
pub sums_flat : (t : Tables) (nets : List ℤ) (i : ℕ) (sums : Sums) → i < length t.contracts → value_at nets i ≡ pos 0 → AreSumsTo t nets i sums → AreSumsTo t nets (i + 1) sums
sums_flat t nets i sums inside none are =
    let p : Position = (contract_at t.contracts i, value_at nets i) in
    record {
      of_nets = are.of_nets;
      one_row_each = are.one_row_each;
      one_delta_each = are.one_delta_each;
      one_minimum_each = are.one_minimum_each;
      one_mark_each = are.one_mark_each;
      totals = λ g s h k. omega (arith, ints, are.totals g s h k, share_flat g s p none, position_sum_more (scenario_share g s) t.contracts nets i inside are.of_nets.one_each);
      deltas = λ m h. omega (arith, ints, are.deltas m h, month_share_flat m p none, position_sum_more (month_share m) t.contracts nets i inside are.of_nets.one_each);
      minimums = λ g h.
          let charge = (commodity_at t.commodities g).short_option_charge in
          omega (arith, are.minimums g h, short_share_flat g charge p none, position_count_more (short_share_of g charge) t.contracts nets i inside are.of_nets.one_each);
      value = omega (arith, ints, are.value, value_share_flat p none, position_sum_more value_share t.contracts nets i inside are.of_nets.one_each);
      flat = λ g k mark h same. ⊎_elim (λ (below : k < i). are.flat g k mark below same) (λ past. let e : k ≡ i = omega (arith, h, past) in rw e none) (cases_lt k i);
    }

flat_run : (t : Tables) (nets : List ℤ) (i n : ℕ) (sums : Sums) → i + n ≤ length t.contracts → ((k : ℕ) → i ≤ k → k < i + n → value_at nets k ≡ pos 0) → AreSumsTo t nets i sums → AreSumsTo t nets (i + n) sums
flat_run t nets i zero sums inside none are = let e : i + 0 ≡ i = omega arith in rw e are
flat_run t nets i (suc n) sums inside none are =
    let before = flat_run t nets i n sums (omega arith) (λ k low h. none k low (omega (arith, h))) are in
    let e : i + suc n ≡ (i + n) + 1 = omega arith in
    rw e (sums_flat t nets (i + n) sums (omega arith) (none (i + n) (omega arith) (omega arith)) before)

-- nor do several nets of 0
pub sums_run : (t : Tables) (nets : List ℤ) (i j : ℕ) (sums : Sums) → i ≤ j → j ≤ length t.contracts → ((k : ℕ) → i ≤ k → k < j → value_at nets k ≡ pos 0) → AreSumsTo t nets i sums → AreSumsTo t nets j sums
sums_run t nets i j sums low inside none are =
    let e : i + (j - i) ≡ j = omega arith in
    let all = flat_run t nets i (j - i) sums (omega arith) (λ k h p. none k h (omega (arith, p, low))) are in
    rw e at all

-- one position more, whose commodity is marked
pub flat_more : (t : Tables) (nets : List ℤ) (i own : ℕ) (marks : List Bool) → own ≡ (contract_at t.contracts i).commodity → own < length marks → ((g k : ℕ) → mark_at marks g ≡ false → k < i → (contract_at t.contracts k).commodity ≡ g → value_at nets k ≡ pos 0) → (g k : ℕ) → mark_at (set marks own true) g ≡ false → k < i + 1 → (contract_at t.contracts k).commodity ≡ g → value_at nets k ≡ pos 0
flat_more t nets i own marks is inside was g k mark h same =
    ⊎_elim
    (λ (here : g ≡ own). absurd (true≢false (sym (get_or-set_same marks own true true inside) ∙ ap (mark_at (set marks own true)) (sym here) ∙ mark)))
    (λ (other : g ≢ own).
    let old : mark_at marks g ≡ false = sym (get_or-set_other marks own g true true other) ∙ mark in
    ⊎_elim
    (λ (below : k < i). was g k old below same)
    (λ past.
    let e : k ≡ i = omega (arith, h, past) in
    absurd (other (sym same ∙ ap (λ (j : ℕ). (contract_at t.contracts j).commodity) e ∙ sym is)))
    (cases_lt k i))
    (cases_eq g own)

-- what each position counts for at most `most` comes to no more than that for each
pub count_small : (f : Position → ℕ) (most : ℕ) (cs : List Contract) (ns : List ℤ) (i : ℕ) → length ns ≡ length cs → ((k : ℕ) → k < length cs → f (contract_at cs k, value_at ns k) ≤ most) → i ≤ length cs → sum_by f (take i (positions cs ns)) ≤ i * most
count_small f most cs ns zero e small h = omega arith
count_small f most cs ns (suc i) e small h =
    let before = count_small f most cs ns i e small (omega arith) in
    let more = rw add-one at (position_count_more f cs ns i (omega arith) e) in
    let share = small i (omega arith) in
    omega (arith, before, more, share)

-- how large the sums up to a contract are
pub minimums_small : (t : Tables) (nets : List ℤ) (i : ℕ) (sums : Sums) (g : ℕ) → IsWithinLimits t → AreSumsTo t nets i sums → i ≤ length t.contracts → g < length t.commodities → slice_index sums.minimums.items g ≤ i * 10 ^ 16
minimums_small t nets i sums g limits are h low =
    let charge = (commodity_at t.commodities g).short_option_charge in
    let few : charge ≤ 10 ^ 9 = (limits.commodities g no_commodity low).charge in
    let small = count_small (short_share_of g charge) (10 ^ 16) t.contracts nets i are.of_nets.one_each (λ j p. short_share_small g charge (contract_at t.contracts j) (value_at nets j) few (are.of_nets.small j (pos 0) (omega (arith, are.of_nets.one_each)))) h in
    rw (are.minimums g low) small

pub value_small : (t : Tables) (nets : List ℤ) (i : ℕ) (sums : Sums) → IsWithinLimits t → AreSumsTo t nets i sums → i ≤ length t.contracts → unsigned_abs sums.option_value ≤ i * 10 ^ 15
value_small t nets i sums limits are h =
    let small = share_sum_small value_share (10 ^ 15) t.contracts nets i are.of_nets.one_each (λ j p. value_share_small (length t.commodities) t.months (contract_at t.contracts j) (value_at nets j) (limits.contracts j no_contract p) (are.of_nets.small j (pos 0) (omega (arith, are.of_nets.one_each)))) h in
    rw are.value small

-- the totals of a commodity with one position of it more are totals still
pub totals_room : (t : Tables) (nets : List ℤ) (i : ℕ) (sums : Sums) (s : ℕ) → IsWithinLimits t → AreSumsTo t nets i sums → i < length t.contracts → s < 16 → let c = contract_at t.contracts i in IsTotal (total_of sums.totals c.commodity s +ℤ value_at nets i *ℤ value_at c.array s)
totals_room t nets i sums s limits are h k =
    let c : Contract = contract_at t.contracts i in
    let one_each = are.of_nets.one_each in
    let small = scenario_total_small_to t nets c.commodity s (i + 1) limits one_each are.of_nets.small (omega (arith, h)) in
    let more = position_sum_more (scenario_share c.commodity s) t.contracts nets i h one_each in
    let share = scenario_share_in c.commodity s c (value_at nets i) refl in
    omega (arith, ints, small, more, share, are.totals c.commodity s (limits.contracts i no_contract h).commodity k)

-- and so is the delta of its month a delta
pub deltas_room : (t : Tables) (nets : List ℤ) (i : ℕ) (sums : Sums) → IsWithinLimits t → AreSumsTo t nets i sums → i < length t.contracts → let c = contract_at t.contracts i in IsDelta (value_at sums.deltas c.month +ℤ value_at nets i *ℤ c.delta)
deltas_room t nets i sums limits are h =
    let c : Contract = contract_at t.contracts i in
    let one_each = are.of_nets.one_each in
    let small = month_delta_small_to t nets c.month (i + 1) limits one_each are.of_nets.small (omega (arith, h)) in
    let more = position_sum_more (month_share c.month) t.contracts nets i h one_each in
    let share : month_share c.month (c, value_at nets i) ≡ value_at nets i *ℤ c.delta = rw (eq-eqb c.month c.month refl) refl in
    omega (arith, ints, small, more, share, are.deltas c.month (limits.contracts i no_contract h).month)

-- the sums of all positions
pub sums_all : (t : Tables) (nets : List ℤ) (sums : Sums) → IsWithinLimits t → AreSumsTo t nets (length t.contracts) sums → AreSums t nets sums
sums_all t nets sums limits are =
    let n = length t.contracts in
    let one_each = are.of_nets.one_each in
    let few = limits.few_contracts in
    record {
      totals = record {
        of_nets = are.of_nets;
        one_row_each = are.one_row_each;
        each = λ g s h k. are.totals g s h k ∙ position_sum_all (scenario_share g s) t.contracts nets n (omega arith) one_each;
      };
      deltas = record {
        of_nets = are.of_nets;
        one_delta_each = are.one_delta_each;
        each = λ m h. are.deltas m h ∙ position_sum_all (month_share m) t.contracts nets n (omega arith) one_each;
      };
      minimums = record {
        one_each = are.one_minimum_each;
        each = λ g h. are.minimums g h ∙ position_count_all (short_share_of g (commodity_at t.commodities g).short_option_charge) t.contracts nets n (omega arith) one_each;
        small = λ g h. let low = minimums_small t nets n sums g limits are (omega arith) h in omega (arith, low, few);
      };
      marks = record { one_each = are.one_mark_each; flat = are.flat };
      value = are.value ∙ position_sum_all value_share t.contracts nets n (omega arith) one_each;
      small_value = let low = value_small t nets n sums limits are (omega arith) in omega (arith, low, few);
    }
