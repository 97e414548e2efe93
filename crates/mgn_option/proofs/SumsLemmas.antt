-- The sums of nets of 0, and those after `add`, which changes one net.
use Rattle.std.proofs.Common.{◌≡◌, ◌≢◌, ℕ, ◌+◌, ◌-◌, ◌<◌, ◌≤◌, ⊎_elim, ℤ, List, length, set, replicate, ap, ◌∙◌, sym, arith, pos, get_or-set_other, get_or-set_same, length-set}
use Rattle.std.specs.Prelude.{◌+ℤ◌, slice_index}
use Rattle.std.proofs.lemmas.Bool.{cases_eq}
use Rattle.std.proofs.lemmas.Int.{ints}
use Rattle.std.proofs.lemmas.List.{get_or-replicate, length-replicate}
use Rattle.std.proofs.lemmas.List.Elements.{All-replicate, All-set}
use Rattle.mgn_num.proofs.SignedLemmas.{sum-*ℤ}
use Rattle.mgn_params.specs.declared.tables.Contract.{Contract}
use Rattle.mgn_params.specs.Limits.{IsWithinLimits}
use Rattle.mgn_span.specs.Options.{net_option_value, short_option_minimum}
use Rattle.mgn_span.specs.Positions.{IsNet, positions}
use Rattle.mgn_span.specs.Scan.{value_at}
use Rattle.mgn_span.specs.Words.{short_share_of, value_share}
use Rattle.mgn_params.specs.Tables.{Tables, commodity_at, contract_at, no_commodity}
use Rattle.mgn_span.proofs.FlatLemmas.{AreFlat-replicate, net_option_value_flat, short_option_minimum_flat}
use Rattle.mgn_span.proofs.PositionLemmas.{position_count-le, position_count-set, position_sum-set}
use Rattle.mgn_span.proofs.ShareLemmas.{net_option_value_small, short_option_minimum_small, short_share_out}
use Rattle.mgn_option.specs.Sums.{AreSums, IsMinimum, IsOptionValue, Sums}

-- The start.

-- sums of 0 are those of nets of 0
pub AreSums-flat : (t : Tables) (sums : Sums) → sums.minimums ≡ replicate (length t.commodities) 0 → sums.value ≡ pos 0 → AreSums t (replicate (length t.contracts) (pos 0)) sums
AreSums-flat t sums minimums value =
    let n = length t.contracts in
    let m = length t.commodities in
    let flat = AreFlat-replicate n in
    record {
      one_each = length-replicate {A = ℤ} n (pos 0);
      small = All-replicate IsNet n (pos 0) (omega (arith, ints));
      one_minimum_each = ap length minimums ∙ length-replicate {A = ℕ} m 0;
      each = λ g h.
          let charge = (commodity_at t.commodities g).short_option_charge in
          ap (λ (xs : List ℕ). slice_index xs g) minimums ∙ get_or-replicate m g 0 0 h ∙ sym (short_option_minimum_flat t.contracts (replicate n (pos 0)) g charge flat);
      value_is = value ∙ sym (net_option_value_flat t.contracts (replicate n (pos 0)) flat);
    }

-- A change.

-- a net counts in the value as its two parts do
value_share-sum : (c : Contract) (a b : ℤ) → value_share (c, a +ℤ b) ≡ value_share (c, a) +ℤ value_share (c, b)
value_share-sum c a b = grind (arith, ints, sum-*ℤ a b (pos c.option_value))

-- the value moves by what the quantity counts for
changed_value : (t : Tables) (nets : List ℤ) (sums : Sums) (i : ℕ) (q : ℤ) → AreSums t nets sums → i < length t.contracts → net_option_value (positions t.contracts (set nets i (value_at nets i +ℤ q))) ≡ sums.value +ℤ value_share (contract_at t.contracts i, q)
changed_value t nets sums i q are h =
    let c = contract_at t.contracts i in
    let moved = position_sum-set value_share t.contracts nets i (value_at nets i +ℤ q) h are.one_each in
    omega (arith, ints, moved, value_share-sum c (value_at nets i) q, are.value_is)

-- and stays within its limit
pub changed_value_small : (t : Tables) (nets : List ℤ) (sums : Sums) (i : ℕ) (q : ℤ) → IsWithinLimits t → AreSums t nets sums → i < length t.contracts → IsNet (value_at nets i +ℤ q) → IsOptionValue (sums.value +ℤ value_share (contract_at t.contracts i, q))
changed_value_small t nets sums i q limits are h net =
    let now : List ℤ = set nets i (value_at nets i +ℤ q) in
    let one_each : length now ≡ length t.contracts = length-set nets i (value_at nets i +ℤ q) ∙ are.one_each in
    let small = net_option_value_small t now limits one_each (All-set IsNet nets i (value_at nets i +ℤ q) net are.small) in
    omega (arith, ints, small, changed_value t nets sums i q are h)

-- what the position counted for is a part of its commodity's minimum
pub counted_minimum : (t : Tables) (nets : List ℤ) (sums : Sums) (i g : ℕ) → AreSums t nets sums → i < length t.contracts → g < length t.commodities → short_share_of g (commodity_at t.commodities g).short_option_charge (contract_at t.contracts i, value_at nets i) ≤ slice_index sums.minimums g
counted_minimum t nets sums i g are h low =
    let part = position_count-le (short_share_of g (commodity_at t.commodities g).short_option_charge) t.contracts nets i h are.one_each in
    omega (arith, part, are.each g low)

-- the minimum moves by what the net counts for before and after
changed_minimum : (t : Tables) (nets : List ℤ) (sums : Sums) (i g : ℕ) (net : ℤ) → AreSums t nets sums → i < length t.contracts → g < length t.commodities → let charge = (commodity_at t.commodities g).short_option_charge in short_option_minimum (positions t.contracts (set nets i net)) g charge ≡ slice_index sums.minimums g - short_share_of g charge (contract_at t.contracts i, value_at nets i) + short_share_of g charge (contract_at t.contracts i, net)
changed_minimum t nets sums i g net are h low =
    let moved = position_count-set (short_share_of g (commodity_at t.commodities g).short_option_charge) t.contracts nets i net h are.one_each in
    omega (arith, moved, counted_minimum t nets sums i g are h low, are.each g low)

-- and stays within its limit
pub changed_minimum_small : (t : Tables) (nets : List ℤ) (sums : Sums) (i g : ℕ) (net : ℤ) → IsWithinLimits t → AreSums t nets sums → i < length t.contracts → g < length t.commodities → IsNet net → let charge = (commodity_at t.commodities g).short_option_charge in IsMinimum (slice_index sums.minimums g - short_share_of g charge (contract_at t.contracts i, value_at nets i) + short_share_of g charge (contract_at t.contracts i, net))
changed_minimum_small t nets sums i g net limits are h low small =
    let now : List ℤ = set nets i net in
    let one_each : length now ≡ length t.contracts = length-set nets i net ∙ are.one_each in
    let charge = (commodity_at t.commodities g).short_option_charge in
    let within = short_option_minimum_small t now g charge limits one_each (All-set IsNet nets i net small are.small) (limits.commodities g no_commodity low).charge in
    omega (arith, within, changed_minimum t nets sums i g net are h low)

-- the sums afterwards: the minimum of the contract's commodity and the value have moved, the other minimums are as they were
pub AreSums-changed : (t : Tables) (nets : List ℤ) (sums : Sums) (i g : ℕ) (q : ℤ) (least : ℕ) (value : ℤ) → AreSums t nets sums → i < length t.contracts → IsNet (value_at nets i +ℤ q) → (contract_at t.contracts i).commodity ≡ g → g < length t.commodities → (let charge = (commodity_at t.commodities g).short_option_charge in least ≡ slice_index sums.minimums g - short_share_of g charge (contract_at t.contracts i, value_at nets i) + short_share_of g charge (contract_at t.contracts i, value_at nets i +ℤ q)) → value ≡ sums.value +ℤ value_share (contract_at t.contracts i, q) → (let now : Sums = record { minimums = set sums.minimums g least; value = value } in AreSums t (set nets i (value_at nets i +ℤ q)) now)
AreSums-changed t nets sums i g q least value are h small is low lower worth =
    let net = value_at nets i +ℤ q in
    let here : g < length sums.minimums = omega (arith, are.one_minimum_each) in
    record {
      one_each = length-set nets i net ∙ are.one_each;
      small = All-set IsNet nets i net small are.small;
      one_minimum_each = length-set sums.minimums g least ∙ are.one_minimum_each;
      each = λ k p.
          ⊎_elim
          (λ (same : k ≡ g).
          let charge = λ (j : ℕ). (commodity_at t.commodities j).short_option_charge in
          let row_now = ap (λ (j : ℕ). slice_index (set sums.minimums g least) j) same ∙ get_or-set_same sums.minimums g least 0 here in
          let there = ap (λ (j : ℕ). short_option_minimum (positions t.contracts (set nets i net)) j (charge j)) same in
          row_now ∙ lower ∙ sym (changed_minimum t nets sums i g net are h low) ∙ sym there)
          (λ (other : k ≢ g).
          let charge = (commodity_at t.commodities k).short_option_charge in
          let row_now = get_or-set_other sums.minimums g k least 0 other in
          let moved = changed_minimum t nets sums i k net are h p in
          let none = λ (n : ℤ). short_share_out k charge (contract_at t.contracts i) n (λ e. other (sym e ∙ is)) in
          omega (arith, row_now, moved, none net, none (value_at nets i), are.each k p))
          (cases_eq k g);
      value_is = worth ∙ sym (changed_value t nets sums i q are h);
    }
