-- The totals of nets of 0, and those after `add`, which changes one net.
use Rattle.std.proofs.Common.{◌≡◌, ◌≢◌, ℕ, ◌<◌, ◌≤◌, ◌^◌, ◌*◌, ⊎_elim, ℤ, List, [], length, set, get_or, replicate, ap, ◌∙◌, sym, arith, pos, unsigned_abs, get_or-set_other, get_or-set_same, length-set}
use Rattle.std.specs.Prelude.{◌+ℤ◌, ◌*ℤ◌}
use Rattle.std.proofs.lemmas.Bool.{cases_eq}
use Rattle.std.proofs.lemmas.Int.{ints}
use Rattle.std.proofs.lemmas.List.{get_or-replicate, length-replicate}
use Rattle.std.proofs.lemmas.List.Elements.{All-replicate, All-set}
use Rattle.mgn_num.proofs.SignedLemmas.{sum-*ℤ}
use Rattle.mgn_params.specs.declared.tables.Contract.{Contract}
use Rattle.mgn_params.specs.Limits.{IsWithinLimits}
use Rattle.mgn_span.specs.Positions.{IsNet, positions}
use Rattle.mgn_span.specs.Requirement.{scan_of}
use Rattle.mgn_span.specs.Scan.{active, price_risk2, scan_risk, scenario_total, value_at}
use Rattle.mgn_span.specs.Words.{scenario_share, total_of, totals_of}
use Rattle.mgn_params.specs.Tables.{Tables, contract_at}
use Rattle.mgn_span.proofs.FlatLemmas.{AreFlat-replicate, scenario_total_flat}
use Rattle.mgn_span.proofs.PositionLemmas.{position_sum-set}
use Rattle.mgn_span.proofs.ScanLemmas.{active_same, price_risk2_same, scan_risk_same}
use Rattle.mgn_span.proofs.ShareLemmas.{scenario_share_in, scenario_share_out, scenario_total_small}
use Rattle.mgn_span.specs.Sizes.{IsTotal}
use Rattle.mgn_scan.specs.Totals.{AreTotals}

-- The start.

-- rows of 0 are the totals of nets of 0
pub AreTotals-flat : (t : Tables) (rows : List (List ℤ)) → rows ≡ replicate (length t.commodities) (replicate 16 (pos 0)) → AreTotals t (replicate (length t.contracts) (pos 0)) rows
AreTotals-flat t rows are =
    let n = length t.contracts in
    let m = length t.commodities in
    let zeros : List ℤ = replicate 16 (pos 0) in
    record {
      one_each = length-replicate {A = ℤ} n (pos 0);
      small = All-replicate IsNet n (pos 0) (omega (arith, ints));
      one_row_each = ap length are ∙ length-replicate {A = List ℤ} m zeros;
      each = λ g s h k.
          ap (λ (xs : List (List ℤ)). total_of xs g s) are ∙ ap (λ (row : List ℤ). value_at row s) (get_or-replicate m g zeros [] h) ∙ get_or-replicate 16 s (pos 0) (pos 0) k ∙ sym (scenario_total_flat t.contracts (replicate n (pos 0)) g s (AreFlat-replicate n));
    }

-- A change.

-- a net counts as its two parts do
scenario_share-sum : (g s : ℕ) (c : Contract) (a b : ℤ) → scenario_share g s (c, a +ℤ b) ≡ scenario_share g s (c, a) +ℤ scenario_share g s (c, b)
scenario_share-sum g s c a b = grind (arith, ints, sum-*ℤ a b (value_at c.array s))

-- a quantity more of one contract
scenario_total-set : (t : Tables) (nets : List ℤ) (g s i : ℕ) (q : ℤ) → i < length t.contracts → length nets ≡ length t.contracts → scenario_total g (positions t.contracts (set nets i (value_at nets i +ℤ q))) s ≡ scenario_total g (positions t.contracts nets) s +ℤ scenario_share g s (contract_at t.contracts i, q)
scenario_total-set t nets g s i q h e =
    let c = contract_at t.contracts i in
    let moved = position_sum-set (scenario_share g s) t.contracts nets i (value_at nets i +ℤ q) h e in
    omega (arith, ints, moved, scenario_share-sum g s c (value_at nets i) q)

-- each total of the contract's commodity moves by its array times the quantity
changed_total : (t : Tables) (nets : List ℤ) (rows : List (List ℤ)) (i g s : ℕ) (q : ℤ) → AreTotals t nets rows → i < length t.contracts → (contract_at t.contracts i).commodity ≡ g → g < length t.commodities → s < 16 → scenario_total g (positions t.contracts (set nets i (value_at nets i +ℤ q))) s ≡ total_of rows g s +ℤ q *ℤ value_at (contract_at t.contracts i).array s
changed_total t nets rows i g s q are h is low k =
    let moved = scenario_total-set t nets g s i q h are.one_each in
    let share = scenario_share_in g s (contract_at t.contracts i) q is in
    omega (arith, ints, moved, share, are.each g s low k)

-- and is still a total
pub changed_total_small : (t : Tables) (nets : List ℤ) (rows : List (List ℤ)) (i g s : ℕ) (q : ℤ) → IsWithinLimits t → AreTotals t nets rows → i < length t.contracts → IsNet (value_at nets i +ℤ q) → (contract_at t.contracts i).commodity ≡ g → g < length t.commodities → s < 16 → IsTotal (total_of rows g s +ℤ q *ℤ value_at (contract_at t.contracts i).array s)
changed_total_small t nets rows i g s q limits are h net is low k =
    let now : List ℤ = set nets i (value_at nets i +ℤ q) in
    let one_each : length now ≡ length t.contracts = length-set nets i (value_at nets i +ℤ q) ∙ are.one_each in
    let small = scenario_total_small t now g s limits one_each (All-set IsNet nets i (value_at nets i +ℤ q) net are.small) in
    omega (arith, ints, small, changed_total t nets rows i g s q are h is low k)

-- a net of the totals is within its limit
net_small : (t : Tables) (nets : List ℤ) (rows : List (List ℤ)) (i : ℕ) → AreTotals t nets rows → i < length t.contracts → IsNet (value_at nets i)
net_small t nets rows i are h = are.small i (pos 0) (omega (arith, are.one_each, h))

-- a change of a net within its limit is no larger than twice that
pub quantity_small : (t : Tables) (nets : List ℤ) (rows : List (List ℤ)) (i : ℕ) (q : ℤ) → AreTotals t nets rows → i < length t.contracts → IsNet (value_at nets i +ℤ q) → unsigned_abs q ≤ 2 * 10 ^ 7
quantity_small t nets rows i q are h net = omega (arith, ints, net_small t nets rows i are h, net)

-- the totals afterwards: the row of the contract's commodity has moved, and the others are as they were
pub AreTotals-changed : (t : Tables) (nets : List ℤ) (rows : List (List ℤ)) (i g : ℕ) (q : ℤ) (row : List ℤ) → AreTotals t nets rows → i < length t.contracts → IsNet (value_at nets i +ℤ q) → (contract_at t.contracts i).commodity ≡ g → g < length t.commodities → ((s : ℕ) → s < 16 → value_at row s ≡ total_of rows g s +ℤ q *ℤ value_at (contract_at t.contracts i).array s) → AreTotals t (set nets i (value_at nets i +ℤ q)) (set rows g row)
AreTotals-changed t nets rows i g q row are h small is low added =
    let net = value_at nets i +ℤ q in
    let here : g < length rows = omega (arith, are.one_row_each) in
    record {
      one_each = length-set nets i net ∙ are.one_each;
      small = All-set IsNet nets i net small are.small;
      one_row_each = length-set rows g row ∙ are.one_row_each;
      each = λ k s p b.
          ⊎_elim
          (λ (same : k ≡ g).
          let row_now = ap (λ (xs : List ℤ). value_at xs s) (ap (λ (j : ℕ). get_or (set rows g row) j []) same ∙ get_or-set_same rows g row [] here) in
          let total = changed_total t nets rows i g s q are h is low b in
          let there = ap (λ (j : ℕ). scenario_total j (positions t.contracts (set nets i net)) s) same in
          omega (arith, ints, row_now, added s b, total, there))
          (λ (other : k ≢ g).
          let row_now = ap (λ (xs : List ℤ). value_at xs s) (get_or-set_other rows g k row [] other) in
          let moved = scenario_total-set t nets k s i q h are.one_each in
          let share = scenario_share_out k s (contract_at t.contracts i) q (λ e. other (sym e ∙ is)) in
          omega (arith, ints, row_now, moved, share, are.each k s p b))
          (cases_eq k g);
    }

-- Questions.

-- the row of a commodity is its totals
row_is : (t : Tables) (nets : List ℤ) (rows : List (List ℤ)) (row : List ℤ) (g : ℕ) → AreTotals t nets rows → g < length rows → row ≡ totals_of rows g → (s : ℕ) → s < 16 → value_at row s ≡ scenario_total g (positions t.contracts nets) s
row_is t nets rows row g are h is s k =
    ap (λ (xs : List ℤ). value_at xs s) is ∙ are.each g s (omega (arith, are.one_row_each)) k

pub scan_is : (t : Tables) (nets : List ℤ) (rows : List (List ℤ)) (row : List ℤ) (g : ℕ) → AreTotals t nets rows → g < length rows → row ≡ totals_of rows g → scan_risk (value_at row) ≡ scan_of (positions t.contracts nets) g
scan_is t nets rows row g are h is =
    scan_risk_same (value_at row) (scenario_total g (positions t.contracts nets)) (row_is t nets rows row g are h is)

pub active_is : (t : Tables) (nets : List ℤ) (rows : List (List ℤ)) (row : List ℤ) (g : ℕ) → AreTotals t nets rows → g < length rows → row ≡ totals_of rows g → active (value_at row) ≡ active (scenario_total g (positions t.contracts nets))
active_is t nets rows row g are h is =
    active_same (value_at row) (scenario_total g (positions t.contracts nets)) (row_is t nets rows row g are h is)

pub price_risk2_is : (t : Tables) (nets : List ℤ) (rows : List (List ℤ)) (row : List ℤ) (g : ℕ) → AreTotals t nets rows → g < length rows → row ≡ totals_of rows g → price_risk2 (value_at row) ≡ price_risk2 (scenario_total g (positions t.contracts nets))
price_risk2_is t nets rows row g are h is =
    price_risk2_same (value_at row) (scenario_total g (positions t.contracts nets)) (row_is t nets rows row g are h is)
