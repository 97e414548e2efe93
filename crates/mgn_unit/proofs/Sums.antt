-- Rows of one number for each contract, and sums over a unit's accounts, where one account changes: for rows.
use Rattle.std.proofs.Common.{◌≡◌, ◌≢◌, ℕ, ◌<◌, List, [], length, map, Bool, true, false, set, get_or, refl, sym, ap, ◌∙◌, subst, arith, position}
use Rattle.std.specs.Prelude.{ℤ, pos, neg_ℤ, ◌+ℤ◌, ◌==◌, if◌then◌else◌, nat_eq, nat_lt, Some}
use Rattle.std.specs.List.{IsDistinct}
use Rattle.std.specs.Str.{bytes_eq}
use Rattle.std.proofs.lemmas.Bool.Decides.{nat_tests}
use Rattle.std.proofs.lemmas.Int.{ints}
use Rattle.std.proofs.lemmas.List.{ext_get_or, get_or-map, get_or-set_same, get_or-set_other, length-map, length-set, set-get_or, set-set}
use Rattle.std.proofs.lemmas.List.Quantifiers.{position-Some}
use Rattle.std.proofs.lemmas.Map.Keys.{apart_from_distinct}
use Rattle.std.proofs.lemmas.Slice.Eq.{bytes_eq-Decides}
use Rattle.mgn_num.proofs.SignedLemmas.{signed_sum_by-set}
use Rattle.mgn_params.specs.declared.tables.Contract.{Contract}
use Rattle.mgn_params.specs.Limits.{contract_names}
use Rattle.mgn_params.specs.Tables.{no_contract, contract_at}
use Rattle.mgn_machine.specs.State.{AccountState, no_account}
use Rattle.mgn_machine.specs.Portfolios.{in_unit, unit_sum, row_by}
use Rattle.mgn_unit.specs.Rows.{more_at}

-- The contract of a name stands at one place alone.

pub is_at : (name : List ℕ) (names : List (List ℕ)) (i : ℕ) → position (bytes_eq name) names ≡ Some i → name ≡ get_or names i []
is_at name names i here = (bytes_eq-Decides name (get_or names i [])).0 (position-Some (bytes_eq name) names i [] here).1

pub is_no_other : (name : List ℕ) (names : List (List ℕ)) (i j : ℕ) → IsDistinct bytes_eq names → position (bytes_eq name) names ≡ Some i → j < length names → j ≢ i → bytes_eq name (get_or names j []) ≡ false
is_no_other name names i j apart here inside other = by (nat_lt j i) refl
  where
    by : (b : Bool) → nat_lt j i ≡ b → bytes_eq name (get_or names j []) ≡ false
    by true before = (position-Some (bytes_eq name) names i [] here).2 j (grind (arith, nat_tests))
    by false after =
        subst (λ (n : List ℕ). bytes_eq n (get_or names j []) ≡ false) (sym (is_at name names i here))
        (apart_from_distinct bytes_eq names i j [] apart (grind (arith, nat_tests)) inside)

-- A row in which the contract of a name counts for more.
pub row-more : (f g : List ℕ → ℤ) (name : List ℕ) (quantity : ℤ) (contracts : List Contract) (i : ℕ) → IsDistinct bytes_eq (contract_names contracts) → position (bytes_eq name) (contract_names contracts) ≡ Some i → ((c : List ℕ) → g c ≡ f c +ℤ (if bytes_eq name c then quantity else pos 0)) → map (λ (c : Contract). g c.name) contracts ≡ more_at (map (λ (c : Contract). f c.name) contracts) i quantity
row-more f g name quantity contracts i apart here more = ext_get_or (pos 0) now later long at
  where
    was : List ℤ
    was = map (λ (c : Contract). f c.name) contracts

    now : List ℤ
    now = map (λ (c : Contract). g c.name) contracts

    later : List ℤ
    later = more_at was i quantity

    found : (i < length (contract_names contracts)) × (bytes_eq name (get_or (contract_names contracts) i []) ≡ true) × ((k : ℕ) → k < i → bytes_eq name (get_or (contract_names contracts) k []) ≡ false)
    found = position-Some (bytes_eq name) (contract_names contracts) i [] here

    inside : i < length was
    inside = omega (arith, found.0, length-map contracts (λ (c : Contract). c.name), length-map contracts (λ (c : Contract). f c.name))

    long : length now ≡ length later
    long = omega (arith, length-map contracts (λ (c : Contract). g c.name), length-map contracts (λ (c : Contract). f c.name), length-set was i (get_or was i (pos 0) +ℤ quantity))

    named : (j : ℕ) → j < length contracts → get_or (contract_names contracts) j [] ≡ (contract_at contracts j).name
    named j h = get_or-map (λ (c : Contract). c.name) contracts j no_contract [] h

    by : (j : ℕ) → j < length contracts → (b : Bool) → nat_eq j i ≡ b → get_or now j (pos 0) ≡ get_or later j (pos 0)
    by j h true e =
        let same : j ≡ i = grind (arith, nat_tests) in
        let own : bytes_eq name (contract_at contracts j).name ≡ true = ap (λ (n : List ℕ). bytes_eq name n) (sym (named j h)) ∙ ap (λ (k : ℕ). bytes_eq name (get_or (contract_names contracts) k [])) same ∙ found.1 in
        let value : g (contract_at contracts j).name ≡ f (contract_at contracts j).name +ℤ quantity = more (contract_at contracts j).name ∙ ap (λ (b : Bool). f (contract_at contracts j).name +ℤ (if b then quantity else pos 0)) own in
        get_or-map (λ (c : Contract). g c.name) contracts j no_contract (pos 0) h ∙ value
        ∙ ap (λ (x : ℤ). x +ℤ quantity) (sym (get_or-map (λ (c : Contract). f c.name) contracts j no_contract (pos 0) h))
        ∙ ap (λ (k : ℕ). get_or was k (pos 0) +ℤ quantity) same
        ∙ sym (ap (λ (k : ℕ). get_or later k (pos 0)) same ∙ get_or-set_same was i (get_or was i (pos 0) +ℤ quantity) (pos 0) inside)
    by j h false e =
        let other : j ≢ i = λ (same : j ≡ i). absurd (grind (arith, nat_tests)) in
        let apart_from : bytes_eq name (contract_at contracts j).name ≡ false = ap (λ (n : List ℕ). bytes_eq name n) (sym (named j h)) ∙ is_no_other name (contract_names contracts) i j apart here (omega (arith, length-map contracts (λ (c : Contract). c.name))) other in
        let value : g (contract_at contracts j).name ≡ f (contract_at contracts j).name +ℤ pos 0 = more (contract_at contracts j).name ∙ ap (λ (b : Bool). f (contract_at contracts j).name +ℤ (if b then quantity else pos 0)) apart_from in
        let zero : f (contract_at contracts j).name +ℤ pos 0 ≡ f (contract_at contracts j).name = omega (arith, ints) in
        get_or-map (λ (c : Contract). g c.name) contracts j no_contract (pos 0) h ∙ value ∙ zero
        ∙ sym (get_or-map (λ (c : Contract). f c.name) contracts j no_contract (pos 0) h)
        ∙ sym (get_or-set_other was i j (get_or was i (pos 0) +ℤ quantity) (pos 0) other)

    at : (j : ℕ) → j < length now → get_or now j (pos 0) ≡ get_or later j (pos 0)
    at j h = by j (omega (arith, length-map contracts (λ (c : Contract). g c.name))) (nat_eq j i) refl

-- Sums over the accounts of a unit.

-- an account of the unit changed
pub sum-moved : (u : ℕ) (f : AccountState → ℤ) (accounts : List AccountState) (k : ℕ) (b : AccountState) (d : ℤ) → k < length accounts → (get_or accounts k no_account).unit ≡ u → b.unit ≡ u → f b ≡ f (get_or accounts k no_account) +ℤ d → unit_sum u f (set accounts k b) ≡ unit_sum u f accounts +ℤ d
sum-moved u f accounts k b d inside was now more =
    let moved = signed_sum_by-set (in_unit u f) accounts k b no_account inside in
    let old : in_unit u f (get_or accounts k no_account) ≡ f (get_or accounts k no_account) = grind (arith, nat_tests) in
    let new : in_unit u f b ≡ f b = grind (arith, nat_tests) in
    omega (arith, ints)

-- an account of another unit changed
pub sum-apart : (u : ℕ) (f : AccountState → ℤ) (accounts : List AccountState) (k : ℕ) (b : AccountState) → k < length accounts → ((get_or accounts k no_account).unit ≢ u) → b.unit ≡ (get_or accounts k no_account).unit → unit_sum u f (set accounts k b) ≡ unit_sum u f accounts
sum-apart u f accounts k b inside apart now =
    let moved = signed_sum_by-set (in_unit u f) accounts k b no_account inside in
    let old : in_unit u f (get_or accounts k no_account) ≡ pos 0 = grind (arith, nat_tests) in
    let new : in_unit u f b ≡ pos 0 = grind (arith, nat_tests) in
    omega (arith, ints)

-- an account changed in nothing that counts
pub sum-stays : (u : ℕ) (f : AccountState → ℤ) (accounts : List AccountState) (k : ℕ) (b : AccountState) → k < length accounts → b.unit ≡ (get_or accounts k no_account).unit → f b ≡ f (get_or accounts k no_account) → unit_sum u f (set accounts k b) ≡ unit_sum u f accounts
sum-stays u f accounts k b inside now same =
    let moved = signed_sum_by-set (in_unit u f) accounts k b no_account inside in
    let new : in_unit u f b ≡ in_unit u f (get_or accounts k no_account) = λ i. if now i == u then same i else pos 0 in
    omega (arith, ints)

-- a quantity more, and the same taken away again
pub more-back : (row : List ℤ) (i : ℕ) (quantity : ℤ) → i < length row → more_at (more_at row i quantity) i (neg_ℤ quantity) ≡ row
more-back row i quantity inside =
    let was : ℤ = get_or row i (pos 0) in
    let there : get_or (set row i (was +ℤ quantity)) i (pos 0) ≡ was +ℤ quantity = get_or-set_same row i (was +ℤ quantity) (pos 0) inside in
    let back : get_or (set row i (was +ℤ quantity)) i (pos 0) +ℤ neg_ℤ quantity ≡ was = omega (arith, ints, there) in
    ap (λ (x : ℤ). set (set row i (was +ℤ quantity)) i x) back ∙ set-set row i (was +ℤ quantity) was ∙ set-get_or row i (pos 0)

-- The number of the contract of a name.
pub row_by-at : (contracts : List Contract) (accounts : List AccountState) (u : ℕ) (f : List ℕ → AccountState → ℤ) (name : List ℕ) (i : ℕ) → position (bytes_eq name) (contract_names contracts) ≡ Some i → get_or (row_by contracts accounts u f) i (pos 0) ≡ unit_sum u (f name) accounts
row_by-at contracts accounts u f name i here =
    get_or-map (λ (c : Contract). unit_sum u (f c.name) accounts) contracts i no_contract (pos 0) inside
    ∙ ap (λ (n : List ℕ). unit_sum u (f n) accounts) (sym (get_or-map (λ (c : Contract). c.name) contracts i no_contract [] inside) ∙ sym (is_at name (contract_names contracts) i here))
  where
    inside : i < length contracts
    inside = omega (arith, (position-Some (bytes_eq name) (contract_names contracts) i [] here).0, length-map contracts (λ (c : Contract). c.name))
