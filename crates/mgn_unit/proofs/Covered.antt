-- When a set has what all accounts hold, told by the sizes of their units.
use Rattle.std.proofs.Common.{◌≡◌, ℕ, zero, suc, ◌≤◌, ◌<◌, List, [], ◌∷◌, length, Bool, true, false, get_or, refl, sym, ap, ◌∙◌, subst, arith, position, All}
use Rattle.std.specs.Prelude.{ℤ, pos, ◌≤ℤ◌, nat_eq, not, ◌&&◌, ◌||◌, if◌then◌else◌, unsigned_abs, Option, None, Some, is_some}
use Rattle.std.specs.Cmp.{both_ways as same_answer}
use Rattle.std.specs.List.{list_all, range_with_len}
use Rattle.std.specs.Ordering.{int_eq}
use Rattle.std.specs.Str.{bytes_eq}
use Rattle.std.proofs.lemmas.Bool.{and_parts, both_ways}
use Rattle.std.proofs.lemmas.Bool.Decides.{Decides-int_eq, nat_tests}
use Rattle.std.proofs.lemmas.Int.{ints}
use Rattle.std.proofs.lemmas.List.{get_or-map, get_or_default, length-map}
use Rattle.std.proofs.lemmas.List.Folds.{list_all_at}
use Rattle.std.proofs.lemmas.List.FromFn.{get_or-range_with_len, length-range_with_len}
use Rattle.std.proofs.lemmas.List.Quantifiers.{position-Some}
use Rattle.std.proofs.lemmas.List.Sums.{AllPass-from_list_all, list_all-from_AllPass}
use Rattle.mgn_num.proofs.SignedLemmas.{signed_sum_by-cons}
use Rattle.mgn_span.specs.Scan.{value_at}
use Rattle.mgn_params.specs.declared.tables.Contract.{Contract}
use Rattle.mgn_params.specs.Limits.{contract_names}
use Rattle.mgn_params.specs.Tables.{Tables, contract_at, no_contract}
use Rattle.mgn_coll.specs.Posted.{is_priced_by}
use Rattle.mgn_lots.specs.declared.lot.Lot.{Lot}
use Rattle.mgn_lots.specs.Lots.{is_live, gross}
use Rattle.mgn_lots.proofs.Shares.{bytes_eq-same, gross-holds, item-le-sum_by}
use Rattle.mgn_holds.specs.declared.held.Held.{Held}
use Rattle.mgn_machine.specs.NewSet.{covers, has_all}
use Rattle.mgn_machine.specs.State.{AccountState, IsAccount}
use Rattle.mgn_machine.specs.Portfolios.{held_size, account_size, in_unit, unit_sum, sizes_of}
use Rattle.mgn_machine.specs.Refusals.{has_contract, IsKnown}
use Rattle.mgn_unit.specs.declared.row.Row.{Row}
use Rattle.mgn_unit.specs.Rows.{row_of}
use Rattle.mgn_unit.specs.NewSets.{is_covered, is_covered_at}
use Rattle.mgn_unit.proofs.Carried.{unit_size-unknown}
use Rattle.mgn_unit.proofs.Sums.{is_at, row_by-at}

-- A test of each contract.

number-at : (n i d : ℕ) → i < n → get_or (range_with_len 0 n) i d ≡ i
number-at n i d inside = get_or-range_with_len 0 n i d inside ∙ omega arith

pub all-covered : (old new : Tables) (sizes : List ℤ) → ((i : ℕ) → i < length old.contracts → is_covered_at old new sizes i ≡ true) → is_covered old new sizes ≡ true
all-covered old new sizes covered =
    list_all-from_AllPass (is_covered_at old new sizes) (range_with_len 0 (length old.contracts)) (λ i d h. at i d (omega (arith, h, length-range_with_len 0 (length old.contracts))))
  where
    at : (i d : ℕ) → i < length old.contracts → is_covered_at old new sizes (get_or (range_with_len 0 (length old.contracts)) i d) ≡ true
    at i d inside = subst (λ (k : ℕ). is_covered_at old new sizes k ≡ true) (sym (number-at (length old.contracts) i d inside)) (covered i inside)

-- nothing is held there
pub flat-covered : (old new : Tables) (sizes : List ℤ) (i : ℕ) → value_at sizes i ≡ pos 0 → is_covered_at old new sizes i ≡ true
flat-covered old new sizes i flat = ap (λ (z : ℤ). int_eq z (pos 0) || has_contract new (contract_at old.contracts i).name) flat

pub one-lacks : (old new : Tables) (sizes : List ℤ) (i : ℕ) → i < length old.contracts → is_covered_at old new sizes i ≡ false → is_covered old new sizes ≡ false
one-lacks old new sizes i inside lacks =
    list_all_at (is_covered_at old new sizes) (range_with_len 0 (length old.contracts)) i 0 (omega (arith, inside, length-range_with_len 0 (length old.contracts)))
    (subst (λ (k : ℕ). is_covered_at old new sizes k ≡ false) (sym (number-at (length old.contracts) i 0 inside)) lacks)

-- Tests.

or-right : (s t : Bool) → t ≡ true → (s || t) ≡ true
or-right true t second = refl
or-right false t second = second

-- each contract is there, so whatever is held is
pub every-covered : (old new : Tables) (sizes : List ℤ) → ((i : ℕ) → i < length old.contracts → has_contract new (contract_at old.contracts i).name ≡ true) → is_covered old new sizes ≡ true
every-covered old new sizes has =
    all-covered old new sizes (λ i inside. or-right (int_eq (value_at sizes i) (pos 0)) (has_contract new (contract_at old.contracts i).name) (has i inside))

or-left : (s t : Bool) → s ≡ true → (s || t) ≡ true
or-left true t first = refl
or-left false t first = absurd (both_ways false refl first)

or-last : (s t : Bool) → (s || t) ≡ true → s ≡ false → t ≡ true
or-last true t one first = absurd (both_ways true first refl)
or-last false t one first = one

and-both : (s t : Bool) → s ≡ true → t ≡ true → (s && t) ≡ true
and-both true t first second = second
and-both false t first second = absurd (both_ways false refl first)

is-not : (b : Bool) → b ≡ true → not b ≡ false
is-not true is = refl
is-not false is = absurd (both_ways false refl is)

-- What a set has that has all that an account holds.

-- the contracts of its lots, those of its holds, and the classes of its collateral
all-parts : (set' : Tables) (a : AccountState) → has_all set' a ≡ true → (list_all (λ (x : Lot). not (is_live x.mark) || has_contract set' x.contract) a.lots ≡ true) × (list_all (λ (x : Held). has_contract set' x.contract) a.holds ≡ true) × (is_priced_by set'.classes a.collateral ≡ true)
all-parts set' a has =
    let lots : Bool = list_all (λ (x : Lot). not (is_live x.mark) || has_contract set' x.contract) a.lots in
    let holds : Bool = list_all (λ (x : Held). has_contract set' x.contract) a.holds in
    let parts = and_parts (lots && holds) (is_priced_by set'.classes a.collateral) has in
    let both = and_parts lots holds parts.0 in
    (both.0, both.1, parts.1)

pub has_all-known : (set' : Tables) (a : AccountState) → has_all set' a ≡ true → IsKnown set' a
has_all-known set' a has =
    let parts = all-parts set' a has in
    record {
      lots = λ i d h live.
          or-last (not (is_live (get_or a.lots i d).mark)) (has_contract set' (get_or a.lots i d).contract)
          (AllPass-from_list_all (λ (x : Lot). not (is_live x.mark) || has_contract set' x.contract) a.lots parts.0 i d h)
          (is-not (is_live (get_or a.lots i d).mark) live);
      holds = λ i d h. AllPass-from_list_all (λ (x : Held). has_contract set' x.contract) a.holds parts.1 i d h;
    }

-- after a switch to it the set has the contracts of all accounts
pub covers-known : (set' : Tables) (accounts : List AccountState) → covers set' accounts ≡ true → All (IsKnown set') accounts
unfolding covers
covers-known set' accounts has = λ i d h. has_all-known set' (get_or accounts i d) (AllPass-from_list_all (has_all set') accounts has i d h)

lot-has : (set' : Tables) (x : Lot) → (is_live x.mark ≡ true → has_contract set' x.contract ≡ true) → (not (is_live x.mark) || has_contract set' x.contract) ≡ true
lot-has set' x known = by (is_live x.mark) known
  where
    by : (b : Bool) → (b ≡ true → has_contract set' x.contract ≡ true) → (not b || has_contract set' x.contract) ≡ true
    by true has = has refl
    by false has = refl

known-has_all : (set' : Tables) (a : AccountState) → IsKnown set' a → is_priced_by set'.classes a.collateral ≡ true → has_all set' a ≡ true
known-has_all set' a known priced =
    let lots : Bool = list_all (λ (x : Lot). not (is_live x.mark) || has_contract set' x.contract) a.lots in
    let holds : Bool = list_all (λ (x : Held). has_contract set' x.contract) a.holds in
    and-both (lots && holds) (is_priced_by set'.classes a.collateral)
    (and-both lots holds
    (list_all-from_AllPass (λ (x : Lot). not (is_live x.mark) || has_contract set' x.contract) a.lots (λ i d h. lot-has set' (get_or a.lots i d) (known.lots i d h)))
    (list_all-from_AllPass (λ (x : Held). has_contract set' x.contract) a.holds (λ i d h. known.holds i d h)))
    priced

-- The sizes of a unit count each account's.

unit-size : (u : ℕ) (name : List ℕ) (accounts : List AccountState) → pos 0 ≤ℤ unit_sum u (account_size name) accounts
unit-size u name [] = omega (arith, ints)
unit-size u name (a ∷ accounts) = omega (arith, ints, signed_sum_by-cons (in_unit u (account_size name)) a accounts, by (nat_eq a.unit u), unit-size u name accounts)
  where
    by : (b : Bool) → pos 0 ≤ℤ (if b then account_size name a else pos 0)
    by true = omega (arith, ints)
    by false = omega (arith, ints)

own-size : (u : ℕ) (name : List ℕ) (a : AccountState) → a.unit ≡ u → in_unit u (account_size name) a ≡ account_size name a
own-size u name a own = grind (arith, nat_tests)

account-size-le : (u : ℕ) (name : List ℕ) (accounts : List AccountState) (k : ℕ) (d : AccountState) → k < length accounts → (get_or accounts k d).unit ≡ u → account_size name (get_or accounts k d) ≤ℤ unit_sum u (account_size name) accounts
account-size-le u name [] k d inside own = absurd (omega arith)
account-size-le u name (a ∷ accounts) zero d inside own =
    omega (arith, ints, signed_sum_by-cons (in_unit u (account_size name)) a accounts, own-size u name a own, unit-size u name accounts)
account-size-le u name (a ∷ accounts) (suc k) d inside own =
    omega (arith, ints, signed_sum_by-cons (in_unit u (account_size name)) a accounts, by (nat_eq a.unit u), account-size-le u name accounts k d (omega arith) own)
  where
    by : (b : Bool) → pos 0 ≤ℤ (if b then account_size name a else pos 0)
    by true = omega (arith, ints)
    by false = omega (arith, ints)

live-counts : (a : AccountState) (i : ℕ) (d : Lot) → IsAccount a → i < length a.lots → is_live (get_or a.lots i d).mark ≡ true → 1 ≤ gross (get_or a.lots i d).contract a.lots
live-counts a i d limits inside live =
    let x = get_or a.lots i d in
    omega (arith, gross-holds a.lots i x inside (get_or_default a.lots i d x inside) live, (limits.lots i d inside).some)

held-counts : (a : AccountState) (i : ℕ) (d : Held) → IsAccount a → i < length a.holds → 1 ≤ held_size (get_or a.holds i d).contract a.holds
held-counts a i d limits inside =
    let name = (get_or a.holds i d).contract in
    let size = λ (x : Held). if bytes_eq x.contract name then unsigned_abs x.quantity else 0 in
    let own : size (get_or a.holds i d) ≡ unsigned_abs (get_or a.holds i d).quantity = rw (bytes_eq-same name) refl in
    omega (arith, item-le-sum_by size a.holds i d inside, own, (limits.holds i d inside).some)

-- A set that has the contract wherever a size is not 0.

name-at : (contracts : List Contract) (name : List ℕ) (i : ℕ) → position (bytes_eq name) (contract_names contracts) ≡ Some i → (i < length contracts) × (name ≡ (contract_at contracts i).name)
name-at contracts name i here =
    let inside : i < length contracts = omega (arith, (position-Some (bytes_eq name) (contract_names contracts) i [] here).0, length-map contracts (λ (c : Contract). c.name)) in
    (inside, is_at name (contract_names contracts) i here ∙ get_or-map (λ (c : Contract). c.name) contracts i no_contract [] inside)

not-zero : (x : ℤ) → pos 1 ≤ℤ x → int_eq x (pos 0) ≡ false
not-zero x some = by (int_eq x (pos 0)) refl
  where
    by : (b : Bool) → int_eq x (pos 0) ≡ b → b ≡ false
    by true same = absurd (omega (arith, ints, (Decides-int_eq x (pos 0)).0 same))
    by false other = refl

covered-has : (old new : Tables) (accounts : List AccountState) (u : ℕ) (name : List ℕ) → is_covered old new (sizes_of old accounts u) ≡ true → has_contract old name ≡ true → pos 1 ≤ℤ unit_sum u (account_size name) accounts → has_contract new name ≡ true
covered-has old new accounts u name covered known some = by (position (bytes_eq name) (contract_names old.contracts)) refl
  where
    tests : List ℕ
    tests = range_with_len 0 (length old.contracts)

    by : (o : Option ℕ) → position (bytes_eq name) (contract_names old.contracts) ≡ o → has_contract new name ≡ true
    by None here = absurd (both_ways (has_contract old name) (ap is_some here) known)
    by (Some i) here =
        let at = name-at old.contracts name i here in
        let number : get_or (sizes_of old accounts u) i (pos 0) ≡ unit_sum u (account_size name) accounts = row_by-at old.contracts accounts u account_size name i here in
        let test : is_covered_at old new (sizes_of old accounts u) i ≡ true =
        subst (λ (k : ℕ). is_covered_at old new (sizes_of old accounts u) k ≡ true) (number-at (length old.contracts) i 0 at.0)
        (AllPass-from_list_all (is_covered_at old new (sizes_of old accounts u)) tests covered i 0 (omega (arith, at.0, length-range_with_len 0 (length old.contracts))))
        in
        let size : int_eq (get_or (sizes_of old accounts u) i (pos 0)) (pos 0) ≡ false = ap (λ (x : ℤ). int_eq x (pos 0)) number ∙ not-zero (unit_sum u (account_size name) accounts) some in
        ap (has_contract new) at.1 ∙ or-last _ _ test size

-- A set that has what all accounts hold has the contract wherever a size is not 0.

covers-covered_at : (old new : Tables) (accounts : List AccountState) (u i : ℕ) → All (IsKnown new) accounts → i < length old.contracts → is_covered_at old new (sizes_of old accounts u) i ≡ true
covers-covered_at old new accounts u i known inside = by (has_contract new (contract_at old.contracts i).name) refl
  where
    name : List ℕ
    name = (contract_at old.contracts i).name

    by : (b : Bool) → has_contract new name ≡ b → is_covered_at old new (sizes_of old accounts u) i ≡ true
    by true has = or-right _ _ has
    by false lacks =
        let number : get_or (sizes_of old accounts u) i (pos 0) ≡ pos 0 =
        get_or-map (λ (c : Contract). unit_sum u (account_size c.name) accounts) old.contracts i no_contract (pos 0) inside ∙ unit_size-unknown new accounts u name known lacks
        in
        or-left _ _ ((Decides-int_eq (get_or (sizes_of old accounts u) i (pos 0)) (pos 0)).1 number)

covers-covered : (old new : Tables) (accounts : List AccountState) (u : ℕ) → All (IsKnown new) accounts → is_covered old new (sizes_of old accounts u) ≡ true
covers-covered old new accounts u known = all-covered old new (sizes_of old accounts u) (λ i inside. covers-covered_at old new accounts u i known inside)

-- The two together.

-- the accounts are within the limits, the old set has their contracts, and the rows are those of their units
pub record AreRowsOf (set' : Tables) (accounts : List AccountState) (rows : List Row) : Type 0 where
  pub limits : All IsAccount accounts
  pub known : All (IsKnown set') accounts
  pub within : All (λ (a : AccountState). a.unit < length rows) accounts
  pub are : (u : ℕ) (d : Row) → u < length rows → get_or rows u d ≡ row_of set' accounts u

rows-known : (old new : Tables) (accounts : List AccountState) (rows : List Row) (k : ℕ) (d : AccountState) → AreRowsOf old accounts rows → list_all (λ (row : Row). is_covered old new row.sizes) rows ≡ true → k < length accounts → IsKnown new (get_or accounts k d)
rows-known old new accounts rows k d are covered inside = record {
  lots = λ i e h live. has (get_or a.lots i e).contract ((are.known k d inside).lots i e h live)
      (omega (arith, ints, counts (get_or a.lots i e).contract, live-counts a i e (are.limits k d inside) h live));
  holds = λ i e h. has (get_or a.holds i e).contract ((are.known k d inside).holds i e h)
      (omega (arith, ints, counts (get_or a.holds i e).contract, held-counts a i e (are.limits k d inside) h));
}
  where
    a : AccountState
    a = get_or accounts k d

    counts : (name : List ℕ) → account_size name a ≤ℤ unit_sum a.unit (account_size name) accounts
    counts name = account-size-le a.unit name accounts k d inside refl

    row : Row
    row = row_of old accounts a.unit

    own : is_covered old new (sizes_of old accounts a.unit) ≡ true
    own =
        ap (λ (r : Row). is_covered old new r.sizes) (sym (are.are a.unit row (are.within k d inside)))
        ∙ AllPass-from_list_all (λ (r : Row). is_covered old new r.sizes) rows covered a.unit row (are.within k d inside)

    has : (name : List ℕ) → has_contract old name ≡ true → pos 1 ≤ℤ unit_sum a.unit (account_size name) accounts → has_contract new name ≡ true
    has name known some = covered-has old new accounts a.unit name own known some

-- a set has what all accounts hold where it has the contracts of their units' sizes and the classes of their collateral
pub covers-by_rows : (old new : Tables) (accounts : List AccountState) (rows : List Row) → AreRowsOf old accounts rows → covers new accounts ≡ (list_all (λ (row : Row). is_covered old new row.sizes) rows && list_all (λ (a : AccountState). is_priced_by new.classes a.collateral) accounts)
unfolding covers
covers-by_rows old new accounts rows are = same_answer _ _ there back
  where
    sizes : Bool
    sizes = list_all (λ (row : Row). is_covered old new row.sizes) rows

    values : Bool
    values = list_all (λ (a : AccountState). is_priced_by new.classes a.collateral) accounts

    there : list_all (has_all new) accounts ≡ true → (sizes && values) ≡ true
    there has =
        let known : All (IsKnown new) accounts = λ i d h. has_all-known new (get_or accounts i d) (AllPass-from_list_all (has_all new) accounts has i d h) in
        and-both sizes values
        (list_all-from_AllPass (λ (row : Row). is_covered old new row.sizes) rows
        (λ u d h. ap (λ (r : Row). is_covered old new r.sizes) (are.are u d h) ∙ covers-covered old new accounts u known))
        (list_all-from_AllPass (λ (a : AccountState). is_priced_by new.classes a.collateral) accounts
        (λ i d h. (all-parts new (get_or accounts i d) (AllPass-from_list_all (has_all new) accounts has i d h)).2))

    back : (sizes && values) ≡ true → list_all (has_all new) accounts ≡ true
    back both =
        let parts = and_parts sizes values both in
        list_all-from_AllPass (has_all new) accounts
        (λ k d h.
        known-has_all new (get_or accounts k d) (rows-known old new accounts rows k d are parts.0 h)
        (AllPass-from_list_all (λ (a : AccountState). is_priced_by new.classes a.collateral) accounts parts.1 k d h))
