-- Rows under a set that comes into force during the day: for `Switch::carry`.
use Rattle.std.proofs.Common.{◌≡◌, ℕ, ◌+◌, ◌<◌, ◌≤◌, ◌^◌, cond, List, [], ◌∷◌, length, map, take, Bool, true, false, get_or, refl, sym, ap, ◌∙◌, subst, arith, position, All, ⊎_elim}
use Rattle.std.specs.Prelude.{ℤ, pos, ◌+ℤ◌, ◌-ℤ◌, nat_eq, if◌then◌else◌, unsigned_abs, Option, None, Some, is_some}
use Rattle.std.specs.List.{count_by, range_with_len}
use Rattle.std.specs.Str.{bytes_eq}
use Rattle.std.proofs.lemmas.Bool.{both_ways, cases_lt}
use Rattle.std.proofs.lemmas.Int.{ints}
use Rattle.std.proofs.lemmas.List.{get_or_past}
use Rattle.std.proofs.lemmas.List.Elements.{All-map}
use Rattle.std.proofs.lemmas.List.FromFn.{fill_by_all}
use Rattle.std.proofs.lemmas.List.Sums.{fold_more, length-filter, sum_by-cons, sum_by-le}
use Rattle.std.proofs.lemmas.Simd.{map-map}
use Rattle.std.proofs.lemmas.Slice.Eq.{bytes_eq-Decides}
use Rattle.mgn_num.specs.Signed.{signed_sum_by}
use Rattle.mgn_num.proofs.SignedLemmas.{signed_sum_by-cons}
use Rattle.mgn_params.specs.declared.tables.Contract.{Contract}
use Rattle.mgn_params.specs.Limits.{IsWithinLimits, contract_names}
use Rattle.mgn_params.specs.Tables.{Tables}
use Rattle.mgn_span.specs.Positions.{IsNet}
use Rattle.mgn_lots.specs.declared.lot.Lot.{Lot}
use Rattle.mgn_lots.specs.Lots.{is_live, lot_share, gross}
use Rattle.mgn_holds.specs.declared.held.Held.{Held}
use Rattle.mgn_coll.specs.Posted.{value}
use Rattle.mgn_lots.specs.Lots.{cost}
use Rattle.mgn_machine.specs.State.{AccountState, IsAccount}
use Rattle.mgn_machine.specs.Portfolios.{Portfolio, OnlyLots, WithBuys, WithSales, WithAll, held_size, account_net, account_size, account_worth, in_unit, unit_sum, row_by}
use Rattle.mgn_machine.specs.Refusals.{has_contract, IsKnown}
use Rattle.mgn_machine.specs.NewSet.{is_on_call, on_call}
use Rattle.mgn_machine.specs.Room.{worth_of, requirement_of}
use Rattle.mgn_machine.proofs.Names.{premium_in}
use Rattle.mgn_nets.specs.Numbers.{number_at}
use Rattle.mgn_unit.specs.declared.row.Row.{Row}
use Rattle.mgn_unit.specs.Rows.{priced, portfolio_of, row_of, row_with_worth}
use Rattle.mgn_unit.specs.NewSets.{AreWorths, carried, portfolio_under, row_on_call, row_under, unit_gain, value_gain}
use Rattle.mgn_unit.proofs.Bounded.{net-within, sum-le, worth-le}
use Rattle.mgn_unit.proofs.Sums.{row_by-at}

-- Numbers that are carried over stay within the limit.

number-within : (row : List ℤ) (o : Option ℕ) → All IsNet row → IsNet (number_at row o)
number-within row None small = omega arith
number-within row (Some i) small =
    ⊎_elim
    (λ inside. small i (pos 0) inside)
    (λ past. subst IsNet (sym (get_or_past row i (pos 0) past)) (omega arith))
    (cases_lt i (length row))

pub places-within : (row : List ℤ) (places : List (Option ℕ)) → All IsNet row → All IsNet (map (number_at row) places)
places-within row places small = All-map IsNet (number_at row) places (λ i d h. number-within row (get_or places i d) small)

-- In a contract that a set lacks, an account whose contracts it has holds nothing.

lot-unknown : (set' : Tables) (name : List ℕ) (x : Lot) → (is_live x.mark ≡ true → has_contract set' x.contract ≡ true) → has_contract set' name ≡ false → unsigned_abs (lot_share name x) ≡ 0
lot-unknown set' name x known lacks = by (bytes_eq x.contract name) (is_live x.mark) refl refl
  where
    by : (b t : Bool) → bytes_eq x.contract name ≡ b → is_live x.mark ≡ t → unsigned_abs (if b then (if t then x.quantity else pos 0) else pos 0) ≡ 0
    by true true same live =
        absurd (both_ways (has_contract set' name) lacks (ap (has_contract set') (sym ((bytes_eq-Decides x.contract name).0 same)) ∙ known live))
    by true false same live = refl
    by false t other live = refl

hold-unknown : (set' : Tables) (name : List ℕ) (x : Held) → has_contract set' x.contract ≡ true → has_contract set' name ≡ false → (if bytes_eq x.contract name then unsigned_abs x.quantity else 0) ≡ 0
hold-unknown set' name x known lacks = by (bytes_eq x.contract name) refl
  where
    by : (b : Bool) → bytes_eq x.contract name ≡ b → (if b then unsigned_abs x.quantity else 0) ≡ 0
    by true same = absurd (both_ways (has_contract set' name) lacks (ap (has_contract set') (sym ((bytes_eq-Decides x.contract name).0 same)) ∙ known))
    by false other = refl

pub size-unknown : (set' : Tables) (name : List ℕ) (a : AccountState) → IsKnown set' a → has_contract set' name ≡ false → account_size name a ≡ pos 0
size-unknown set' name a known lacks = omega (arith, ints, lots, holds)
  where
    lots : gross name a.lots ≤ 0
    lots =
        omega (
          arith,
          sum_by-le (λ (x : Lot). unsigned_abs (lot_share name x)) 0 a.lots (λ i d h. omega (arith, lot-unknown set' name (get_or a.lots i d) (known.lots i d h) lacks)),
        )

    holds : held_size name a.holds ≤ 0
    holds =
        omega (
          arith,
          sum_by-le (λ (x : Held). if bytes_eq x.contract name then unsigned_abs x.quantity else 0) 0 a.holds
              (λ i d h. omega (arith, hold-unknown set' name (get_or a.holds i d) (known.holds i d h) lacks)),
        )

net-unknown : (set' : Tables) (p : Portfolio) (name : List ℕ) (a : AccountState) → IsKnown set' a → has_contract set' name ≡ false → unsigned_abs (account_net p name a) ≤ 0
net-unknown set' p name a known lacks = omega (arith, ints, net-within p name a, size-unknown set' name a known lacks)

-- where each account counts for nothing, so does the unit
unit-none : (u : ℕ) (f : AccountState → ℤ) (accounts : List AccountState) → All (λ (a : AccountState). unsigned_abs (f a) ≤ 0) accounts → unit_sum u f accounts ≡ pos 0
unit-none u f accounts none = omega (arith, ints, sum-le (in_unit u f) 0 accounts (λ i d h. by (get_or accounts i d) (none i d h) (nat_eq (get_or accounts i d).unit u)))
  where
    by : (a : AccountState) → unsigned_abs (f a) ≤ 0 → (b : Bool) → unsigned_abs (if b then f a else pos 0) ≤ 0
    by a small true = small
    by a small false = omega arith

pub unit_size-unknown : (set' : Tables) (accounts : List AccountState) (u : ℕ) (name : List ℕ) → All (IsKnown set') accounts → has_contract set' name ≡ false → unit_sum u (account_size name) accounts ≡ pos 0
unit_size-unknown set' accounts u name known lacks =
    unit-none u (account_size name) accounts (λ i d h. omega (arith, ints, size-unknown set' name (get_or accounts i d) (known i d h) lacks))

unit_net-unknown : (set' : Tables) (accounts : List AccountState) (u : ℕ) (p : Portfolio) (name : List ℕ) → All (IsKnown set') accounts → has_contract set' name ≡ false → unit_sum u (account_net p name) accounts ≡ pos 0
unit_net-unknown set' accounts u p name known lacks =
    unit-none u (account_net p name) accounts (λ i d h. net-unknown set' p name (get_or accounts i d) (known i d h) lacks)

-- Numbers by contract, carried over.

carried-row : (old new : Tables) (accounts : List AccountState) (u : ℕ) (f : List ℕ → AccountState → ℤ) → ((name : List ℕ) → has_contract old name ≡ false → unit_sum u (f name) accounts ≡ pos 0) → carried old new (row_by old.contracts accounts u f) ≡ row_by new.contracts accounts u f
carried-row old new accounts u f none =
    map-map (number_at (row_by old.contracts accounts u f)) (λ (c : Contract). position (bytes_eq c.name) (contract_names old.contracts)) new.contracts
    ∙ (λ i. map (λ (c : Contract). at c.name i) new.contracts)
  where
    by : (name : List ℕ) (o : Option ℕ) → position (bytes_eq name) (contract_names old.contracts) ≡ o → number_at (row_by old.contracts accounts u f) o ≡ unit_sum u (f name) accounts
    by name None here = sym (none name (ap is_some here))
    by name (Some i) here = row_by-at old.contracts accounts u f name i here

    at : (name : List ℕ) → number_at (row_by old.contracts accounts u f) (position (bytes_eq name) (contract_names old.contracts)) ≡ unit_sum u (f name) accounts
    at name = by name (position (bytes_eq name) (contract_names old.contracts)) refl

-- Worths change by the value of the collateral alone.

sum-plus : {X : Type 0} (f g h : X → ℤ) → ((x : X) → f x ≡ g x +ℤ h x) → (xs : List X) → signed_sum_by f xs ≡ signed_sum_by g xs +ℤ signed_sum_by h xs
sum-plus f g h each [] = refl
sum-plus f g h each (x ∷ xs) =
    omega (arith, ints, signed_sum_by-cons f x xs, signed_sum_by-cons g x xs, signed_sum_by-cons h x xs, each x, sum-plus f g h each xs)

worth-gains : (v w cost' held : ℤ) → (v -ℤ cost') -ℤ held ≡ ((w -ℤ cost') -ℤ held) +ℤ (v -ℤ w)
worth-gains v w cost' held = omega (arith, ints)

worth-under : (old new : Tables) (p : Portfolio) (accounts : List AccountState) (u : ℕ) → unit_sum u (account_worth new p) accounts ≡ unit_sum u (account_worth old p) accounts +ℤ unit_gain old new accounts u
worth-under old new p accounts u =
    sum-plus (in_unit u (account_worth new p)) (in_unit u (account_worth old p)) (in_unit u (value_gain old new)) (λ a. by a (nat_eq a.unit u)) accounts
  where
    by : (a : AccountState) (b : Bool) → (if b then account_worth new p a else pos 0) ≡ (if b then account_worth old p a else pos 0) +ℤ (if b then value_gain old new a else pos 0)
    by a true = worth-gains (pos (value new.classes a.collateral)) (pos (value old.classes a.collateral)) (cost a.lots) (premium_in p a.holds)
    by a false = refl

-- an account more
pub unit_gain-more : (old new : Tables) (accounts : List AccountState) (u i : ℕ) (a : AccountState) → i < length accounts → a ≡ get_or accounts i a → unit_gain old new (take (i + 1) accounts) u ≡ unit_gain old new (take i accounts) u +ℤ in_unit u (value_gain old new) a
unit_gain-more old new accounts u i a inside is =
    fold_more (λ (total : ℤ) (b : AccountState). total +ℤ in_unit u (value_gain old new) b) (pos 0) accounts i a inside
    ∙ ap (λ (b : AccountState). unit_gain old new (take i accounts) u +ℤ in_unit u (value_gain old new) b) (sym is)

-- The row of a unit under the new set is what is carried over.

side-under : (old new : Tables) (accounts : List AccountState) (u : ℕ) (p : Portfolio) → All (IsKnown old) accounts → portfolio_under old new (unit_gain old new accounts u) (portfolio_of old accounts u p) ≡ portfolio_of new accounts u p
unfolding portfolio_of
side-under old new accounts u p known =
    let nets = carried-row old new accounts u (account_net p) (λ name lacks. unit_net-unknown old accounts u p name known lacks) in
    let worth = sym (worth-under old new p accounts u) in
    λ i. priced new (nets i) (worth i)

row-under_own : (old new : Tables) (accounts : List AccountState) (u : ℕ) → All (IsKnown old) accounts → row_under old new (unit_gain old new accounts u) (row_of old accounts u) ≡ row_of new accounts u
row-under_own old new accounts u known = λ i. record {
  sizes = carried-row old new accounts u account_size (λ name lacks. unit_size-unknown old accounts u name known lacks) i;
  lots = side-under old new accounts u OnlyLots known i;
  buys = side-under old new accounts u WithBuys known i;
  sales = side-under old new accounts u WithSales known i;
  all = side-under old new accounts u WithAll known i;
}

pub row-under : (old new : Tables) (accounts : List AccountState) (u : ℕ) (gain : ℤ) (row : Row) → All (IsKnown old) accounts → row ≡ row_of old accounts u → gain ≡ unit_gain old new accounts u → row_under old new gain row ≡ row_of new accounts u
row-under old new accounts u gain row known was is = (λ i. row_under old new (is i) (was i)) ∙ row-under_own old new accounts u known

-- and its worths are within the limit

side-worth : (old new : Tables) (accounts : List AccountState) (u : ℕ) (p : Portfolio) (gain : ℤ) → IsWithinLimits new → All IsAccount accounts → length accounts ≤ 1024 → gain ≡ unit_gain old new accounts u → unsigned_abs ((portfolio_of old accounts u p).worth +ℤ gain) ≤ 10 ^ 24
unfolding portfolio_of
side-worth old new accounts u p gain within limits few is =
    let moved = worth-under old new p accounts u in
    let most = worth-le new u p accounts within limits few in
    omega (arith, ints, moved, most, is)

worths-under_own : (old new : Tables) (accounts : List AccountState) (u : ℕ) (gain : ℤ) → IsWithinLimits new → All IsAccount accounts → length accounts ≤ 1024 → gain ≡ unit_gain old new accounts u → AreWorths (row_with_worth gain (row_of old accounts u))
worths-under_own old new accounts u gain within limits few is = record {
  lots = side-worth old new accounts u OnlyLots gain within limits few is;
  buys = side-worth old new accounts u WithBuys gain within limits few is;
  sales = side-worth old new accounts u WithSales gain within limits few is;
  all = side-worth old new accounts u WithAll gain within limits few is;
}

pub worths-under : (old new : Tables) (accounts : List AccountState) (u : ℕ) (gain : ℤ) (row : Row) → IsWithinLimits new → All IsAccount accounts → length accounts ≤ 1024 → row ≡ row_of old accounts u → gain ≡ unit_gain old new accounts u → AreWorths (row_with_worth gain row)
worths-under old new accounts u gain row within limits few was is =
    subst (λ (r : Row). AreWorths (row_with_worth gain r)) (sym was) (worths-under_own old new accounts u gain within limits few is)

-- The row of a unit tells whether it is on call.

pub on_call-by_row : (set' : Tables) (accounts : List AccountState) (u : ℕ) → is_on_call set' accounts u ≡ row_on_call (row_of set' accounts u)
unfolding is_on_call worth_of requirement_of portfolio_of
on_call-by_row set' accounts u = refl

-- The rows of all units tell how many are.

count_by-map : {X Y : Type 0} → (test : Y → Bool) (f : X → Y) (xs : List X) → count_by test (map f xs) ≡ count_by (λ x. test (f x)) xs
count_by-map test f [] = refl
count_by-map test f (x ∷ xs) =
    sum_by-cons (λ y. cond (test y) 1 0) (f x) (map f xs)
    ∙ ap (λ (n : ℕ). cond (test (f x)) 1 0 + n) (count_by-map test f xs)
    ∙ sym (sum_by-cons (λ z. cond (test (f z)) 1 0) x xs)

pub on_call-by_rows : (set' : Tables) (accounts : List AccountState) (rows : List Row) → ((u : ℕ) (d : Row) → u < length rows → get_or rows u d ≡ row_of set' accounts u) → on_call set' accounts (length rows) ≡ count_by row_on_call rows
on_call-by_rows set' accounts rows are =
    length-filter (is_on_call set' accounts) units
    ∙ (λ i. count_by (λ (u : ℕ). on_call-by_row set' accounts u i) units)
    ∙ sym (count_by-map row_on_call (row_of set' accounts) units)
    ∙ ap (λ (all : List Row). count_by row_on_call all) (sym (fill_by_all (row_of set' accounts) rows (length rows) none refl (λ u h. are u none h)))
  where
    units : List ℕ
    units = range_with_len 0 (length rows)

    none : Row
    none = row_of set' accounts 0
