-- How large the nets and the worth of a row can be: that rows stay within their limits.
use Rattle.std.proofs.Common.{ℕ, ◌+◌, ◌-◌, ◌*◌, ◌^◌, ◌<◌, ◌≤◌, List, [], ◌∷◌, length, Bool, true, false, not, get_or, sym, subst, arith, All}
use Rattle.std.specs.Prelude.{ℤ, pos, ◌*ℤ◌, ◌≤ℤ◌, nat_eq, if◌then◌else◌, unsigned_abs}
use Rattle.std.specs.Str.{bytes_eq}
use Rattle.std.proofs.lemmas.Int.{ints}
use Rattle.std.proofs.lemmas.List.{get_or-map, length-map}
use Rattle.std.proofs.lemmas.List.Sums.{sum_by-cons, sum_by-le}
use Rattle.std.proofs.Math.Nat.{mul-le-mul}
use Rattle.mgn_num.specs.Signed.{signed_sum_by}
use Rattle.mgn_num.proofs.SignedLemmas.{signed_sum_by-cons, size-*ℤ-le}
use Rattle.mgn_params.specs.declared.tables.Contract.{Contract}
use Rattle.mgn_span.specs.Positions.{IsNet}
use Rattle.mgn_params.specs.Tables.{Tables, no_contract}
use Rattle.mgn_params.specs.declared.tables.Class.{Class}
use Rattle.mgn_params.specs.Limits.{IsWithinLimits, IsClass}
use Rattle.mgn_coll.specs.Posted.{Posted, IsPosted, value, class_value, units_of}
use Rattle.mgn_lots.specs.declared.lot.Lot.{Lot}
use Rattle.mgn_lots.specs.Lots.{IsLot, lot_cost, live_quantity, cost}
use Rattle.mgn_num.proofs.SignedEdits.{size-signed_sum_by}
use Rattle.mgn_lots.proofs.Shares.{net-le-gross, live_quantity-le}
use Rattle.mgn_holds.specs.declared.held.Held.{Held}
use Rattle.mgn_holds.specs.declared.side.Side.{Side}
use Rattle.mgn_holds.specs.declared.side.Side.TheVariants.{Buys, Sales}
use Rattle.mgn_holds.specs.Holds.{IsHeld, is_buy, is_on, held_share, held_net, held_cost, premium}
use Rattle.mgn_machine.specs.State.{AccountState, IsAccount}
use Rattle.mgn_machine.specs.Portfolios.{Portfolio, OnlyLots, WithBuys, WithSales, WithAll, held_size, account_net, account_size, account_worth, in_unit, unit_sum, nets_of, sizes_of}

-- Nets are no larger than sizes.

both-le : (contract : List ℕ) (x : Held) → unsigned_abs (held_share Buys contract x) + unsigned_abs (held_share Sales contract x) ≤ (if bytes_eq x.contract contract then unsigned_abs x.quantity else 0)
both-le contract x = by (bytes_eq x.contract contract) (is_buy x.quantity)
  where
    by : (b t : Bool) → unsigned_abs (if b then (if t then x.quantity else pos 0) else pos 0) + unsigned_abs (if b then (if not t then x.quantity else pos 0) else pos 0) ≤ (if b then unsigned_abs x.quantity else 0)
    by true true = omega (arith, ints)
    by true false = omega (arith, ints)
    by false true = omega (arith, ints)
    by false false = omega (arith, ints)

-- what is held on the two sides together
held-le : (contract : List ℕ) (holds : List Held) → unsigned_abs (held_net Buys contract holds) + unsigned_abs (held_net Sales contract holds) ≤ held_size contract holds
held-le contract [] = omega arith
held-le contract (x ∷ holds) =
    omega (arith, ints, signed_sum_by-cons (held_share Buys contract) x holds, signed_sum_by-cons (held_share Sales contract) x holds, sum_by-cons (λ (x : Held). if bytes_eq x.contract contract then unsigned_abs x.quantity else 0) x holds, both-le contract x, held-le contract holds)

-- an account's net
pub net-within : (p : Portfolio) (contract : List ℕ) (a : AccountState) → pos (unsigned_abs (account_net p contract a)) ≤ℤ account_size contract a
net-within OnlyLots contract a = omega (arith, ints, net-le-gross contract a.lots, held-le contract a.holds)
net-within WithBuys contract a = omega (arith, ints, net-le-gross contract a.lots, held-le contract a.holds)
net-within WithSales contract a = omega (arith, ints, net-le-gross contract a.lots, held-le contract a.holds)
net-within WithAll contract a = omega (arith, ints, net-le-gross contract a.lots, held-le contract a.holds)

-- a unit's
pub unit-within : (u : ℕ) (f g : AccountState → ℤ) (accounts : List AccountState) → ((a : AccountState) → pos (unsigned_abs (f a)) ≤ℤ g a) → pos (unsigned_abs (unit_sum u f accounts)) ≤ℤ unit_sum u g accounts
unit-within u f g [] within = omega (arith, ints)
unit-within u f g (a ∷ accounts) within =
    omega (arith, ints, signed_sum_by-cons (in_unit u f) a accounts, signed_sum_by-cons (in_unit u g) a accounts, first, unit-within u f g accounts within)
  where
    by : (b : Bool) → pos (unsigned_abs (if b then f a else pos 0)) ≤ℤ (if b then g a else pos 0)
    by true = within a
    by false = omega (arith, ints)

    first : pos (unsigned_abs (in_unit u f a)) ≤ℤ in_unit u g a
    first = by (nat_eq a.unit u)

-- where the sizes of a unit are within the limit, so are its nets
pub nets-within : (set' : Tables) (accounts : List AccountState) (u : ℕ) (p : Portfolio) → All IsNet (sizes_of set' accounts u) → All IsNet (nets_of set' accounts u p)
nets-within set' accounts u p small = λ i d h. at i d (omega (arith, h, length-map set'.contracts (λ (c : Contract). unit_sum u (account_net p c.name) accounts)))
  where
    at : (i : ℕ) (d : ℤ) → i < length set'.contracts → IsNet (get_or (nets_of set' accounts u p) i d)
    at i d h =
        let name = (get_or set'.contracts i no_contract).name in
        let size : unsigned_abs (unit_sum u (account_size name) accounts) ≤ 10 ^ 7 =
        subst IsNet (get_or-map (λ (c : Contract). unit_sum u (account_size c.name) accounts) set'.contracts i no_contract d h)
        (small i d (omega (arith, h, length-map set'.contracts (λ (c : Contract). unit_sum u (account_size c.name) accounts))))
        in
        subst IsNet (sym (get_or-map (λ (c : Contract). unit_sum u (account_net p c.name) accounts) set'.contracts i no_contract d h))
        (omega (arith, ints, size, unit-within u (account_net p name) (account_size name) accounts (λ a. net-within p name a)))

-- Worths.

pub sum-le : {X : Type 0} (f : X → ℤ) → (most : ℕ) (xs : List X) → All (λ x. unsigned_abs (f x) ≤ most) xs → unsigned_abs (signed_sum_by f xs) ≤ length xs * most
sum-le f most xs small = omega (arith, size-signed_sum_by f xs, sum_by-le (λ x. unsigned_abs (f x)) most xs small)

lot-le : (x : Lot) → IsLot x → unsigned_abs (lot_cost x) ≤ 10 ^ 14
lot-le x limits = omega (arith, size-*ℤ-le (live_quantity x) (pos x.premium) (10 ^ 6) (10 ^ 8) (omega (arith, live_quantity-le x, limits.most)) (omega (arith, ints, limits.premium)))

held-cost-le : (side : Side) (x : Held) → IsHeld x → unsigned_abs (held_cost side x) ≤ 10 ^ 14
held-cost-le side x limits = by (is_on side x.quantity)
  where
    by : (b : Bool) → unsigned_abs (if b then x.quantity *ℤ pos x.limit else pos 0) ≤ 10 ^ 14
    by true = omega (arith, size-*ℤ-le x.quantity (pos x.limit) (10 ^ 6) (10 ^ 8) limits.most (omega (arith, ints, limits.limit)))
    by false = omega arith

-- the value of what is posted, under the price and the haircut of each class
class-le : (class : Class) (units : ℕ) → IsClass class → units ≤ 10 ^ 9 → class_value class units ≤ 10 ^ 17
class-le class units limits few =
    let product : units * class.price ≤ 10 ^ 9 * 10 ^ 8 = mul-le-mul few limits.price in
    let gross : units * class.price ≤ 10 ^ 17 = omega (arith, product) in
    let share : 10000 - class.haircut ≤ 10000 = omega arith in
    let net : units * class.price * (10000 - class.haircut) ≤ 10 ^ 17 * 10000 = mul-le-mul gross share in
    omega (arith, net)

value-le : (set' : Tables) (p : Posted) → IsWithinLimits set' → IsPosted p.cash p.units → value set'.classes p ≤ 2 * 10 ^ 18
value-le set' p limits few =
    omega (
      arith,
      few.cash_most,
      limits.few_classes,
      sum_by-le (λ (class : Class). class_value class (units_of class.name p.units)) (10 ^ 17) set'.classes
          (λ i d h. class-le (get_or set'.classes i d) (units_of (get_or set'.classes i d).name p.units) (limits.classes i d h) (few.units_most (get_or set'.classes i d).name)),
    )

account-worth-le : (set' : Tables) (p : Portfolio) (a : AccountState) → IsWithinLimits set' → IsAccount a → unsigned_abs (account_worth set' p a) ≤ 10 ^ 19
account-worth-le set' p a within limits = by p
  where
    posted : value set'.classes a.collateral ≤ 2 * 10 ^ 18
    posted = value-le set' a.collateral within limits.collateral

    lots : unsigned_abs (cost a.lots) ≤ 65536 * 10 ^ 14
    lots = omega (arith, sum-le lot_cost (10 ^ 14) a.lots (λ i d h. lot-le (get_or a.lots i d) (limits.lots i d h)), limits.few_lots)

    held : (side : Side) → unsigned_abs (premium side a.holds) ≤ 256 * 10 ^ 14
    held side = omega (arith, sum-le (held_cost side) (10 ^ 14) a.holds (λ i d h. held-cost-le side (get_or a.holds i d) (limits.holds i d h)), limits.few_holds)

    by : (p : Portfolio) → unsigned_abs (account_worth set' p a) ≤ 10 ^ 19
    by OnlyLots = omega (arith, ints, posted, lots)
    by WithBuys = omega (arith, ints, posted, lots, held Buys)
    by WithSales = omega (arith, ints, posted, lots, held Sales)
    by WithAll = omega (arith, ints, posted, lots, held Buys, held Sales)

-- the worth of a unit of at most 1,024 accounts
pub worth-le : (set' : Tables) (u : ℕ) (p : Portfolio) (accounts : List AccountState) → IsWithinLimits set' → All IsAccount accounts → length accounts ≤ 1024 → unsigned_abs (unit_sum u (account_worth set' p) accounts) ≤ 10 ^ 23
worth-le set' u p accounts within limits few =
    omega (arith, sum-le (in_unit u (account_worth set' p)) (10 ^ 19) accounts (λ i d h. by (get_or accounts i d) (limits i d h) (nat_eq (get_or accounts i d).unit u)), few)
  where
    by : (a : AccountState) → IsAccount a → (b : Bool) → unsigned_abs (if b then account_worth set' p a else pos 0) ≤ 10 ^ 19
    by a fits true = account-worth-le set' p a within fits
    by a fits false = omega arith
