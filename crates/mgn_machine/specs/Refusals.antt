-- Why commands are refused, in the one order in which the reasons are looked for (own profile).
use Rattle.std.specs.Prelude.{◌≡◌, All, ℕ, ◌+◌, ◌-◌, ◌^◌, Bool, true, false, not, ◌==◌, ◌&&◌, ◌||◌, nat_le, nat_lt, int_lt, if◌then◌else◌, ℤ, pos, ◌+ℤ◌, unsigned_abs, Option, None, Some, is_some, List, [], length, map, position, slice_index_or, Result, Ok, Err}
use Rattle.std.specs.Str.{bytes_eq}
use Rattle.std.specs.List.{list_any}
use Rattle.mgn_params.specs.Limits.{contract_names}
use Rattle.mgn_params.specs.Tables.{Tables, contract_at, is_premium}
use Rattle.mgn_coll.specs.Posted.{amount_of, is_known, most_of}
use Rattle.mgn_lots.specs.declared.lot.Lot.{Lot}
use Rattle.mgn_lots.specs.Lots.{has_number, is_busted, is_full, is_live, is_moved, lot_at, place_of_lot}
use Rattle.mgn_holds.specs.declared.held.Held.{Held}
use Rattle.mgn_machine.specs.declared.command.Mode.{Mode}
use Rattle.mgn_machine.specs.declared.command.Mode.TheVariants.{Gross, Net}
use Rattle.mgn_machine.specs.declared.command.Trade.{Trade}
use Rattle.mgn_machine.specs.declared.origin.Origin.{Origin}
use Rattle.mgn_machine.specs.declared.reply.Refusal.{Refusal}
use Rattle.mgn_machine.specs.declared.reply.Refusal.TheVariants.{NoAccount, NoOrigin, Duplicate, NoContract, NoTrade, Moved, NoClass, NoRoom, Limit, Premium, Over, Closed}
use Rattle.mgn_machine.specs.State.{State, AccountState, account_at}
use Rattle.mgn_machine.specs.Portfolios.{unit_sum, account_size}
use Rattle.mgn_machine.specs.Room.{unit_room}

infixl 10 ◌>>=◌
abbrev pub ◌>>=◌ : {A B : Type 0} → Result A Refusal → (A → Result B Refusal) → Result B Refusal
(Ok x) >>= f = f x
(Err why) >>= f = Err why

unfoldable pub refuse_if : Bool → Refusal → Result (Unit {0}) Refusal
refuse_if test why = if test then Err why else Ok tt

abbrev pub found : {X : Type 0} → Option X → Refusal → Result X Refusal
found None why = Err why
found (Some x) why = Ok x

-- ORIGIN

abbrev pub is_net : Mode → Bool
is_net Gross = false
is_net Net = true

abbrev pub has_origin : List Origin → List ℕ → Bool
has_origin origins name = list_any (λ (o : Origin). bytes_eq o.name name) origins

unfoldable pub origin_fits : State → List ℕ → Mode → Result (Unit {0}) Refusal
origin_fits s name mode = do
  _ ← refuse_if s.closed Closed
  _ ← refuse_if (has_origin s.origins name) Duplicate
  _ ← refuse_if (nat_le 8 (length s.origins)) Limit
  _ ← refuse_if (is_net mode && nat_le 1024 s.units) Limit
  Ok tt

-- OPEN

abbrev pub account_names : List AccountState → List (List ℕ)
account_names accounts = map (λ (a : AccountState). a.name) accounts

-- where an origin stands, and the unit of its accounts, if it is netted
unfoldable pub home_of : List Origin → List ℕ → Result (ℕ × Option ℕ) Refusal
home_of origins name = do
  i ← found (position (λ (o : Origin). bytes_eq o.name name) origins) NoOrigin
  Ok (i, (slice_index_or origins i record { name = []; unit = None }).unit)

-- where the origin of a new account stands, and its unit
unfoldable pub open_home : State → List ℕ → List ℕ → Result (ℕ × Option ℕ) Refusal
open_home s account origin = do
  _ ← refuse_if s.closed Closed
  home ← home_of s.origins origin
  _ ← refuse_if (list_any (bytes_eq account) (account_names s.accounts)) Duplicate
  _ ← refuse_if (nat_le 1024 (length s.accounts)) Limit
  _ ← refuse_if (not (is_some home.1) && nat_le 1024 s.units) Limit
  Ok home

-- TRADE

-- where an account stands
unfoldable pub place_of : State → List ℕ → Result ℕ Refusal
place_of s account = found (position (bytes_eq account) (account_names s.accounts)) NoAccount

-- where a contract stands in the set
unfoldable pub contract_of : Tables → List ℕ → Result ℕ Refusal
contract_of set contract = found (position (bytes_eq contract) (contract_names set.contracts)) NoContract

-- the set has a contract of that name
abbrev pub has_contract : Tables → List ℕ → Bool
has_contract set contract = is_some (position (bytes_eq contract) (contract_names set.contracts))

-- the set has the contract of each live lot and of each hold of an account
pub record IsKnown (set : Tables) (a : AccountState) : Type 0 where
  pub lots : All (λ (x : Lot). is_live x.mark ≡ true → has_contract set x.contract ≡ true) a.lots
  pub holds : All (λ (x : Held). has_contract set x.contract ≡ true) a.holds

-- a premium other than 0 is for contracts of the premium style alone (own profile), which in the file of a set are options
abbrev pub premium_fits : Tables → ℕ → ℕ → Bool
premium_fits set i premium = (premium == 0) || is_premium (contract_at set.contracts i).style

-- the live lots and holds of the account's unit would come to more than 10,000,000 in a contract with a quantity more
abbrev pub is_over : State → ℕ → List ℕ → ℤ → Bool
is_over s k contract quantity =
    int_lt (pos (10 ^ 7))
    (unit_sum (account_at s.accounts k).unit (account_size contract) s.accounts +ℤ pos (unsigned_abs quantity))

-- where the account and the contract of a new lot stand
unfoldable pub trade_places : Tables → State → Trade → Result (ℕ × ℕ) Refusal
trade_places set s t = do
  _ ← refuse_if s.closed Closed
  k ← place_of s t.account
  _ ← refuse_if (has_number (account_at s.accounts k).lots t.lot) Duplicate
  i ← contract_of set t.contract
  _ ← refuse_if (not (premium_fits set i t.premium)) Premium
  _ ← refuse_if (is_full (account_at s.accounts k).lots) Limit
  _ ← refuse_if (is_over s k t.contract t.quantity) Limit
  Ok (k, i)

-- BUST

-- where the account and its traded lot stand
unfoldable pub bust_places : State → List ℕ → ℕ → Result (ℕ × ℕ) Refusal
bust_places s account lot = do
  _ ← refuse_if s.closed Closed
  k ← place_of s account
  i ← found (place_of_lot (account_at s.accounts k).lots lot) NoTrade
  _ ← refuse_if (is_busted (lot_at (account_at s.accounts k).lots i).mark) NoTrade
  _ ← refuse_if (is_moved (lot_at (account_at s.accounts k).lots i).mark) Moved
  Ok (k, i)

-- POST

-- where the account stands, and what is then posted of the class
unfoldable pub post_place : Tables → State → List ℕ → List ℕ → ℕ → Result (ℕ × ℕ) Refusal
post_place set s account class units = do
  _ ← refuse_if s.closed Closed
  k ← place_of s account
  _ ← refuse_if (not (is_known set.classes class)) NoClass
  _ ← refuse_if (nat_lt (most_of class) (amount_of class (account_at s.accounts k).collateral + units)) Limit
  Ok (k, amount_of class (account_at s.accounts k).collateral + units)

-- DRAW

-- where the account stands, and what is then left of the class
unfoldable pub draw_place : Tables → State → List ℕ → List ℕ → ℕ → Result (ℕ × ℕ) Refusal
draw_place set s account class units = do
  _ ← refuse_if s.closed Closed
  k ← place_of s account
  _ ← refuse_if (not (is_known set.classes class)) NoClass
  _ ← refuse_if (nat_lt (amount_of class (account_at s.accounts k).collateral) units) Over
  Ok (k, amount_of class (account_at s.accounts k).collateral - units)

-- the state, unless a portfolio of a unit has room below 0 in it
abbrev pub if_room : Tables → ℕ → State → Result State Refusal
if_room set u now = if int_lt (unit_room set now.accounts u) (pos 0) then Err NoRoom else Ok now
