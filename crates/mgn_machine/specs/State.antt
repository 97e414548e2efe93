-- What the machine is (own profile). No net, sum or requirement is in it.
use Rattle.std.specs.Prelude.{ℕ, ◌≤◌, Bool, false, List, [], ◌∷◌, ◌++◌, length, All, slice_index_or, slice_set, ℤ}
use Rattle.mgn_coll.specs.Posted.{Posted, nothing, IsPosted, with_amount as posted_amount}
use Rattle.mgn_lots.specs.declared.lot.Lot.{Lot}
use Rattle.mgn_lots.specs.Lots.{IsLot, lot_at, busted}
use Rattle.mgn_lots.specs.declared.lot.Mark.TheVariants.{Traded}
use Rattle.mgn_holds.specs.declared.held.Held.{Held}
use Rattle.mgn_holds.specs.Holds.{IsHeld}
use Rattle.mgn_machine.specs.declared.origin.Origin.{Origin}

-- an account: the place of its origin, its margin unit, its collateral, and its lots and holds in order of entry
pub record AccountState : Type 0 where
  pub name : List ℕ
  pub origin : ℕ
  pub unit : ℕ
  pub collateral : Posted
  pub lots : List Lot
  pub holds : List Held

-- origins, accounts in order of opening, how many margin units were made, whether the day is over, and the version of
-- the set in force
pub record State : Type 0 where
  pub origins : List Origin
  pub accounts : List AccountState
  pub units : ℕ
  pub closed : Bool
  pub version : ℕ

-- before the first command
abbrev pub start : State
start = record { origins = []; accounts = []; units = 0; closed = false; version = 0 }

-- an account as it is opened
abbrev pub fresh : List ℕ → ℕ → ℕ → AccountState
fresh name origin unit =
    record { name = name; origin = origin; unit = unit; collateral = nothing; lots = []; holds = [] }

abbrev pub no_account : AccountState
no_account = fresh [] 0 0

abbrev pub account_at : List AccountState → ℕ → AccountState
account_at accounts k = slice_index_or accounts k no_account

-- the state with another account in a place
abbrev pub put : State → ℕ → AccountState → State
put s k a = record s { accounts = slice_set s.accounts k a }

-- the limits of an account
pub record IsAccount (a : AccountState) : Type 0 where
  pub collateral : IsPosted a.collateral.cash a.collateral.units
  pub lots : All IsLot a.lots
  pub few_lots : length a.lots ≤ 65536
  pub holds : All IsHeld a.holds
  pub few_holds : length a.holds ≤ 256

-- Changes of one account.

-- a lot as it is traded
abbrev pub traded_lot : ℕ → List ℕ → ℤ → ℕ → Lot
traded_lot number contract quantity premium =
    record { number = number; contract = contract; quantity = quantity; premium = premium; mark = Traded }

abbrev pub with_lot : AccountState → Lot → AccountState
with_lot a lot = record a { lots = a.lots ++ lot ∷ [] }

-- with the lot at a place busted
abbrev pub with_bust : AccountState → ℕ → AccountState
with_bust a i = record a { lots = slice_set a.lots i (busted (lot_at a.lots i)) }

abbrev pub with_amount : AccountState → List ℕ → ℕ → AccountState
with_amount a class amount = record a { collateral = posted_amount a.collateral class amount }
