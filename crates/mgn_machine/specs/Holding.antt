-- Holds: what is held for orders, filled and released (own profile).
use Rattle.std.specs.Prelude.{ℕ, Bool, not, ◌==◌, [], ◌∷◌, ◌++◌, List, remove, Result, Ok, Err}
use Rattle.mgn_params.specs.Tables.{Tables}
use Rattle.mgn_lots.specs.declared.lot.Lot.{Lot}
use Rattle.mgn_lots.specs.Lots.{has_number, is_full}
use Rattle.mgn_holds.specs.declared.held.Held.{Held}
use Rattle.mgn_holds.specs.Holds.{hold_at, has_order, place_of_order, filled_at, is_full as holds_full, meets_limit, covers}
use Rattle.mgn_machine.specs.declared.command.Fill.{Fill}
use Rattle.mgn_machine.specs.declared.command.Hold.{Hold}
use Rattle.mgn_machine.specs.declared.reply.Refusal.{Refusal}
use Rattle.mgn_machine.specs.declared.reply.Refusal.TheVariants.{Duplicate, NoOrder, Limit, Premium, Over, Closed}
use Rattle.mgn_machine.specs.State.{State, AccountState, account_at, put, traded_lot}
use Rattle.mgn_machine.specs.Refusals.{◌>>=◌, refuse_if, found, place_of, contract_of, premium_fits, is_over, if_room}

-- Changes of one account.

-- an order as it is entered
abbrev pub new_hold : Hold → Held
new_hold h = record { order = h.order; contract = h.contract; quantity = h.quantity; limit = h.limit }

abbrev pub with_hold : AccountState → Held → AccountState
with_hold a x = record a { holds = a.holds ++ x ∷ [] }

abbrev pub without_hold : AccountState → ℕ → AccountState
without_hold a j = record a { holds = remove a.holds j }

-- a lot more, and its quantity off what is held
abbrev pub with_fill : AccountState → ℕ → Lot → AccountState
with_fill a j lot = record a { lots = a.lots ++ lot ∷ []; holds = filled_at a.holds j lot.quantity }

-- HOLD

-- where the account and the contract of a new hold stand
unfoldable pub hold_places : Tables → State → Hold → Result (ℕ × ℕ) Refusal
hold_places set s h = do
  _ ← refuse_if s.closed Closed
  k ← place_of s h.account
  _ ← refuse_if (has_order (account_at s.accounts k).holds h.order) Duplicate
  i ← contract_of set h.contract
  _ ← refuse_if (not (premium_fits set i h.limit)) Premium
  _ ← refuse_if (holds_full (account_at s.accounts k).holds) Limit
  _ ← refuse_if (is_over s k h.contract h.quantity) Limit
  Ok (k, i)

-- a hold more, where the unit has room for it
abbrev pub entered : Tables → State → Hold → Result State Refusal
entered set s h = do
  at ← hold_places set s h
  if_room set (account_at s.accounts at.0).unit (put s at.0 (with_hold (account_at s.accounts at.0) (new_hold h)))

-- FILL

-- a premium other than 0 is for options of the premium style alone, by the place of their contract
abbrev pub premium_fits_at : Tables → Result ℕ Refusal → ℕ → Bool
premium_fits_at set (Ok i) premium = premium_fits set i premium
premium_fits_at set (Err why) premium = premium == 0

-- where the account stands, and the hold that is filled
unfoldable pub fill_places : Tables → State → Fill → Result (ℕ × ℕ) Refusal
fill_places set s f = do
  _ ← refuse_if s.closed Closed
  k ← place_of s f.account
  _ ← refuse_if (has_number (account_at s.accounts k).lots f.lot) Duplicate
  j ← found (place_of_order (account_at s.accounts k).holds f.order) NoOrder
  x ← Ok (hold_at (account_at s.accounts k).holds j)
  _ ← refuse_if (not (meets_limit x f.premium)) Premium
  _ ← refuse_if (not (premium_fits_at set (contract_of set x.contract) f.premium)) Premium
  _ ← refuse_if (not (covers x f.quantity)) Over
  _ ← refuse_if (is_full (account_at s.accounts k).lots) Limit
  Ok (k, j)

-- a traded lot of the hold's contract, and as much less held
abbrev pub fill_of : AccountState → ℕ → Fill → AccountState
fill_of a j f = with_fill a j (traded_lot f.lot (hold_at a.holds j).contract f.quantity f.premium)

abbrev pub filled : Tables → State → Fill → Result State Refusal
filled set s f = do
  at ← fill_places set s f
  Ok (put s at.0 (fill_of (account_at s.accounts at.0) at.1 f))

-- RELEASE

-- where the account stands, and the hold that is released
unfoldable pub release_places : State → List ℕ → ℕ → Result (ℕ × ℕ) Refusal
release_places s account order = do
  _ ← refuse_if s.closed Closed
  k ← place_of s account
  j ← found (place_of_order (account_at s.accounts k).holds order) NoOrder
  Ok (k, j)

abbrev pub released : State → List ℕ → ℕ → Result State Refusal
released s account order = do
  at ← release_places s account order
  Ok (put s at.0 (without_hold (account_at s.accounts at.0) at.1))
