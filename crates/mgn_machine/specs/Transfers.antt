-- MOVE: a quantity of a contract goes from one account to another of its origin (own profile).
use Rattle.std.specs.Prelude.{ℕ, not, ◌==◌, if◌then◌else◌, ℤ, neg_ℤ, ◌+ℤ◌, List, Result, Ok}
use Rattle.mgn_params.specs.Tables.{Tables}
use Rattle.mgn_lots.specs.declared.lot.Lot.{Lot}
use Rattle.mgn_lots.specs.declared.lot.Mark.TheVariants.{Moved}
use Rattle.mgn_lots.specs.Lots.{has_number, is_full}
use Rattle.mgn_machine.specs.declared.command.Transfer.{Transfer}
use Rattle.mgn_machine.specs.declared.reply.Refusal.{Refusal}
use Rattle.mgn_machine.specs.declared.reply.Refusal.TheVariants.{Closed, Duplicate, OtherOrigin, Limit}
use Rattle.mgn_machine.specs.State.{State, account_at, put, with_lot}
use Rattle.mgn_machine.specs.Refusals.{◌>>=◌, refuse_if, place_of, contract_of, is_over, if_room}

-- a lot as it is moved: nothing is paid for it
abbrev pub moved_lot : ℕ → List ℕ → ℤ → Lot
moved_lot number contract quantity =
    record { number = number; contract = contract; quantity = quantity; premium = 0; mark = Moved }

-- where the giver and the taker stand: two accounts, of which neither has a lot of the number
unfoldable pub parties : State → Transfer → Result (ℕ × ℕ) Refusal
parties s m = do
  _ ← refuse_if s.closed Closed
  giver ← place_of s m.from
  taker ← place_of s m.to
  _ ← refuse_if (has_number (account_at s.accounts giver).lots m.lot) Duplicate
  _ ← refuse_if (has_number (account_at s.accounts taker).lots m.lot) Duplicate
  _ ← refuse_if (giver == taker) Duplicate
  Ok (giver, taker)

-- what counts toward the limit of a unit's size: the quantity of its lot, twice where both lots are in it
abbrev pub quantity_in_unit : State → ℕ → ℕ → ℤ → ℤ
quantity_in_unit s giver taker quantity =
    if (account_at s.accounts giver).unit == (account_at s.accounts taker).unit then quantity +ℤ quantity else quantity

-- where the giver, the taker and the contract stand
unfoldable pub move_places : Tables → State → Transfer → Result (ℕ × ℕ × ℕ) Refusal
move_places set s m = do
  at ← parties s m
  i ← contract_of set m.contract
  _ ← refuse_if (not ((account_at s.accounts at.0).origin == (account_at s.accounts at.1).origin)) OtherOrigin
  _ ← refuse_if (is_full (account_at s.accounts at.0).lots) Limit
  _ ← refuse_if (is_full (account_at s.accounts at.1).lots) Limit
  _ ← refuse_if (is_over s at.0 m.contract (quantity_in_unit s at.0 at.1 m.quantity)) Limit
  _ ← refuse_if (is_over s at.1 m.contract (quantity_in_unit s at.0 at.1 m.quantity)) Limit
  Ok (at.0, at.1, i)

-- two lots of one number: the giver's takes the quantity off its position, the taker's adds it
abbrev pub with_move : State → ℕ → ℕ → Transfer → State
with_move s giver taker m =
    put (put s giver (with_lot (account_at s.accounts giver) (moved_lot m.lot m.contract (neg_ℤ m.quantity)))) taker
    (with_lot (account_at s.accounts taker) (moved_lot m.lot m.contract m.quantity))

-- both lots, where the unit of each account has room with them
abbrev pub moved : Tables → State → Transfer → Result State Refusal
moved set s m = do
  at ← move_places set s m
  now ← Ok (with_move s at.0 at.1 m)
  _ ← if_room set (account_at s.accounts at.0).unit now
  if_room set (account_at s.accounts at.1).unit now
