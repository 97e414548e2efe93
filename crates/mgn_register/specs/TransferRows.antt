-- The two parties of a transfer, in the lists of accounts and rows.
use Rattle.std.specs.Prelude.{◌≡◌, ◌<◌, ℕ, ℤ, ◌||◌, false, true, List, length, slice_set, Result, Ok, Err}
use Rattle.mgn_params.specs.Tables.{Tables}
use Rattle.mgn_lots.specs.Lots.{IsLot, has_number, is_full}
use Rattle.mgn_machine.specs.declared.command.Transfer.{Transfer}
use Rattle.mgn_machine.specs.declared.reply.Refusal.TheVariants.{NoRoom}
use Rattle.mgn_machine.specs.State.{AccountState, account_at, with_lot}
use Rattle.mgn_machine.specs.Transfers.{moved_lot}
use Rattle.mgn_unit.specs.Changes.{moved_change}
use Rattle.mgn_unit.specs.declared.row.Row.{Row}
use Rattle.mgn_unit.specs.Rows.{IsChange, IsRoomy, IsRow, lacks_room}
use Rattle.mgn_plan.specs.Plans.{row_at}
use Rattle.mgn_register.specs.declared.step_fault.StepFault.{StepFault}
use Rattle.mgn_register.specs.declared.step_fault.StepFault.TheVariants.{Refused, Memory}
use Rattle.mgn_register.specs.declared.transfers.Party.{Party}

-- the account of a party with its lot
abbrev pub account_with : List AccountState → Party → AccountState
account_with accounts p = with_lot (account_at accounts p.place) p.lot

-- the accounts with both lots
abbrev pub with_both : List AccountState → Party → Party → List AccountState
with_both accounts giver taker =
    slice_set (slice_set accounts giver.place (account_with accounts giver)) taker.place (account_with accounts taker)

-- the party of an account that gains a quantity of the contract at a place of the set
abbrev pub party_of : AccountState → ℕ → ℕ → Transfer → ℤ → Party
party_of a place i m quantity = record {
  place = place;
  unit = a.unit;
  lot = moved_lot m.lot m.contract quantity;
  change = moved_change i quantity;
}

-- the account of a party has a place for its lot
pub record TakesLot (accounts : List AccountState) (p : Party) : Type 0 where
  pub inside : p.place < length accounts
  pub limits : IsLot p.lot
  pub fresh : has_number (account_at accounts p.place).lots p.lot.number ≡ false
  pub few : is_full (account_at accounts p.place).lots ≡ false

-- the unit of a party can be priced with its lot
pub record TakesChange (set : Tables) (rows : List Row) (p : Party) : Type 0 where
  pub inside : p.unit < length rows
  pub row : IsRow set (row_at set rows p.unit)
  pub change : IsChange set p.change
  pub roomy : IsRoomy p.change (row_at set rows p.unit)

-- done where both units have room afterwards, refused where one of them would have none
abbrev pub AskBoth : {X : Type 0} → Row → Row → Result X StepFault → Type 0
AskBoth giver taker (Ok done) = (lacks_room giver ≡ false) × (lacks_room taker ≡ false)
AskBoth giver taker (Err (Refused why)) = (why ≡ NoRoom) × ((lacks_room giver || lacks_room taker) ≡ true)
AskBoth giver taker (Err Memory) = Unit {0}
