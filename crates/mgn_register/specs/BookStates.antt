-- The machine's state with a kept row for each margin unit.
use Rattle.std.specs.Prelude.{ℕ, ◌≡◌, ◌<◌, ◌≤◌, List, length, Bool, slice_index_or, All, IfSome, Option, None, Some, Result, Ok, Err}
use Rattle.mgn_params.specs.Tables.{Tables}
use Rattle.mgn_machine.specs.declared.entry.Entry.{Entry}
use Rattle.mgn_machine.specs.declared.origin.Origin.{Origin}
use Rattle.mgn_machine.specs.declared.reply.Refusal.{Refusal}
use Rattle.mgn_machine.specs.declared.reply.Refusal.TheVariants.{NoRoom}
use Rattle.mgn_machine.specs.declared.reply.Reply.{Reply}
use Rattle.mgn_machine.specs.declared.reply.Reply.TheVariants.{Done, Figures, NewSet, Statement, Totals, Refused as Not}
use Rattle.mgn_unit.specs.declared.row.Row.{Row}
use Rattle.mgn_machine.specs.State.{State, AccountState, IsAccount, account_at}
use Rattle.mgn_machine.specs.Statements.{Told, statement_of}
use Rattle.mgn_machine.specs.Refusals.{IsKnown}
use Rattle.mgn_unit.specs.Rows.{row_of, IsRow}
use Rattle.mgn_register.specs.declared.step_fault.StepFault.{StepFault}
use Rattle.mgn_register.specs.declared.step_fault.StepFault.TheVariants.{Refused, Memory}

-- the statement of the account at a place, none where there is no place
abbrev pub statement_found : Tables → State → Result ℕ Refusal → Option Told
statement_found set s (Ok k) = Some (statement_of set s (account_at s.accounts k))
statement_found set s (Err why) = None

-- the margin unit of the account at a place, none where there is no place
abbrev pub account_unit : State → Result ℕ Refusal → Option ℕ
account_unit s (Ok k) = Some (account_at s.accounts k).unit
account_unit s (Err why) = None

pub record BookState : Type 0 where
  pub state : State
  pub rows : List Row

abbrev pub book_state : List Origin → List AccountState → List Row → Bool → ℕ → BookState
book_state origins accounts rows closed version =
    let units = length rows in
    record {
      state = record { origins = origins; accounts = accounts; units = units; closed = closed; version = version };
      rows = rows;
    }

-- the state of a book with its rows, and the history that made it
pub record BookView : Type 0 where
  pub book : BookState
  pub history : List Entry

-- a row is that of the unit, worked out from lots, holds and collateral, and within the limits
pub record IsUnitRow (set : Tables) (accounts : List AccountState) (u : ℕ) (row : Row) : Type 0 where
  pub is : row ≡ row_of set accounts u
  pub limits : IsRow set row

-- the rows are those of the state under the set, accounts and units are within their limits, the unit and the origin of
-- each account are there, and the set has the contracts of live lots and holds
pub record IsKept (set : Tables) (f : BookState) : Type 0 where
  pub units : f.state.units ≡ length f.rows
  pub few_units : length f.rows ≤ 1024
  pub few_accounts : length f.state.accounts ≤ 1024
  pub accounts : All IsAccount f.state.accounts
  pub known : All (IsKnown set) f.state.accounts
  pub within : All (λ (a : AccountState). a.unit < length f.rows) f.state.accounts
  pub homes : All (λ (a : AccountState). a.origin < length f.state.origins) f.state.accounts
  pub netted : All (λ (o : Origin). IfSome o.unit (λ u. u < length f.rows)) f.state.origins
  pub rows : (u : ℕ) (d : Row) → u < length f.rows → IsUnitRow set f.state.accounts u (slice_index_or f.rows u d)

-- memory is asked for only where a command would be done, or refused for want of room alone, which has to be priced
-- first
abbrev pub AsksMemory : Result State Refusal → Type 0
AsksMemory (Ok now) = Unit {0}
AsksMemory (Err why) = why ≡ NoRoom

-- what was wanted is done, or it is refused and nothing has changed, or memory was and nothing has
abbrev pub Steps : {X : Type 0} → Result State Refusal → Result X StepFault → BookState → BookState → Type 0
Steps want (Ok done) old new = want ≡ Ok new.state
Steps want (Err (Refused why)) old new = (want ≡ Err why) × (new ≡ old)
Steps want (Err Memory) old new = AsksMemory want × (new ≡ old)

-- what is answered where a change was done or refused
abbrev pub answer_of : {X : Type 0} → Result X StepFault → Result Reply StepFault
answer_of (Ok done) = Ok Done
answer_of (Err (Refused why)) = Ok (Not why)
answer_of (Err Memory) = Err Memory

-- the same of what would be answered; figures and totals never need memory
abbrev pub AnswersByMemory : Reply → Type 0
AnswersByMemory Done = Unit {0}
AnswersByMemory (Figures figures) = ⊥
AnswersByMemory (Totals totals) = ⊥
AnswersByMemory (NewSet told) = ⊥
AnswersByMemory (Statement told) = Unit {0}
AnswersByMemory (Not why) = why ≡ NoRoom

-- one step of the machine, or nothing, where memory was refused; a refusal is a reply
abbrev pub Replies : State × Reply → Result Reply StepFault → BookState → BookState → Type 0
Replies want (Ok reply) old new = (new.state, reply) ≡ want
Replies want (Err Memory) old new = AnswersByMemory want.1 × (new ≡ old)
Replies want (Err (Refused why)) old new = ⊥
