-- New sets during the day: when one may come into force, and which units are then on call (own profile).
use Rattle.std.specs.Prelude.{ℕ, Bool, not, ◌&&◌, ◌||◌, nat_le, int_lt, List, length, filter, Result, Ok}
use Rattle.std.specs.List.{list_all, range_with_len}
use Rattle.mgn_params.specs.Tables.{Tables}
use Rattle.mgn_coll.specs.Posted.{is_priced_by}
use Rattle.mgn_lots.specs.declared.lot.Lot.{Lot}
use Rattle.mgn_lots.specs.Lots.{is_live}
use Rattle.mgn_holds.specs.declared.held.Held.{Held}
use Rattle.mgn_machine.specs.declared.reply.Refusal.{Refusal}
use Rattle.mgn_machine.specs.declared.reply.Refusal.TheVariants.{Closed, Missing, Sets}
use Rattle.mgn_machine.specs.State.{State, AccountState}
use Rattle.mgn_machine.specs.Portfolios.{OnlyLots}
use Rattle.mgn_machine.specs.Refusals.{◌>>=◌, refuse_if, has_contract}
use Rattle.mgn_machine.specs.Room.{requirement_of, worth_of}

-- a set has what an account holds: the contract of each live lot and of each hold, and each class of which units are
-- posted
abbrev pub has_all : Tables → AccountState → Bool
has_all set a =
    list_all (λ (x : Lot). not (is_live x.mark) || has_contract set x.contract) a.lots
    && list_all (λ (x : Held). has_contract set x.contract) a.holds
    && is_priced_by set.classes a.collateral

-- it has what all accounts hold
unfoldable pub covers : Tables → List AccountState → Bool
covers set accounts = list_all (has_all set) accounts

-- a unit must have deposited more than is there for its lots
unfoldable pub is_on_call : Tables → List AccountState → ℕ → Bool
is_on_call set accounts u = int_lt (worth_of set accounts u OnlyLots) (requirement_of set accounts u OnlyLots)

-- how many of the first units are on call
abbrev pub on_call : Tables → List AccountState → ℕ → ℕ
on_call set accounts units = length (filter (is_on_call set accounts) (range_with_len 0 units))

-- whether a set may come into force: at most 64 come after the first
unfoldable pub set_fits : Tables → State → Result (Unit {0}) Refusal
set_fits set s = do
  _ ← refuse_if s.closed Closed
  _ ← refuse_if (not (covers set s.accounts)) Missing
  _ ← refuse_if (nat_le 64 s.version) Sets
  Ok tt
