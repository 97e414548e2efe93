-- A FILL that is done at the limit of its hold.
use Rattle.std.specs.Prelude.{ℕ, ◌≡◌, true, Some, Ok}
use Rattle.mgn_params.specs.Tables.{Tables}
use Rattle.mgn_holds.specs.Holds.{is_buy, hold_at, place_of_order}
use Rattle.mgn_machine.specs.declared.command.Fill.{Fill}
use Rattle.mgn_machine.specs.State.{State, account_at}
use Rattle.mgn_machine.specs.Portfolios.{Portfolio}
use Rattle.mgn_machine.specs.Refusals.{place_of}
use Rattle.mgn_machine.specs.Holding.{filled}
use Rattle.mgn_unit.specs.Laws.{counts}

-- a FILL leads from a state to another, at the limit of the hold that its order has, and a portfolio counts that hold
pub record FillsAtLimit (set : Tables) (old new : State) (p : Portfolio) : Type 0 where
  pub fill : Fill
  pub place : ℕ
  pub hold : ℕ
  pub account_stands : place_of old fill.account ≡ Ok place
  pub hold_stands : place_of_order (account_at old.accounts place).holds fill.order ≡ Some hold
  pub counted : counts p (is_buy (hold_at (account_at old.accounts place).holds hold).quantity) ≡ true
  pub at_limit : fill.premium ≡ (hold_at (account_at old.accounts place).holds hold).limit
  pub done : filled set old fill ≡ Ok new
