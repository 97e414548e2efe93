-- The margin balances of lots, of which the totals of an origin are made.
use Rattle.std.specs.Prelude.{ℕ, ℤ, ◌+ℤ◌, ◌≤◌, ◌*◌, ◌^◌, unsigned_abs, List}
use Rattle.mgn_params.specs.Tables.{Tables}
use Rattle.mgn_machine.specs.State.{AccountState}
use Rattle.mgn_machine.specs.Portfolios.{OnlyLots}
use Rattle.mgn_machine.specs.Room.{requirement_of, worth_of}
use Rattle.mgn_machine.specs.Totals.{call_of, shortfall}
use Rattle.mgn_unit.specs.declared.row.PortfolioRow.{PortfolioRow}
use Rattle.mgn_register.specs.declared.totals.Balance.{Balance}

-- of a kept portfolio
abbrev pub portfolio_balance : PortfolioRow → Balance
portfolio_balance side = record {
  requirement = side.requirement;
  value = side.worth;
  call = shortfall side.requirement side.worth;
}

-- of units, where `over` says how a figure of units is taken over them
abbrev pub balance_over : Tables → List AccountState → ((ℕ → ℤ) → ℤ) → Balance
balance_over set accounts over = record {
  requirement = over (λ u. requirement_of set accounts u OnlyLots);
  value = over (λ u. worth_of set accounts u OnlyLots);
  call = over (call_of set accounts);
}

-- of both together
abbrev pub balance_sum : Balance → Balance → Balance
balance_sum first second = record {
  requirement = first.requirement +ℤ second.requirement;
  value = first.value +ℤ second.value;
  call = first.call +ℤ second.call;
}

-- as large as that of so many units can be
pub record IsBalance (units : ℕ) (balance : Balance) : Type 0 where
  pub requirement : unsigned_abs balance.requirement ≤ units * (2 * 10 ^ 30)
  pub value : unsigned_abs balance.value ≤ units * (2 * 10 ^ 30)
  pub call : unsigned_abs balance.call ≤ units * (2 * 10 ^ 30)
