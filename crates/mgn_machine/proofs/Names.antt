-- Words for the inside of proofs: parts of definitions, by names of their own.
use Rattle.std.specs.Prelude.{ℕ, ℤ, List}
use Rattle.mgn_holds.specs.declared.held.Held.{Held}
use Rattle.mgn_holds.specs.Holds.{held_net, premium}
use Rattle.mgn_machine.specs.State.{State}
use Rattle.mgn_machine.specs.Portfolios.{Portfolio, over_sides, account_size, unit_sum}

-- what the holds of a portfolio hold of a contract
abbrev pub held_in : Portfolio → List ℕ → List Held → ℤ
held_in p contract holds = over_sides p (λ side. held_net side contract holds)

-- what they would cost, filled at their limits
abbrev pub premium_in : Portfolio → List Held → ℤ
premium_in p holds = over_sides p (λ side. premium side holds)

-- the sum of the sizes of the live lots and holds of a unit in a contract
abbrev pub unit_size : State → ℕ → List ℕ → ℤ
unit_size s u contract = unit_sum u (account_size contract) s.accounts
