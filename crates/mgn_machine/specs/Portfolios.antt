-- The four portfolios of a margin unit, worked out from lots, holds and collateral alone (own profile).
use Rattle.std.specs.Prelude.{ℕ, ◌+◌, ◌==◌, if◌then◌else◌, ℤ, pos, ◌+ℤ◌, ◌-ℤ◌, unsigned_abs, List, map}
use Rattle.std.specs.Str.{bytes_eq}
use Rattle.std.specs.List.{sum_by}
use Rattle.mgn_num.specs.Signed.{signed_sum_by}
use Rattle.mgn_params.specs.declared.tables.Contract.{Contract}
use Rattle.mgn_params.specs.Tables.{Tables}
use Rattle.mgn_coll.specs.Posted.{value}
use Rattle.mgn_lots.specs.Lots.{net, gross, cost}
use Rattle.mgn_holds.specs.declared.held.Held.{Held}
use Rattle.mgn_holds.specs.declared.side.Side.{Side}
use Rattle.mgn_holds.specs.declared.side.Side.TheVariants.{Buys, Sales}
use Rattle.mgn_holds.specs.Holds.{held_net, premium}
use Rattle.mgn_machine.specs.State.{AccountState}

-- the lots; the lots and the held buys; the lots and the held sales; the lots and all holds
pub data Portfolio : Type 0 where
  OnlyLots : Portfolio
  WithBuys : Portfolio
  WithSales : Portfolio
  WithAll : Portfolio

-- the sum of `f` over the sides of which a portfolio has the holds
abbrev pub over_sides : Portfolio → (Side → ℤ) → ℤ
over_sides OnlyLots f = pos 0
over_sides WithBuys f = f Buys
over_sides WithSales f = f Sales
over_sides WithAll f = f Buys +ℤ f Sales

-- the sizes of all holds in a contract
abbrev pub held_size : List ℕ → List Held → ℕ
held_size contract holds =
    sum_by (λ (x : Held). if bytes_eq x.contract contract then unsigned_abs x.quantity else 0) holds

-- an account's net of a contract: its live lots, with the holds of the portfolio as lots
abbrev pub account_net : Portfolio → List ℕ → AccountState → ℤ
account_net p contract a = net contract a.lots +ℤ over_sides p (λ side. held_net side contract a.holds)

-- the sum of the sizes of its live lots and its holds in a contract
abbrev pub account_size : List ℕ → AccountState → ℤ
account_size contract a = pos (gross contract a.lots + held_size contract a.holds)

-- what an account has: the value of its collateral, less what its live lots cost, and the holds of the portfolio,
-- filled at their limits
abbrev pub account_worth : Tables → Portfolio → AccountState → ℤ
account_worth set p a =
    (pos (value set.classes a.collateral) -ℤ cost a.lots) -ℤ over_sides p (λ side. premium side a.holds)

-- what an account counts for in a unit
abbrev pub in_unit : ℕ → (AccountState → ℤ) → AccountState → ℤ
in_unit u f a = if a.unit == u then f a else pos 0

-- what the accounts of a unit come to, each counted by `f`
abbrev pub unit_sum : ℕ → (AccountState → ℤ) → List AccountState → ℤ
unit_sum u f accounts = signed_sum_by (in_unit u f) accounts

-- one number for each contract of the set, of the accounts of a unit
abbrev pub row_by : List Contract → List AccountState → ℕ → (List ℕ → AccountState → ℤ) → List ℤ
row_by contracts accounts u f = map (λ (c : Contract). unit_sum u (f c.name) accounts) contracts

-- the nets of a portfolio of a unit
abbrev pub nets_of : Tables → List AccountState → ℕ → Portfolio → List ℤ
nets_of set accounts u p = row_by set.contracts accounts u (account_net p)

-- the sums of the sizes of its live lots and holds
abbrev pub sizes_of : Tables → List AccountState → ℕ → List ℤ
sizes_of set accounts u = row_by set.contracts accounts u account_size
