-- What the portfolios of a margin unit must have deposited, what is there for them, and what is left (own profile).
use Rattle.std.specs.Prelude.{ℕ, ℤ, ◌-ℤ◌, int_lt, if◌then◌else◌, List}
use Rattle.mgn_params.specs.Tables.{Tables}
use Rattle.mgn_span.specs.Requirement.{requirement}
use Rattle.mgn_machine.specs.declared.reply.UnitFigures.{UnitFigures}
use Rattle.mgn_machine.specs.Portfolios.{Portfolio, OnlyLots, WithBuys, WithSales, WithAll, unit_sum, account_worth, nets_of}
use Rattle.mgn_machine.specs.State.{AccountState}

-- what a portfolio of a unit must have deposited: the requirement of its nets
unfoldable pub requirement_of : Tables → List AccountState → ℕ → Portfolio → ℤ
requirement_of set accounts u p = requirement set (nets_of set accounts u p)

-- what is there for it: the value of the unit's accounts, with the holds of the portfolio filled at their limits
unfoldable pub worth_of : Tables → List AccountState → ℕ → Portfolio → ℤ
worth_of set accounts u p = unit_sum u (account_worth set p) accounts

-- its room: what is there above what it must have
abbrev pub room_of : Tables → List AccountState → ℕ → Portfolio → ℤ
room_of set accounts u p = worth_of set accounts u p -ℤ requirement_of set accounts u p

-- the one of two portfolios that has less room; the first of equals
abbrev pub lesser : (Portfolio → ℤ) → Portfolio → Portfolio → Portfolio
lesser room first second = if int_lt (room second) (room first) then second else first

-- the first portfolio with the least room, in the order lots, buys, sales, all
unfoldable pub least : (Portfolio → ℤ) → Portfolio
least room = lesser room (lesser room (lesser room OnlyLots WithBuys) WithSales) WithAll

-- the portfolio of a unit that has the least room
abbrev pub least_of : Tables → List AccountState → ℕ → Portfolio
least_of set accounts u = least (room_of set accounts u)

-- the room of a unit: the least of its portfolios
abbrev pub unit_room : Tables → List AccountState → ℕ → ℤ
unit_room set accounts u = room_of set accounts u (least_of set accounts u)

-- the figures of a unit
abbrev pub figures_of : Tables → List AccountState → ℕ → UnitFigures
figures_of set accounts u = record {
  requirement = requirement_of set accounts u OnlyLots;
  exposure_requirement = requirement_of set accounts u (least_of set accounts u);
  value = worth_of set accounts u OnlyLots;
  exposure_value = worth_of set accounts u (least_of set accounts u);
  room = unit_room set accounts u;
}
