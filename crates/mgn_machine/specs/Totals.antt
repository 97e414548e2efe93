-- The totals of an origin, for the lots of its accounts (gross: 17 CFR 39.13(g)(8)(i); netted: own profile).
use Rattle.std.specs.Prelude.{ℕ, ◌==◌, if◌then◌else◌, ℤ, pos, ◌-ℤ◌, Option, None, Some, List, length, filter}
use Rattle.std.specs.Int.{int_max}
use Rattle.mgn_num.specs.Signed.{signed_sum_by}
use Rattle.mgn_params.specs.Tables.{Tables}
use Rattle.mgn_machine.specs.declared.reply.Totals.{Totals}
use Rattle.mgn_machine.specs.Portfolios.{OnlyLots}
use Rattle.mgn_machine.specs.Room.{requirement_of, worth_of}
use Rattle.mgn_machine.specs.State.{AccountState}

-- what is required above what is there; nothing where there is enough
abbrev pub shortfall : ℤ → ℤ → ℤ
shortfall requirement value = int_max (pos 0) (requirement -ℤ value)

-- the call on a unit: the shortfall of its lots
abbrev pub call_of : Tables → List AccountState → ℕ → ℤ
call_of set accounts u = shortfall (requirement_of set accounts u OnlyLots) (worth_of set accounts u OnlyLots)

-- what an account counts for in the origin at a place: a figure of its unit
abbrev pub in_origin : ℕ → (ℕ → ℤ) → AccountState → ℤ
in_origin i figure a = if a.origin == i then figure a.unit else pos 0

-- a figure of an origin: margined gross the sum over its accounts, each of which is a unit of its own; netted that of
-- its one unit
abbrev pub origin_figure : List AccountState → ℕ × Option ℕ → (ℕ → ℤ) → ℤ
origin_figure accounts (i, None) figure = signed_sum_by (in_origin i figure) accounts
origin_figure accounts (i, Some u) figure = figure u

-- how many accounts the origin at a place has
abbrev pub account_count : List AccountState → ℕ → ℕ
account_count accounts i = length (filter (λ (a : AccountState). a.origin == i) accounts)

-- the totals of an origin, by its place and its unit, if it is netted
abbrev pub totals_of : Tables → List AccountState → ℕ × Option ℕ → Totals
totals_of set accounts home = record {
  requirement = origin_figure accounts home (λ u. requirement_of set accounts u OnlyLots);
  value = origin_figure accounts home (λ u. worth_of set accounts u OnlyLots);
  call = origin_figure accounts home (call_of set accounts);
  accounts = account_count accounts home.0;
}
