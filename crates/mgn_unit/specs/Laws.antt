-- A fill at the limit of its hold.
use Rattle.std.specs.Prelude.{ℕ, ◌≡◌, ◌<◌, Bool, true, false, not, List, length, slice_set}
use Rattle.mgn_params.specs.Tables.{Tables}
use Rattle.mgn_holds.specs.Holds.{is_buy, hold_at, covers}
use Rattle.mgn_machine.specs.State.{AccountState, account_at}
use Rattle.mgn_machine.specs.Portfolios.{Portfolio, OnlyLots, WithBuys, WithSales, WithAll}
use Rattle.mgn_machine.specs.declared.command.Fill.{Fill}
use Rattle.mgn_machine.specs.Holding.{fill_of}
use Rattle.mgn_unit.specs.Rows.{portfolio_of}

-- the portfolios that count a hold, by whether it buys
abbrev pub counts : Portfolio → Bool → Bool
counts OnlyLots buys = false
counts WithBuys buys = buys
counts WithSales buys = not buys
counts WithAll buys = true

-- a fill at the limit of its hold leaves each portfolio that counts the hold as it was: its nets, its worth and what it
-- requires, and so its room
abbrev pub FillAtLimitKeeps : Type 0
FillAtLimitKeeps =
    (set : Tables) (accounts : List AccountState) (k j : ℕ) (f : Fill) (p : Portfolio) (u : ℕ)
    → k < length accounts → j < length (account_at accounts k).holds
    → covers (hold_at (account_at accounts k).holds j) f.quantity ≡ true → counts p (is_buy f.quantity) ≡ true
    → f.premium ≡ (hold_at (account_at accounts k).holds j).limit
    → portfolio_of set (slice_set accounts k (fill_of (account_at accounts k) j f)) u p
    ≡ portfolio_of set accounts u p
