-- What spreads credit by what is kept of each.
use Rattle.std.specs.Prelude.{ℕ, zero, suc, ◌+◌, List}
use Rattle.mgn_params.specs.declared.tables.CreditSpread.{CreditSpread}
use Rattle.mgn_inter.specs.declared.spread_state.SpreadState.{SpreadState}
use Rattle.mgn_inter.specs.Rows.{share_at}

-- what the first spreads credit to a commodity
abbrev pub shares : List CreditSpread → List SpreadState → ℕ → ℕ → ℕ
shares spreads kept g zero = 0
shares spreads kept g (suc n) = shares spreads kept g n + share_at spreads kept g n
