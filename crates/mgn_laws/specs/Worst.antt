-- What positions may lose at worst, each alone.
use Rattle.std.specs.Prelude.{ℕ, ℤ, List}
use Rattle.mgn_num.specs.Signed.{signed_sum_by}
use Rattle.mgn_span.specs.Positions.{Position}
use Rattle.mgn_span.specs.Scan.{scan_risk}
use Rattle.mgn_span.specs.Words.{scenario_share}

-- the worst that one position alone may come to in a commodity
abbrev pub own_worst : ℕ → Position → ℤ
own_worst commodity p = scan_risk (λ s. scenario_share commodity s p)

-- the positions' own worst cases together
abbrev pub worst_cases : ℕ → List Position → ℤ
worst_cases commodity portfolio = signed_sum_by (own_worst commodity) portfolio
