-- Rows of totals: one row for each commodity of a set in file order, and in it one total for each of the 16 scenarios.
use Rattle.std.specs.Prelude.{ℕ, ◌≡◌, ◌<◌, ℤ, pos, List, length, replicate, All}
use Rattle.mgn_span.specs.Positions.{IsNet, positions}
use Rattle.mgn_span.specs.Scan.{scenario_total}
use Rattle.mgn_params.specs.Tables.{Tables}
use Rattle.mgn_span.specs.Words.{total_of}

-- the totals of a commodity in which nothing is held
abbrev pub no_totals : List ℤ
no_totals = replicate 16 (pos 0)

-- each is the total of these nets under this set (CME SPAN), one net for each contract and within its limit
pub record AreTotals (set : Tables) (nets : List ℤ) (rows : List (List ℤ)) : Type 0 where
  pub one_each : length nets ≡ length set.contracts
  pub small : All IsNet nets
  pub one_row_each : length rows ≡ length set.commodities
  pub each : (g s : ℕ) → g < length set.commodities → s < 16 → total_of rows g s ≡ scenario_total g (positions set.contracts nets) s
