-- The rows of commodities as lists of their parts.
use Rattle.std.proofs.Common.{◌≡◌, ◌<◌, ◌∙◌, ℕ, ℤ, List, [], arith, get_or, length, pos, sym}
use Rattle.std.proofs.lemmas.List.{get_or_default}
use Rattle.mgn_tiers.specs.Runs.{Run}
use Rattle.mgn_tiers.specs.Tiers.{no_run}
use Rattle.mgn_tiers.proofs.PartLemmas.{part_at}
use Rattle.mgn_params.specs.Tables.{Tables}
use Rattle.mgn_desk.specs.declared.figures.Figures.{Figures}
use Rattle.mgn_desk.specs.declared.portfolio.Portfolio.{Portfolio}
use Rattle.mgn_desk.specs.declared.unit_lists.UnitLists.{UnitLists}
use Rattle.mgn_desk.specs.KeptRows.{KeptRow, no_row}
use Rattle.mgn_desk.specs.UnitLists.{AreLists, row_at, row_before, rows_in}
use Rattle.mgn_desk.specs.WorkedPortfolios.{row_of, worked}
use Rattle.mgn_desk.proofs.ShownLemmas.{row_shown, rows_long}

-- a row of these parts
abbrev row_with : List ℤ → ℤ → Run → ℕ → KeptRow
row_with scan net run minimum = record { scan = scan; tier = record { net_delta = net; run = run }; minimum = minimum }

row_along : (scan scan' : List ℤ) (net net' : ℤ) (run run' : Run) (minimum minimum' : ℕ) → scan ≡ scan' → net ≡ net' → run ≡ run' → minimum ≡ minimum' → row_with scan net run minimum ≡ row_with scan' net' run' minimum'
row_along scan scan' net net' run run' minimum minimum' a b c d = λ i. row_with (a i) (b i) (c i) (d i)

-- the row at a place, by the lists of parts
pub row_is : (w : Portfolio) (l : UnitLists) (f : Figures) (g : ℕ) → g < length (rows_in w l) → row_at w l g ≡ row_of (worked w l f) g
row_is w l f g low =
    let rows = rows_in w l in
    let row = row_at w l g in
    let is : row ≡ get_or rows g row = sym (get_or_default rows g row no_row low) in
    row_along row.scan _ row.tier.net_delta _ row.tier.run _ row.minimum _
    (part_at (λ (r : KeptRow). r.scan) rows g row [] low is)
    (part_at (λ (r : KeptRow). r.tier.net_delta) rows g row (pos 0) low is)
    (part_at (λ (r : KeptRow). r.tier.run) rows g row no_run low is)
    (part_at (λ (r : KeptRow). r.minimum) rows g row 0 low is)

-- and by what the lots and the branches keep
pub row_before_is : (t : Tables) (w : Portfolio) (l : UnitLists) (g : ℕ) → AreLists t l → g < length t.commodities → row_before w l g ≡ row_at w l g
row_before_is t w l g are low = sym (row_shown w l.rows l.own g (omega (arith, low, are.rows)))

pub rows_one_each : (t : Tables) (w : Portfolio) (l : UnitLists) → AreLists t l → length (rows_in w l) ≡ length t.commodities
rows_one_each t w l are = rows_long w l.rows l.own ∙ are.rows
