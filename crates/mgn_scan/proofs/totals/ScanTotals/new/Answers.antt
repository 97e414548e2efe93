use Rattle.std.proofs.Common.{◌∙◌, List, ℤ, ℕ, pos, ap, replicate}
use Rattle.mgn_scan.proofs.TotalsLemmas.{AreTotals-flat}
use Rattle.mgn_scan.proofs.totals.ScanTotals.new.Goals as goal

pub returns : goal.returns
returns c =
    AreTotals-flat c.args.set.now _ (c.in_ok-rows.ensures ∙ ap (λ (n : ℕ). let zeros : List ℤ = replicate 16 (pos 0) in replicate n zeros) c.commodity_count.ensures.value)
