use Rattle.std.proofs.Common.{◌≡◌, ◌∙◌, List, ℤ, ℕ, pos, ap, length, replicate}
use Rattle.mgn_scan.proofs.TotalsLemmas.{AreTotals-flat}
use Rattle.mgn_scan.proofs.totals.ScanTotals.flatten.Goals as goal

pub returns : goal.returns
returns c =
    λ set' fits.
    let long : length c.self.inside.rows ≡ length set'.commodities = ap (λ (xs : List (List ℤ)). length xs) c.self.view_is ∙ fits in
    AreTotals-flat set' _ (c.flatten.ensures ∙ ap (λ (n : ℕ). let zeros : List ℤ = replicate 16 (pos 0) in replicate n zeros) long)
