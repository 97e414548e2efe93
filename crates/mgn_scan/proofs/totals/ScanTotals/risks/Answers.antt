use Rattle.std.proofs.Common.{◌∙◌}
use Rattle.mgn_scan.proofs.TotalsLemmas.{price_risk2_is, scan_is}
use Rattle.mgn_scan.proofs.totals.ScanTotals.risks.Goals as goal

pub returns-clause-scan : goal.returns-clause-scan
returns-clause-scan c =
    λ set nets are.
    c.risks.ensures.scan ∙ scan_is set nets c.args.self.now c.row.result.now c.args.commodity are c.requires.commodity c.row.ensures

pub returns-clause-price_risk2 : goal.returns-clause-price_risk2
returns-clause-price_risk2 c =
    λ set nets are.
    c.risks.ensures.price_risk2 ∙ price_risk2_is set nets c.args.self.now c.row.result.now c.args.commodity are c.requires.commodity c.row.ensures
