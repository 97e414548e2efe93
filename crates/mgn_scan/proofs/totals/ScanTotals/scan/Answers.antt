use Rattle.std.proofs.Common.{◌∙◌}
use Rattle.mgn_scan.proofs.TotalsLemmas.{scan_is}
use Rattle.mgn_scan.proofs.totals.ScanTotals.scan.Goals as goal

pub returns-clause-scan : goal.returns-clause-scan
returns-clause-scan c =
    λ set nets are.
    c.scan.ensures.scan ∙ scan_is set nets c.args.self.now c.row.result.now c.args.commodity are c.requires.commodity c.row.ensures
