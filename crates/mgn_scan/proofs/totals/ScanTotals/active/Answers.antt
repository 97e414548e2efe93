use Rattle.std.proofs.Common.{◌∙◌}
use Rattle.mgn_scan.proofs.TotalsLemmas.{active_is}
use Rattle.mgn_scan.proofs.totals.ScanTotals.active.Goals as goal

pub returns-clause-active : goal.returns-clause-active
returns-clause-active c =
    λ set nets are.
    c.active.ensures.active ∙ active_is set nets c.args.self.now c.row.result.now c.args.commodity are c.requires.commodity c.row.ensures
