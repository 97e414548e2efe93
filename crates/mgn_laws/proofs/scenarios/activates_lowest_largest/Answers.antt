use Rattle.mgn_span.specs.Scan.{value_at}
use Rattle.mgn_span.proofs.ActiveLemmas.{active_is}
use Rattle.mgn_laws.proofs.scenarios.activates_lowest_largest.Goals as goal

pub returns : goal.returns
returns c = active_is (value_at c.args.totals.now)
