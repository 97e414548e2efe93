use Rattle.mgn_span.specs.Positions.{positions}
use Rattle.mgn_laws.proofs.RequirementLemmas.{scan_le_worst}
use Rattle.mgn_laws.proofs.scenarios.scans_within_worst_cases.Goals as goal

pub returns : goal.returns
returns c = scan_le_worst c.args.commodity (positions c.args.set.now.contracts c.args.nets.now)
