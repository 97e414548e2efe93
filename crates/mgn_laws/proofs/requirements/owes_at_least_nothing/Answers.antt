use Rattle.mgn_laws.proofs.RequirementLemmas.{requirement_not_negative}
use Rattle.mgn_laws.proofs.requirements.owes_at_least_nothing.Goals as goal

pub returns : goal.returns
returns c = requirement_not_negative c.args.set.now c.args.nets.now
