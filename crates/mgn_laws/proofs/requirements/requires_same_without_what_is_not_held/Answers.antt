use Rattle.mgn_laws.proofs.WithoutLemmas.{requirement_left}
use Rattle.mgn_laws.proofs.requirements.requires_same_without_what_is_not_held.Goals as goal

pub returns : goal.returns
returns c = requirement_left c.args.set.now c.args.nets.now c.args.commodity c.limits.ensures c.requires
