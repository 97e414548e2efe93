use Rattle.mgn_laws.proofs.CreditSums.{credit_is_sum}
use Rattle.mgn_laws.proofs.credits.credits_spread_by_spread.Goals as goal
use Rattle.mgn_span.specs.Positions.{positions}

pub returns : goal.returns
returns c = credit_is_sum c.args.set.now (positions c.args.set.now.contracts c.args.nets.now) c.args.commodity c.requires
