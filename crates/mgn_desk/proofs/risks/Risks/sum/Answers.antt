use Rattle.mgn_desk.proofs.RiskLemmas.{sum_small}
use Rattle.mgn_desk.proofs.risks.Risks.sum.Goals as goal

pub returns-clause-small : goal.returns-clause-small
returns-clause-small c =
    sum_small c.self.inside.each c.self.inside.sum c.self.invariant
