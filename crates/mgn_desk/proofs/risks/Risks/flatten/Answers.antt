use Rattle.std.proofs.Common.{length}
use Rattle.mgn_desk.proofs.RiskLemmas.{summed_none}
use Rattle.mgn_desk.proofs.risks.Risks.flatten.Goals as goal

pub invariant_of-self-2 : goal.invariant_of-self-2
invariant_of-self-2 c =
    rw (c.flatten.ensures) (summed_none (length c.self.inside.each) c.self.invariant.few)
