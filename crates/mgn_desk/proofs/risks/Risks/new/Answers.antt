use Rattle.mgn_desk.proofs.RiskLemmas.{summed_none}
use Rattle.mgn_desk.proofs.risks.Risks.new.Goals as goal

pub invariant_of-result-2 : goal.invariant_of-result-2
invariant_of-result-2 c =
    rw (c.in_ok-new.ensures) (summed_none c.args.count c.requires)
