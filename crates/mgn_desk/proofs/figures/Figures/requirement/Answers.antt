use Rattle.std.proofs.Common.{◌∙◌, ℤ, pos, ap}
use Rattle.std.specs.Int.{int_max}
use Rattle.mgn_desk.specs.WorkedPortfolios.{worked}
use Rattle.mgn_desk.proofs.WorkedLemmas.{requirement_is}
use Rattle.mgn_desk.proofs.figures.Figures.requirement.Goals as goal

pub returns-clause-requirement : goal.returns-clause-requirement
returns-clause-requirement c =
    λ set' w l is.
    let p = worked w l c.args.self.now in
    let value = c.cents.ensures.value ∙ is.ready.parts.sums.value_is in
    c.or_zero.ensures ∙ ap (λ (x : ℤ). int_max (pos 0) x) c.minus.ensures ∙ requirement_is set' p c.sum.result c.cents.result is c.sum.ensures.sum value
