use Rattle.std.proofs.Common.{◌≡◌, ◌<◌, ◌∙◌, ℤ, List, ap, arith, length, pos}
use Rattle.std.proofs.lemmas.Int.{ints}
use Rattle.std.proofs.lemmas.List.{get_or_default}
use Rattle.mgn_span.specs.Scan.{value_at}
use Rattle.mgn_desk.proofs.RiskLemmas.{sum_small, summed_written}
use Rattle.mgn_desk.proofs.risks.Risks.write.Goals as goal
use Rattle.mgn_desk.proofs.risks.Risks.write.Goals.{After-row}

inside : (c : After-row) → c.args.g < length c.self.inside.each
inside c = omega (arith, c.requires.commodity, ap (λ (k : List ℤ). length k) c.self.view_is)

-- the risk that was there
read : (c : After-row) → c.row.result.now ≡ value_at c.self.inside.each c.args.g
read c = c.row.ensures ∙ get_or_default c.self.inside.each c.args.g c.row.result.now (pos 0) (inside c)

pub minus-requires : goal.minus-requires
minus-requires c =
    let at = (goal.at.minus-requires c).After-row in
    let sum = sum_small c.self.inside.each c.self.inside.sum c.self.invariant in
    let own = c.self.invariant.small c.args.g (pos 0) (inside at) in
    omega (arith, ints, sum, own, read at)

pub plus-self-inside-requires : goal.plus-self-inside-requires
plus-self-inside-requires c =
    let at = (goal.at.plus-self-inside-requires c).After-row in
    let sum = sum_small c.self.inside.each c.self.inside.sum c.self.invariant in
    let own = c.self.invariant.small c.args.g (pos 0) (inside at) in
    omega (arith, ints, sum, own, read at, c.minus.ensures, c.requires.small)

pub invariant_of-self : goal.invariant_of-self
invariant_of-self c =
    let at = (goal.at.invariant_of-self c).After-row in
    rw (c.plus-self-inside.ensures, c.minus.ensures, read at) (summed_written c.self.inside.each c.self.inside.sum c.args.risk c.args.g c.self.invariant (inside at) c.requires.small)
