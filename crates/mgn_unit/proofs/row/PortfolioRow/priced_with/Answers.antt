use Rattle.std.proofs.Common.{◌≡◌, ◌<◌, ◌∙◌, length, arith}
use Rattle.mgn_unit.specs.Rows.{more_at}
use Rattle.mgn_unit.specs.declared.row.PortfolioRow.{PortfolioRow}
use Rattle.mgn_unit.proofs.Sums.{more-back}
use Rattle.mgn_unit.proofs.row.PortfolioRow.priced_with.Goals as goal

pub returns-clause-same : goal.returns-clause-same
returns-clause-same c =
    let side : PortfolioRow = c.args.self.now in
    let inside : c.args.contract < length side.nets = omega (arith, c.requires.side.one_each) in
    let back : c.add-2.new.self ≡ side.nets =
    c.add-2.ensures ∙ (λ i. more_at (c.add.ensures i) c.args.contract (c.negated.ensures i)) ∙ more-back side.nets c.args.contract c.args.gain.now.quantity inside
    in
    λ i. record side { nets = back i }
