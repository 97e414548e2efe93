use Rattle.std.proofs.Common.{ap, ◌∙◌, arith}
use Rattle.mgn_span.specs.Scan.{value_at}
use Rattle.mgn_unit.specs.declared.row.Row.{Row}
use Rattle.mgn_machine.specs.Portfolios.{account_size}
use Rattle.mgn_machine.specs.State.{account_at}
use Rattle.mgn_unit.proofs.Moved.{Stands}
use Rattle.mgn_unit.proofs.Sums.{row_by-at}
use Rattle.mgn_register.proofs.Kept.{contract-stands, stands-inside}
use Rattle.mgn_register.proofs.register.Register.unit_size.Goals as goal

pub at-requires : goal.at-requires
at-requires c =
    let stands : Stands c.args.set.now c.args.name c.args.contract = contract-stands c.args.set.now c.args.name c.args.contract c.limits.ensures c.requires.contract in
    omega (arith, c.row.ensures.limits.one_each, stands-inside c.args.set.now c.args.name c.args.contract stands)

pub returns-clause-size : goal.returns-clause-size
returns-clause-size c =
    let state = c.args.self.now.state in
    let stands : Stands c.args.set.now c.args.name c.args.contract = contract-stands c.args.set.now c.args.name c.args.contract c.limits.ensures c.requires.contract in
    c.at.ensures ∙ ap (λ (row : Row). value_at row.sizes c.args.contract) c.row.ensures.row
    ∙ row_by-at c.args.set.now.contracts state.accounts (account_at state.accounts c.args.place).unit account_size c.args.name c.args.contract stands.here
