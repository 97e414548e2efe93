use Rattle.std.proofs.Common.{◌∙◌, ap, subst, sym}
use Rattle.mgn_unit.specs.Amounts.{UnitAmounts, row_with_amounts}
use Rattle.mgn_unit.specs.Rows.{IsRow}
use Rattle.mgn_unit.proofs.KeptPlaces.{row-under_kept, row-within_kept}
use Rattle.mgn_register.proofs.known_rows.amounts_where.Goals as goal

pub returns-in-Some-clause-row : goal.returns-in-Some-clause-row
returns-in-Some-clause-row c =
    ap (λ (it : UnitAmounts). row_with_amounts it c.args.row.now) c.amounts.ensures
    ∙ row-under_kept c.args.switch.now.old c.args.switch.now.new c.args.gain c.args.row.now c.in-Some.priced c.requires.keeps c.requires.row (c.requires.known c.in-Some.priced c.in-Some.is)

pub returns-in-Some-clause-limits : goal.returns-in-Some-clause-limits
returns-in-Some-clause-limits c =
    subst (λ (it : UnitAmounts). IsRow c.args.switch.now.new (row_with_amounts it c.args.row.now)) (sym c.amounts.ensures)
    (row-within_kept c.args.switch.now.old c.args.switch.now.new c.args.gain c.args.row.now c.in-Some.priced c.requires.keeps c.requires.row c.requires.worths (c.requires.known c.in-Some.priced c.in-Some.is))
