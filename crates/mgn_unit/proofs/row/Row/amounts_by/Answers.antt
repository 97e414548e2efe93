use Rattle.std.proofs.Common.{◌∙◌, ap, subst, sym}
use Rattle.mgn_unit.specs.Amounts.{UnitAmounts, row_with_amounts}
use Rattle.mgn_unit.specs.Rows.{IsRow}
use Rattle.mgn_unit.proofs.KeptPlaces.{row-under_kept, row-within_kept}
use Rattle.mgn_unit.proofs.row.Row.amounts_by.Goals as goal

pub returns-clause-row : goal.returns-clause-row
returns-clause-row c =
    ap (λ (it : UnitAmounts). row_with_amounts it c.args.self.now) c.amounts.ensures
    ∙ row-under_kept c.args.switch.now.old c.args.switch.now.new c.args.gain c.args.self.now c.in_ok-priced.priced c.requires.keeps c.requires.row c.in_ok-priced.ensures.required

pub returns-clause-limits : goal.returns-clause-limits
returns-clause-limits c =
    subst (λ (it : UnitAmounts). IsRow c.args.switch.now.new (row_with_amounts it c.args.self.now)) (sym c.amounts.ensures)
    (row-within_kept c.args.switch.now.old c.args.switch.now.new c.args.gain c.args.self.now c.in_ok-priced.priced c.requires.keeps c.requires.row c.requires.worths c.in_ok-priced.ensures.required)
