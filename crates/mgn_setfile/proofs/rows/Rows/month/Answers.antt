use Rattle.std.proofs.Common.{◌∙◌}
use Rattle.mgn_setfile.proofs.RowLemmas.{month_place, month_there}
use Rattle.mgn_setfile.proofs.rows.Rows.month.Goals as goal

pub returns-clause-place : goal.returns-clause-place
returns-clause-place c =
    let index = rw c.self.invariant.months at c.get_index_of.ensures.index in
    rw c.self.view_is at (index ∙ month_place (record { commodity = c.args.commodity; number = c.args.number }) c.self.inside.set.months)

pub returns-clause-own_month : goal.returns-clause-own_month
returns-clause-own_month c =
    let index = rw c.self.invariant.months at c.get_index_of.ensures.index in
    let place = index ∙ month_place (record { commodity = c.args.commodity; number = c.args.number }) c.self.inside.set.months in
    rw c.self.view_is at (month_there c.self.inside.set.months c.args.commodity c.args.number c.get_index_of.result place)
