use Rattle.std.proofs.Common.{◌∙◌, All, List, map, sym, ap, subst}
use Rattle.mgn_params.specs.Tables.{Tables}
use Rattle.mgn_nets.specs.Portfolios.{AreUnitNets}
use Rattle.mgn_unit.specs.declared.row.Row.{Row}
use Rattle.mgn_unit.specs.Rows.{nets_in}
use Rattle.mgn_day.specs.Days.{set_of}
use Rattle.mgn_day.proofs.Gathers.{rows-copied, seen-since}
use Rattle.mgn_ledger.proofs.ledger.Ledger.gather.Goals as goal

pub returns-clause-seen : goal.returns-clause-seen
returns-clause-seen g c =
    let day = c.args.self.now in
    seen-since g.T.Shows.shown day c.set.result.now c.in_ok-copies_of.field-0.items c.in_ok-stamps_of_units.field-0.items c.set.ensures
    (c.in_ok-copies_of.ensures ∙ ap (λ (rows : List Row). map nets_in rows) c.rows.ensures.rows) c.in_ok-stamps_of_units.ensures.few c.in_ok-stamps_of_units.ensures.since

pub returns-clause-copied : goal.returns-clause-copied
returns-clause-copied g c =
    let day = c.args.self.now in
    subst (λ (t : Tables). All (AreUnitNets t) c.in_ok-copies_of.field-0.items) (sym c.set.ensures)
    (subst (All (AreUnitNets (set_of day))) (sym (c.in_ok-copies_of.ensures ∙ ap (λ (rows : List Row). map nets_in rows) c.rows.ensures.rows))
    (rows-copied (set_of day) day.book.book c.rows.ensures.kept))
