use Rattle.std.proofs.Common.{◌<◌, ℕ, List, length, rules, subst, sym}
use Rattle.std.specs.Prelude.{IfOk, slice_index_or}
use Rattle.mgn_nets.specs.Portfolios.{AreUnitNets}
use Rattle.mgn_unit.specs.declared.row.Row.{Row}
use Rattle.mgn_unit.specs.Amounts.{AreKnown, KeepsPlaces}
use Rattle.mgn_unit.specs.Rows.{nets_in}
use Rattle.mgn_script.proofs.SwitchFacts.{known-ok, nets-within}
use Rattle.mgn_script.proofs.by_desks.mark_all.Goals as goal

pub mark_all-requires-clause-nets : goal.mark_all-requires-clause-nets
mark_all-requires-clause-nets c =
    let keeps : KeepsPlaces c.args.old.now c.args.set.now = c.keeps_places.ensures (search rules) in
    subst (λ (rows : List Row). (u : ℕ) (d : Row) → u < length rows → AreUnitNets c.args.set.now (nets_in (slice_index_or rows u d))) (sym c.rows.ensures)
    (nets-within c.args.old.now c.args.set.now c.args.book.now.book keeps c.requires.kept)

pub returns-clause-known : goal.returns-clause-known
returns-clause-known c =
    known-ok (λ known. AreKnown c.args.set.now c.args.book.now.book.rows known.items) c.mark_all.result c.ok.result c.ok.ensures.value
    (subst (λ (rows : List Row). IfOk c.mark_all.result (λ known. AreKnown c.args.set.now rows known.items)) c.rows.ensures c.mark_all.ensures.known)
