use Rattle.std.proofs.Common.{ℕ, ◌≡◌, ◌∙◌, None, Some, List, get_or, sym, ap, subst, rules}
use Rattle.std.proofs.lemmas.List.{get_or_read}
use Rattle.mgn_unit.specs.declared.row.Row.{Row}
use Rattle.mgn_unit.specs.Rows.{nets_in, no_row}
use Rattle.mgn_plan.specs.Plans.{row_at}
use Rattle.mgn_day.specs.Changes.{SameUnit}
use Rattle.mgn_day.specs.Days.{nets_of, set_of}
use Rattle.mgn_unit_desk.proofs.Steps.{sighted}
use Rattle.mgn_service.proofs.looks.sight.Goals as goal

pub new-requires : goal.new-requires
new-requires g c =
    let u = c.args.change.now in
    let same : SameUnit (g.T.Shows.shown c.again.result.1) c.args.ledger.now u.unit =
    subst {A = ℕ × g.row.T.Denot} (λ p. SameUnit (g.T.Shows.shown p.1) c.args.ledger.now u.unit) (sym c.again.ensures) (c.is_since.ensures (search rules)) in
    sighted g.T.Shows.shown c.args.ledger.now u c.version-version.result c.set-set.result.now c.again.result None same c.requires (search rules) (search rules) tt

pub new-requires-2 : goal.new-requires-2
new-requires-2 g c =
    let day = c.args.ledger.now in
    let u = c.args.change.now in
    let rows = day.book.book.rows in
    let row : Row = c.index-rows-change.result in
    let read : row ≡ get_or rows u.unit row = c.index-rows-change.is ∙ ap (λ (l : List Row). get_or l u.unit row) c.rows.ensures.rows in
    let there : row ≡ row_at (set_of day) rows u.unit = get_or_read rows u.unit row c.requires.inside read (no_row (set_of day)) in
    let copied : c.in-Ok.nets ≡ nets_of day u.unit = c.in-Ok.ensures ∙ ap nets_in there in
    sighted g.T.Shows.shown day u c.version-version.result c.set-set.result.now c.in-Some-since.stamp (Some c.in-Ok.nets) c.in-Some-since.ensures c.requires (search rules) (search rules) copied
