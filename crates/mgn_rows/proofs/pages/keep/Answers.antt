use Rattle.std.proofs.Common.{◌≡◌, ◌∙◌, ◌/◌, get_or, length, rules, set}
use Rattle.mgn_rows.specs.Pages.{paged}
use Rattle.mgn_rows.proofs.Paged.{kept-paged}
use Rattle.mgn_rows.proofs.pages.keep.Goals as goal

pub returns-then-index-eq0-clause-same : goal.returns-then-index-eq0-clause-same
returns-then-index-eq0-clause-same g c = λ count are.
    let unkept : get_or c.args.places.now.items c.args.page 0 ≡ 0 = search rules in
    let value = c.index-value.result.now in
    let first : value ≡ get_or c.args.cells.now.items 0 value = search rules in
    let long : c.len.result ≡ length c.args.cells.now.items = search rules in
    (λ i. paged count (set c.args.places.now.items c.args.page (long i / 16)) (c.push_page.ensures.items i))
    ∙ kept-paged count c.args.places.now.items c.args.cells.now.items _ c.args.page value are c.requires.page unkept first
