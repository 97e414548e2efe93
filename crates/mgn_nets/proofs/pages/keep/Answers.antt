use Rattle.std.proofs.Common.{◌≡◌, ◌≢◌, ◌∙◌, ap, arith, get_or, get_or-set_other, length, rules, sym, List, ℕ}
use Rattle.std.specs.Vec.{vec_capacity}
use Rattle.mgn_nets.specs.PageSets.{has_page}
use Rattle.mgn_nets.proofs.Paged.{cell-as, opened-cell, opened-pages, pages-as}
use Rattle.mgn_nets.proofs.pages.keep.Goals as goal

closed : (c : goal.After-open) → get_or c.args.starts.now.items c.args.page 0 ≡ 0
closed c = search rules

pub returns-then-index-eq0-clause-pages : goal.returns-then-index-eq0-clause-pages
returns-then-index-eq0-clause-pages c = λ count are.
    pages-as count _ c.open.new.starts.items _ c.open.new.cells.items _ (vec_capacity c.open.new.cells) c.open.ensures.starts c.open.ensures.cells c.open.ensures.capacity (
    opened-pages count c.args.starts.now.items c.args.cells.now.items (vec_capacity c.args.cells.now) c.args.page are c.requires.page (closed c)
    )

pub returns-then-index-eq0-clause-same : goal.returns-then-index-eq0-clause-same
returns-then-index-eq0-clause-same c = λ contract.
    cell-as _ c.open.new.starts.items _ c.open.new.cells.items c.open.ensures.starts c.open.ensures.cells contract
    ∙ opened-cell c.requires.pages.0 c.args.starts.now.items c.args.cells.now.items (vec_capacity c.args.cells.now) c.args.page c.requires.pages.1 c.requires.page (closed c) contract

pub returns-then-index-eq0-clause-among : goal.returns-then-index-eq0-clause-among
returns-then-index-eq0-clause-among c = λ among other none.
    let starts = c.args.starts.now.items in
    let new = length c.args.cells.now.items in
    let apart : other ≢ c.args.page = λ own. absurd (omega (arith, none, ap (has_page c.open.new.kept.words) own, c.open.ensures.kept)) in
    ap (λ (xs : List ℕ). get_or xs other 0) c.open.ensures.starts
    ∙ get_or-set_other starts c.args.page other new 0 apart
    ∙ among other (sym (c.open.ensures.others_kept other apart) ∙ none)
