use Rattle.std.proofs.Common.{◌≡◌, ◌∙◌, ◌+◌, ◌*◌, ◌<◌, ℕ, ap, arith, get_or, length, rules, sym, vec_len}
use Rattle.std.proofs.lemmas.Grind.{get_or_default_zero}
use Rattle.mgn_span.specs.Scan.{value_at}
use Rattle.mgn_nets.proofs.Paged.{before-in, different-in, found-different, page-cell, page-within}
use Rattle.mgn_nets.proofs.nets.Nets.different_in.Goals as goal
use Rattle.mgn_nets.proofs.nets.Nets.different_in.Goals.{After-deref-2}

-- the page is one of both lists
inside : (c : After-deref-2) → c.args.page < length c.self.inside.starts.items
inside c = page-within c.self.inside.count c.self.inside.starts.items c.self.inside.cells.items c.args.self.now _ c.self.view_is c.self.invariant.pages c.args.page c.requires.page

other_inside : (c : After-deref-2) → c.args.page < length c.other.inside.starts.items
other_inside c = page-within c.other.inside.count c.other.inside.starts.items c.other.inside.cells.items c.args.other.now _ c.other.view_is c.other.invariant.pages c.args.page (omega (arith, c.requires.long, c.requires.page))

-- where it begins
start : (c : After-deref-2) → c.from-start.result ≡ get_or c.self.inside.starts.items c.args.page 0
start c = omega (arith, c.from-start.ensures, c.index.ensures, get_or_default_zero c.self.inside.starts.items c.args.page c.index.result.now (inside c))

other_start : (c : After-deref-2) → c.from-other_start.result ≡ get_or c.other.inside.starts.items c.args.page 0
other_start c = omega (arith, c.from-other_start.ensures, c.index-2.ensures, get_or_default_zero c.other.inside.starts.items c.args.page c.index-2.result.now (other_inside c))

-- its quantities
here : (c : After-deref-2) → (i : ℕ) → i < 16 → value_at c.args.self.now (c.args.page * 16 + i) ≡ value_at c.deref.result.now (c.from-start.result + i)
here c i small =
    page-cell c.self.inside.count c.self.inside.starts.items c.self.inside.cells.items c.args.self.now _ c.self.view_is c.self.invariant.pages c.args.page i small
    ∙ (λ j. value_at (sym c.deref.ensures.value j) (sym (start c) j + i))

there : (c : After-deref-2) → (i : ℕ) → i < 16 → value_at c.args.other.now (c.args.page * 16 + i) ≡ value_at c.deref-2.result.now (c.from-other_start.result + i)
there c i small =
    page-cell c.other.inside.count c.other.inside.starts.items c.other.inside.cells.items c.args.other.now _ c.other.view_is c.other.invariant.pages c.args.page i small
    ∙ (λ j. value_at (sym c.deref-2.ensures.value j) (sym (other_start c) j + i))

pub index-requires : goal.index-requires
index-requires c =
    let within = page-within c.self.inside.count c.self.inside.starts.items c.self.inside.cells.items c.args.self.now _ c.self.view_is c.self.invariant.pages c.args.page c.requires.page in
    let long : vec_len c.self.inside.starts ≡ length c.self.inside.starts.items = search rules in
    omega (arith, within, long)

pub index-requires-2 : goal.index-requires-2
index-requires-2 c =
    let within = page-within c.other.inside.count c.other.inside.starts.items c.other.inside.cells.items c.args.other.now _ c.other.view_is c.other.invariant.pages c.args.page (omega (arith, c.requires.long, c.requires.page)) in
    let long : vec_len c.other.inside.starts ≡ length c.other.inside.starts.items = search rules in
    omega (arith, within, long)

pub different_from-requires-clause-inside : goal.different_from-requires-clause-inside
different_from-requires-clause-inside c =
    omega (arith, start (goal.at.different_from-requires-clause-inside c).After-deref-2, c.self.invariant.pages.inside c.args.page, ap length c.deref.ensures.value)

pub different_from-requires-clause-other_inside : goal.different_from-requires-clause-other_inside
different_from-requires-clause-other_inside c =
    omega (arith, other_start (goal.at.different_from-requires-clause-other_inside c).After-deref-2, c.other.invariant.pages.inside c.args.page, ap length c.deref-2.ensures.value)

pub returns-clause-found : goal.returns-clause-found
returns-clause-found c =
    let at = (goal.at.returns-clause-found c).After-deref-2 in
    found-different c.args.self.now c.args.other.now c.requires.long c.args.page c.args.from c.different_from.result c.different_from.ensures.found
    (different-in c.args.self.now c.args.other.now c.args.page _ _ (here at) (there at) c.args.from c.different_from.result c.different_from.ensures.found c.different_from.ensures.different)

pub returns-clause-different : goal.returns-clause-different
returns-clause-different c =
    let at = (goal.at.returns-clause-different c).After-deref-2 in
    different-in c.args.self.now c.args.other.now c.args.page _ _ (here at) (there at) c.args.from c.different_from.result c.different_from.ensures.found c.different_from.ensures.different

pub returns-clause-before : goal.returns-clause-before
returns-clause-before c =
    let at = (goal.at.returns-clause-before c).After-deref-2 in
    before-in c.args.self.now c.args.other.now c.args.page _ _ (here at) (there at) c.args.from c.different_from.result c.different_from.ensures.found c.different_from.ensures.before

pub returns-clause-none : goal.returns-clause-none
returns-clause-none c = λ is i low small.
    let at = (goal.at.returns-clause-none c).After-deref-2 in
    here at i small ∙ c.different_from.ensures.none is i low small ∙ sym (there at i small)

pub returns-clause-few : goal.returns-clause-few
returns-clause-few c =
    let within = page-within c.self.inside.count c.self.inside.starts.items c.self.inside.cells.items c.args.self.now _ c.self.view_is c.self.invariant.pages c.args.page c.requires.page in
    omega (arith, within, c.self.invariant.pages.few)
