use Rattle.std.proofs.Common.{◌≡◌, ◌∙◌, ◌+◌, ◌<◌, ◌≤◌, ℕ, List, ap, arith, get_or, length, pos, rules, subst, sym, vec_len}
use Rattle.std.specs.Prelude.{ℤ, IfSome}
use Rattle.std.proofs.lemmas.Grind.{get_or_default_zero}
use Rattle.mgn_span.specs.Scan.{value_at}
use Rattle.mgn_nets.proofs.Paged.{found-in, held-in, page-cell, page-none, page-within, passed-in}
use Rattle.mgn_nets.proofs.nets.Nets.held_in.Goals as goal

pub index-requires : goal.index-requires
index-requires c =
    let inside = page-within c.self.inside.count c.self.inside.starts.items c.self.inside.cells.items c.args.self.now _ c.self.view_is c.self.invariant.pages c.args.page c.requires in
    let long : vec_len c.self.inside.starts ≡ length c.self.inside.starts.items = search rules in
    omega (arith, inside, long)

pub returns-then-start-eq0-clause-none : goal.returns-then-start-eq0-clause-none
returns-then-start-eq0-clause-none c = λ is i low small.
    let inside = page-within c.self.inside.count c.self.inside.starts.items c.self.inside.cells.items c.args.self.now _ c.self.view_is c.self.invariant.pages c.args.page c.requires in
    let start : c.from-start.result ≡ get_or c.self.inside.starts.items c.args.page 0 = omega (arith, c.from-start.ensures, c.index.ensures, get_or_default_zero c.self.inside.starts.items c.args.page c.index.result.now inside) in
    let closed : get_or c.self.inside.starts.items c.args.page 0 ≡ 0 = sym start ∙ search rules in
    page-none c.self.inside.count c.self.inside.starts.items c.self.inside.cells.items c.args.self.now _ c.self.view_is c.self.invariant.pages c.args.page i closed small

pub held_from-requires : goal.held_from-requires
held_from-requires c =
    let inside = page-within c.self.inside.count c.self.inside.starts.items c.self.inside.cells.items c.args.self.now _ c.self.view_is c.self.invariant.pages c.args.page c.requires in
    let start : c.from-start.result ≡ get_or c.self.inside.starts.items c.args.page 0 = omega (arith, c.from-start.ensures, c.index.ensures, get_or_default_zero c.self.inside.starts.items c.args.page c.index.result.now inside) in
    record { inside = omega (arith, start, c.self.invariant.pages.inside c.args.page, ap length c.deref.ensures.value) }

pub returns-clause-found : goal.returns-clause-found
returns-clause-found c =
    let inside = page-within c.self.inside.count c.self.inside.starts.items c.self.inside.cells.items c.args.self.now _ c.self.view_is c.self.invariant.pages c.args.page c.requires in
    let start : c.from-start.result ≡ get_or c.self.inside.starts.items c.args.page 0 = omega (arith, c.from-start.ensures, c.index.ensures, get_or_default_zero c.self.inside.starts.items c.args.page c.index.result.now inside) in
    let held = subst (λ (n : ℕ). IfSome c.held_from.result (λ place. (value_at c.self.inside.cells.items (n + place) ≡ pos 0) → ⊥)) start (subst (λ (xs : List ℤ). IfSome c.held_from.result (λ place. (value_at xs (c.from-start.result + place) ≡ pos 0) → ⊥)) c.deref.ensures.value c.held_from.ensures.held) in
    found-in c.self.inside.count c.self.inside.starts.items c.self.inside.cells.items c.args.self.now _ c.self.view_is c.self.invariant.pages c.args.page c.args.from c.held_from.result c.held_from.ensures.found held

pub returns-clause-held : goal.returns-clause-held
returns-clause-held c =
    let inside = page-within c.self.inside.count c.self.inside.starts.items c.self.inside.cells.items c.args.self.now _ c.self.view_is c.self.invariant.pages c.args.page c.requires in
    let start : c.from-start.result ≡ get_or c.self.inside.starts.items c.args.page 0 = omega (arith, c.from-start.ensures, c.index.ensures, get_or_default_zero c.self.inside.starts.items c.args.page c.index.result.now inside) in
    let held = subst (λ (n : ℕ). IfSome c.held_from.result (λ place. (value_at c.self.inside.cells.items (n + place) ≡ pos 0) → ⊥)) start (subst (λ (xs : List ℤ). IfSome c.held_from.result (λ place. (value_at xs (c.from-start.result + place) ≡ pos 0) → ⊥)) c.deref.ensures.value c.held_from.ensures.held) in
    held-in c.self.inside.count c.self.inside.starts.items c.self.inside.cells.items c.args.self.now _ c.self.view_is c.self.invariant.pages c.args.page c.args.from c.held_from.result c.held_from.ensures.found held

pub returns-clause-before : goal.returns-clause-before
returns-clause-before c =
    let inside = page-within c.self.inside.count c.self.inside.starts.items c.self.inside.cells.items c.args.self.now _ c.self.view_is c.self.invariant.pages c.args.page c.requires in
    let start : c.from-start.result ≡ get_or c.self.inside.starts.items c.args.page 0 = omega (arith, c.from-start.ensures, c.index.ensures, get_or_default_zero c.self.inside.starts.items c.args.page c.index.result.now inside) in
    let passed = subst (λ (n : ℕ). IfSome c.held_from.result (λ place. (i : ℕ) → c.args.from ≤ i → i < place → value_at c.self.inside.cells.items (n + i) ≡ pos 0)) start (subst (λ (xs : List ℤ). IfSome c.held_from.result (λ place. (i : ℕ) → c.args.from ≤ i → i < place → value_at xs (c.from-start.result + i) ≡ pos 0)) c.deref.ensures.value c.held_from.ensures.before) in
    passed-in c.self.inside.count c.self.inside.starts.items c.self.inside.cells.items c.args.self.now _ c.self.view_is c.self.invariant.pages c.args.page c.args.from c.held_from.result c.held_from.ensures.found passed

pub returns-clause-none : goal.returns-clause-none
returns-clause-none c = λ is i low small.
    let inside = page-within c.self.inside.count c.self.inside.starts.items c.self.inside.cells.items c.args.self.now _ c.self.view_is c.self.invariant.pages c.args.page c.requires in
    let start : c.from-start.result ≡ get_or c.self.inside.starts.items c.args.page 0 = omega (arith, c.from-start.ensures, c.index.ensures, get_or_default_zero c.self.inside.starts.items c.args.page c.index.result.now inside) in
    page-cell c.self.inside.count c.self.inside.starts.items c.self.inside.cells.items c.args.self.now _ c.self.view_is c.self.invariant.pages c.args.page i small
    ∙ (λ j. value_at (sym c.deref.ensures.value j) (sym start j + i))
    ∙ c.held_from.ensures.none is i low small

pub returns-then-start-eq0-clause-few : goal.returns-then-start-eq0-clause-few
returns-then-start-eq0-clause-few c =
    let inside = page-within c.self.inside.count c.self.inside.starts.items c.self.inside.cells.items c.args.self.now _ c.self.view_is c.self.invariant.pages c.args.page c.requires in
    omega (arith, inside, c.self.invariant.pages.few)

pub returns-clause-few : goal.returns-clause-few
returns-clause-few c =
    let inside = page-within c.self.inside.count c.self.inside.starts.items c.self.inside.cells.items c.args.self.now _ c.self.view_is c.self.invariant.pages c.args.page c.requires in
    omega (arith, inside, c.self.invariant.pages.few)
