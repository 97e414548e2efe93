use Rattle.std.proofs.Common.{◌≡◌, ◌∙◌, ◌/◌, ◌<◌, ap, arith, get_or, length, rules, vec_len, ℕ}
use Rattle.std.proofs.lemmas.Grind.{get_or_default_zero}
use Rattle.mgn_rows.proofs.Paged.{list-long, list-page, list-run}
use Rattle.mgn_rows.proofs.list.SparseList.run_from.Goals as goal

pub index-requires : goal.index-requires
index-requires g c =
    let pages : vec_len c.self.inside.places ≡ length c.self.inside.places.items = search rules in
    omega (arith, pages, list-page c.self.inside.count c.self.inside.places.items c.self.inside.cells.items _ c.args.self.now c.args.from c.self.invariant c.self.view_is c.requires)

pub overflow_sub-self-inside : goal.overflow_sub-self-inside
overflow_sub-self-inside g c =
    omega (arith, c.requires, list-long c.self.inside.count c.self.inside.places.items c.self.inside.cells.items _ c.args.self.now c.self.invariant c.self.view_is)

pub returns-clause-some : goal.returns-clause-some
returns-clause-some g c =
    omega (arith, c.requires, c.min.ensures, list-long c.self.inside.count c.self.inside.places.items c.self.inside.cells.items _ c.args.self.now c.self.invariant c.self.view_is)

pub returns-clause-within : goal.returns-clause-within
returns-clause-within g c =
    omega (arith, c.requires, c.min.ensures, list-long c.self.inside.count c.self.inside.places.items c.self.inside.cells.items _ c.args.self.now c.self.invariant c.self.view_is)

pub returns-clause-same : goal.returns-clause-same
returns-clause-same g c = λ i d low high.
    let places = c.self.inside.places.items in
    let long = list-long c.self.inside.count places c.self.inside.cells.items _ c.args.self.now c.self.invariant c.self.view_is in
    let page : i / 16 ≡ c.args.from / 16 = omega (arith, low, high, c.min.ensures) in
    let inside : i < length c.args.self.now = omega (arith, high, c.min.ensures, c.requires, long) in
    let within = list-page c.self.inside.count places c.self.inside.cells.items _ c.args.self.now c.args.from c.self.invariant c.self.view_is c.requires in
    let unkept : get_or places (c.args.from / 16) 0 ≡ 0 = omega (arith, c.if-index-ne0.false, c.index.ensures, get_or_default_zero places (c.args.from / 16) c.index.result.now within) in
    list-run c.self.inside.count places c.self.inside.cells.items _ c.args.self.now i c.args.from d c.self.invariant c.self.view_is inside c.requires page (ap (λ (k : ℕ). get_or places k 0) page ∙ unkept)
