use Rattle.std.proofs.Common.{◌≡◌, ◌∙◌, ◌+◌, ◌*◌, ◌/◌, ◌%◌, ap, arith, get_or, length, rules, sym, vec_len, ℕ}
use Rattle.std.proofs.lemmas.Grind.{get_or_default_zero}
use Rattle.mgn_rows.specs.Pages.{place_of}
use Rattle.mgn_rows.proofs.Paged.{list-at, list-page, place-inside}
use Rattle.mgn_rows.proofs.list.SparseList.at.Goals as goal

pub index-requires : goal.index-requires
index-requires g c =
    let pages : vec_len c.self.inside.places ≡ length c.self.inside.places.items = search rules in
    omega (arith, pages, list-page c.self.inside.count c.self.inside.places.items c.self.inside.cells.items _ c.args.self.now c.args.i c.self.invariant c.self.view_is c.requires)

pub index-requires-2 : goal.index-requires-2
index-requires-2 g c =
    let places = c.self.inside.places.items in
    let page = list-page c.self.inside.count places c.self.inside.cells.items _ c.args.self.now c.args.i c.self.invariant c.self.view_is c.requires in
    let cells : vec_len c.self.inside.cells ≡ length c.self.inside.cells.items = search rules in
    omega (arith, cells, c.from.ensures, c.index.ensures, get_or_default_zero places (c.args.i / 16) c.index.result.now page, place-inside c.self.inside.count places c.self.inside.cells.items _ c.self.invariant c.args.i)

pub returns : goal.returns
returns g c =
    let places = c.self.inside.places.items in
    let page = list-page c.self.inside.count places c.self.inside.cells.items _ c.args.self.now c.args.i c.self.invariant c.self.view_is c.requires in
    let place : c.from.result * 16 + c.args.i % 16 ≡ place_of places c.args.i = omega (arith, c.from.ensures, c.index.ensures, get_or_default_zero places (c.args.i / 16) c.index.result.now page) in
    c.index-2.ensures
    ∙ ap (λ (k : ℕ). get_or c.self.inside.cells.items k c.index-2.result.now) place
    ∙ sym (list-at c.self.inside.count places c.self.inside.cells.items _ c.args.self.now c.args.i c.index-2.result.now c.self.invariant c.self.view_is c.requires)
