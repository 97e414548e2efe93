use Rattle.std.proofs.Common.{◌≡◌, ◌∙◌, ◌+◌, ◌*◌, ◌/◌, ◌%◌, ◌<◌, ap, arith, get_or, length, refl, set, sym, List, ℕ}
use Rattle.std.proofs.lemmas.Grind.{get_or_default_zero}
use Rattle.mgn_rows.specs.Pages.{paged, place_of}
use Rattle.mgn_rows.proofs.Paged.{list-at, list-long, list-page, page-inside, written-paged}
use Rattle.mgn_rows.proofs.list.SparseList.at_mut.Goals as goal

pub keep-requires-clause-page : goal.keep-requires-clause-page
keep-requires-clause-page g c =
    list-page c.self.inside.count c.self.inside.places.items c.self.inside.cells.items _ c.args.self.now c.args.i c.self.invariant c.self.view_is c.requires

pub returns : goal.returns
returns g c =
    let count = c.self.inside.count in
    let places = c.keep.new.places.items in
    let cells = c.keep.new.cells.items in
    let are = c.keep.ensures.pages count c.self.invariant in
    let own : paged count places cells ≡ c.args.self.now = c.keep.ensures.same count c.self.invariant ∙ c.self.view_is in
    let within : c.args.i < count = omega (arith, c.requires, list-long count places cells _ c.args.self.now are own) in
    let page : c.args.i / 16 < length places = page-inside count places are.pages c.args.i within in
    let place : c.from.result * 16 + c.args.i % 16 ≡ place_of places c.args.i = omega (arith, c.from.ensures, c.index.ensures, get_or_default_zero places (c.args.i / 16) c.index.result.now page) in (
      (
        refl,
        λ w.
            ap (λ (p : ℕ). paged count places (set cells p w)) place
            ∙ written-paged count places cells _ c.args.i w are within c.keep.ensures.kept
            ∙ ap (λ (list : List _). set list c.args.i w) own,
      ),
      record {
        writes_back = tt;
        value = c.index_mut.ensures.value
            ∙ ap (λ (p : ℕ). get_or cells p c.index_mut.result.now) place
            ∙ sym (list-at count places cells _ c.args.self.now c.args.i c.index_mut.result.now are own c.requires);
      },
    )
