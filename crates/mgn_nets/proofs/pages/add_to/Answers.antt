use Rattle.std.proofs.Common.{◌≡◌, ◌∙◌, ◌+◌, ◌%◌, ◌/◌, ◌<◌, ap, arith, get_or, length, pos, rules, set, ℤ, ℕ}
use Rattle.std.proofs.lemmas.Grind.{get_or_default_zero}
use Rattle.std.proofs.lemmas.List.{get_or_default}
use Rattle.std.specs.Prelude.{◌+ℤ◌}
use Rattle.std.specs.Vec.{vec_capacity}
use Rattle.mgn_nets.specs.Pages.{ArePages, cell}
use Rattle.mgn_nets.proofs.Paged.{page-inside, pages-as, place-inside, place_of, written-here, written-other, written-pages}
use Rattle.mgn_nets.proofs.pages.add_to.Goals as goal

-- the pages, of which the contract's is kept
pages : (c : goal.After-cells-1) → ArePages c.requires.pages.0 c.keep.new.starts.items c.keep.new.cells.items (vec_capacity c.keep.new.cells)
pages c = c.keep.ensures.pages c.requires.pages.0 c.requires.pages.2

-- where the quantity stands
place : (c : goal.After-cells-1) → c.from.result + c.args.contract % 16 ≡ place_of c.keep.new.starts.items c.args.contract
place c =
    let are = pages c in
    let inside : c.args.contract / 16 < length c.keep.new.starts.items = page-inside c.requires.pages.0 c.keep.new.starts.items are.pages c.args.contract c.requires.pages.1 in
    omega (arith, c.from.ensures, c.index.ensures, get_or_default_zero c.keep.new.starts.items (c.args.contract / 16) c.index.result.now inside)

pub returns-clause-pages : goal.returns-clause-pages
returns-clause-pages c = λ count within are.
    pages-as count c.keep.new.starts.items c.keep.new.starts.items _ _ (vec_capacity c.keep.new.cells) (vec_capacity c.keep.new.cells) (search rules) (ap (λ (k : ℕ). set c.keep.new.cells.items k c.plus.result) (place c)) (search rules) (
    written-pages count c.keep.new.starts.items c.keep.new.cells.items (vec_capacity c.keep.new.cells) (c.keep.ensures.pages count are) c.args.contract c.plus.result within c.keep.ensures.kept
    )

pub returns-clause-here : goal.returns-clause-here
returns-clause-here c =
    let are = pages c in
    let was : c.index-2.result.now ≡ cell c.keep.new.starts.items c.keep.new.cells.items c.args.contract =
    c.index-2.ensures
    ∙ get_or_default c.keep.new.cells.items (c.from.result + c.args.contract % 16) c.index-2.result.now (pos 0) (omega (arith, place c, place-inside c.requires.pages.0 c.keep.new.starts.items c.keep.new.cells.items (vec_capacity c.keep.new.cells) are c.args.contract))
    ∙ ap (λ (k : ℕ). get_or c.keep.new.cells.items k (pos 0)) (place c)
    in
    ap (λ (k : ℕ). cell c.keep.new.starts.items (set c.keep.new.cells.items k c.plus.result) c.args.contract) (place c)
    ∙ written-here c.requires.pages.0 c.keep.new.starts.items c.keep.new.cells.items (vec_capacity c.keep.new.cells) are c.args.contract c.plus.result
    ∙ c.plus.ensures
    ∙ ap (λ (v : ℤ). v +ℤ c.args.quantity) (was ∙ c.keep.ensures.same c.args.contract)

pub returns-clause-others : goal.returns-clause-others
returns-clause-others c = λ other apart.
    ap (λ (k : ℕ). cell c.keep.new.starts.items (set c.keep.new.cells.items k c.plus.result) other) (place c)
    ∙ written-other c.requires.pages.0 c.keep.new.starts.items c.keep.new.cells.items (vec_capacity c.keep.new.cells) (pages c) c.args.contract c.plus.result c.keep.ensures.kept other apart
    ∙ c.keep.ensures.same other
