use Rattle.std.proofs.Common.{◌≡◌, ◌/◌, ◌%◌, ◌∙◌, ap, arith, get_or, sym}
use Rattle.std.proofs.lemmas.Grind.{div_ceil_times}
use Rattle.std.proofs.lemmas.Nat.{div-add-mod'}
use Rattle.mgn_span.specs.Scan.{value_at}
use Rattle.mgn_nets.proofs.Paged.{offset, page-none, row-long}
use Rattle.mgn_nets.proofs.nets.Nets.kept_from.Goals as goal

pub next-requires : goal.next-requires
next-requires c =
    let long = row-long c.self.inside.count c.self.inside.starts.items c.self.inside.cells.items c.args.self.now c.self.view_is in
    omega (arith, long, c.requires, c.self.invariant.pages.pages, c.self.invariant.pages.few, (div_ceil_times c.self.inside.count 16 (omega arith)).0)

pub returns-clause-passed : goal.returns-clause-passed
returns-clause-passed c = λ k low less.
    let passed = c.next.ensures.passed (k / 16) (omega (arith, low, div-add-mod' k 16, offset k)) (omega (arith, less, div-add-mod' k 16)) in
    let closed : get_or c.self.inside.starts.items (k / 16) 0 ≡ 0 = c.self.invariant.among (k / 16) passed in
    sym (ap (value_at c.args.self.now) (div-add-mod' k 16))
    ∙ page-none c.self.inside.count c.self.inside.starts.items c.self.inside.cells.items c.args.self.now _ c.self.view_is c.self.invariant.pages (k / 16) (k % 16) closed (offset k)
