use Rattle.std.proofs.Common.{◌∙◌, ap, arith, length}
use Rattle.mgn_nets.proofs.Paged.{cell-as, page-inside, row-at, row-within}
use Rattle.mgn_nets.proofs.nets.Nets.at.Goals as goal

pub cell_at-requires-clause-page : goal.cell_at-requires-clause-page
cell_at-requires-clause-page c =
    let within = row-within c.self.inside.count c.self.inside.starts.items c.self.inside.cells.items c.args.self.now c.self.view_is c.args.contract c.requires in
    omega (arith, ap length c.deref.ensures.value, page-inside c.self.inside.count c.self.inside.starts.items c.self.invariant.pages.pages c.args.contract within)

pub returns : goal.returns
returns c =
    c.cell_at.ensures
    ∙ cell-as c.self.inside.starts.items c.deref.result.now c.self.inside.cells.items c.deref-2.result.now c.deref.ensures.value c.deref-2.ensures.value c.args.contract
    ∙ row-at c.self.inside.count c.self.inside.starts.items c.self.inside.cells.items c.args.self.now c.self.view_is c.args.contract c.requires
