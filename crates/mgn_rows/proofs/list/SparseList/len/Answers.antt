use Rattle.std.proofs.Common.{sym}
use Rattle.mgn_rows.proofs.Paged.{list-long}
use Rattle.mgn_rows.proofs.list.SparseList.len.Goals as goal

pub returns : goal.returns
returns g c =
    sym (list-long c.self.inside.count c.self.inside.places.items c.self.inside.cells.items _ c.args.self.now c.self.invariant c.self.view_is)
