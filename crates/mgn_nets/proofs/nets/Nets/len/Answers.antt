use Rattle.std.proofs.Common.{sym}
use Rattle.mgn_nets.proofs.Paged.{row-long}
use Rattle.mgn_nets.proofs.nets.Nets.len.Goals as goal

pub returns : goal.returns
returns c = sym (row-long c.self.inside.count c.self.inside.starts.items c.self.inside.cells.items c.args.self.now c.self.view_is)
