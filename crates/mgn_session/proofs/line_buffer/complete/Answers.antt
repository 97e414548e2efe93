use Rattle.std.proofs.Common.{◌<◌, length, rules}
use Rattle.mgn_session.proofs.LineFacts.{whole_is}
use Rattle.mgn_session.proofs.RunFacts.{on_ok}
use Rattle.mgn_session.proofs.line_buffer.complete.Goals as goal

pub returns : goal.returns
returns c =
    let some : 0 < length c.args.line.now.items = search rules in
    on_ok c.keep.result c.keep.ensures (whole_is c.args.line.now.items c.keep.new.line.items c.args.last.now some)
