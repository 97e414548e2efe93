use Rattle.std.proofs.Common.{List, Some}
use Rattle.mgn_setfile.specs.File.{Record}
use Rattle.mgn_setfile.specs.Plain.{HasRead, ending, unread}
use Rattle.mgn_setfile.proofs.read.read_rest.Given as goal

abbrev pub invariant-records : goal.invariant-records
invariant-records l = (more : List Record) × HasRead l.fn.text (ending l.is_cut more) l.reader (Some l.draft) l.count

abbrev pub decreases-records : goal.decreases-records
decreases-records l = unread l.reader
