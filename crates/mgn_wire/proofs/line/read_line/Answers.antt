use Rattle.std.proofs.Common.{sym}
use Rattle.mgn_wire.proofs.WordFacts.{line_refused}
use Rattle.mgn_wire.proofs.line.read_line.Goals as goal

pub returns-in_default : goal.returns-in_default
returns-in_default c = sym (line_refused c.args.line.now c.if-line-gt-LONGEST_LINE.false c.in_default.ensures)
