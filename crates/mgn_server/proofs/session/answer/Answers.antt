use Rattle.mgn_server.proofs.Facts.{ends}
use Rattle.mgn_server.proofs.session.answer.Goals as goal

pub returns : goal.returns
returns g c = ends _ _ _ _ _ _ c.run_lines.ensures.ok c.run_lines.ensures.err c.run_lines.ensures.lines
