use Rattle.mgn_server.proofs.Facts.{closed}
use Rattle.mgn_server.proofs.session.Session.run.Goals as goal

pub returns : goal.returns
returns g c = closed _ _ _ _ c.converse-ended.ensures
