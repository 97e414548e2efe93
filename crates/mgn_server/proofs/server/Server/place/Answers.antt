use Rattle.mgn_server.proofs.Facts.{unserved}
use Rattle.mgn_server.proofs.server.Server.place.Goals as goal

pub returns-in-None-clause-place : goal.returns-in-None-clause-place
returns-in-None-clause-place g c = unserved _ _
