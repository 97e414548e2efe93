use Rattle.mgn_server.proofs.server.Server.start.Goals as goal

pub returns-in-Err : goal.returns-in-Err
returns-in-Err g c = rw c.in-Err.ensures.err at c.run.ensures
