use Rattle.mgn_world.proofs.Looking.{ok_always}
use Rattle.mgn_world.proofs.state.WorldState.house.Goals as goal

pub returns-clause-sound : goal.returns-clause-sound
returns-clause-sound c = ok_always c.more_locks.result (c.in_ok-more_desks.ensures.sound c.args.self.now.shelf)
