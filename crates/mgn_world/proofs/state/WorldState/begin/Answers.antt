use Rattle.std.proofs.Common.{sym}
use Rattle.mgn_world.specs.World.{in_force}
use Rattle.mgn_world.specs.Worlds.{shown}
use Rattle.mgn_world.proofs.Looking.{planless}
use Rattle.mgn_world.proofs.state.WorldState.begin.Goals as goal

pub enter-requires-clause-planless : goal.enter-requires-clause-planless
enter-requires-clause-planless c = planless (in_force (shown c.args.self.now)) c.args.self.now.book.book.state c.args.command (sym c.in-Nothing.ensures.units)
