use Rattle.world_laws.proofs.Calling.{look_comes}
use Rattle.world_laws.proofs.calls.look_takes_what_the_command_changes.Goals as goal

pub returns : goal.returns
returns c = λ w p k plan is found some. look_comes w p k plan is found some
