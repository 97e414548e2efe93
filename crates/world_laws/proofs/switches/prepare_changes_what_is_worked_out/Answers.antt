use Rattle.world_laws.proofs.Committing.{prepare_comes}
use Rattle.world_laws.proofs.switches.prepare_changes_what_is_worked_out.Goals as goal

pub returns : goal.returns
returns c = λ w p u g is. prepare_comes w p u g is
