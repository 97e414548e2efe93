use Rattle.mgn_world.proofs.Turns.{turn}
use Rattle.mgn_world.proofs.laws.a_switch_is_one_step.Goals as goal

pub returns : goal.returns
returns c = λ w e. turn w e
