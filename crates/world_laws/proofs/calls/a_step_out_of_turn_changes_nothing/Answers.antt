use Rattle.world_laws.proofs.Skipping.{skip}
use Rattle.world_laws.proofs.calls.a_step_out_of_turn_changes_nothing.Goals as goal

pub returns : goal.returns
returns c = λ w p d e. skip w p d e
