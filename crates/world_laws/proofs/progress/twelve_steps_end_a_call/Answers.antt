use Rattle.world_laws.proofs.Ending.{all_end}
use Rattle.world_laws.proofs.progress.twelve_steps_end_a_call.Goals as goal

pub returns : goal.returns
returns c = λ w p reached. all_end w p reached
