use Rattle.world_laws.proofs.Ending.{can_end}
use Rattle.world_laws.proofs.progress.a_session_can_come_to_its_end.Goals as goal

pub returns : goal.returns
returns c = λ w p reached. can_end w p reached
