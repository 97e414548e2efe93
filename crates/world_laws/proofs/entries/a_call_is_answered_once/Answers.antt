use Rattle.world_laws.proofs.Once.{once}
use Rattle.world_laws.proofs.entries.a_call_is_answered_once.Goals as goal

pub returns : goal.returns
returns c = λ w e es more none. once w e es more none
