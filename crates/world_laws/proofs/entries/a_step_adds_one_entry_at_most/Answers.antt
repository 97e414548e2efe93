use Rattle.world_laws.proofs.Once.{one_most}
use Rattle.world_laws.proofs.entries.a_step_adds_one_entry_at_most.Goals as goal

pub returns : goal.returns
returns c = λ w e. one_most w e
