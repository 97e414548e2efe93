use Rattle.world_laws.proofs.Once.{answers}
use Rattle.world_laws.proofs.entries.entries_are_answers.Goals as goal

pub returns : goal.returns
returns c = λ w p d. answers w p d
