use Rattle.world_laws.proofs.Taking.{waits}
use Rattle.world_laws.proofs.calls.begin_waits_for_its_units.Goals as goal

pub returns : goal.returns
returns c = λ w p u q command idle among held. waits w p u q command idle among held
