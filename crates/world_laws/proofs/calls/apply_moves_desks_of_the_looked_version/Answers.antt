use Rattle.world_laws.proofs.Alone.{apply_moves}
use Rattle.world_laws.proofs.calls.apply_moves_desks_of_the_looked_version.Goals as goal

pub returns : goal.returns
returns c = λ w p k l reached is each. apply_moves w p k l reached is each
