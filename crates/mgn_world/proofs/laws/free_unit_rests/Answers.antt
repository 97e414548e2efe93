use Rattle.mgn_world.proofs.Said.{free_rests}
use Rattle.mgn_world.proofs.laws.free_unit_rests.Goals as goal

pub returns : goal.returns
returns c = λ w u reached free. free_rests w u reached free
