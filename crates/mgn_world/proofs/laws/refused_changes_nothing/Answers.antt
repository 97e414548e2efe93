use Rattle.mgn_world.proofs.Said.{refused_same}
use Rattle.mgn_world.proofs.laws.refused_changes_nothing.Goals as goal

pub returns : goal.returns
returns c = λ w command why reached refused. refused_same w command why reached refused
