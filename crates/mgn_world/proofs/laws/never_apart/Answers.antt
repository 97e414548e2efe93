use Rattle.mgn_world.proofs.Commits.{never_apart}
use Rattle.mgn_world.proofs.Said.{good_reached}
use Rattle.mgn_world.proofs.laws.never_apart.Goals as goal

pub returns : goal.returns
returns c = λ w p k l reached is fresh. never_apart w p k l (good_reached w reached) is fresh
