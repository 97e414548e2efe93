use Rattle.mgn_world.proofs.Said.{commit_placed}
use Rattle.mgn_world.proofs.laws.a_commit_is_one_step.Goals as goal

pub returns : goal.returns
returns c = λ w p k l reached is room fresh. commit_placed w p k l reached is room fresh
