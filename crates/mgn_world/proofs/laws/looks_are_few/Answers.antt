use Rattle.mgn_world.proofs.Said.{few_looks}
use Rattle.mgn_world.proofs.laws.looks_are_few.Goals as goal

pub returns : goal.returns
returns c = λ w p k reached is. few_looks w p k reached is
