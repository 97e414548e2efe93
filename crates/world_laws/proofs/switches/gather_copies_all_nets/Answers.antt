use Rattle.world_laws.proofs.Committing.{gather_comes}
use Rattle.world_laws.proofs.Filling.{in_sixteen}
use Rattle.std.proofs.Common.{refl}
use Rattle.world_laws.proofs.switches.gather_copies_all_nets.Goals as goal

pub returns : goal.returns
returns c = λ w p set reached less idle. gather_comes w p set _ (in_sixteen w p reached less) idle refl
