use Rattle.world_laws.proofs.Filling.{in_sixteen}
use Rattle.world_laws.proofs.Taking.{takes}
use Rattle.world_laws.proofs.calls.begin_takes_the_units.Goals as goal

pub returns : goal.returns
returns c = λ w p command reached less idle some free. takes w p command reached (in_sixteen w p reached less) idle some free
