use Rattle.world_laws.proofs.Committing.{begin_commits}
use Rattle.world_laws.proofs.Filling.{in_sixteen}
use Rattle.world_laws.proofs.Taking.{no_units}
use Rattle.world_laws.proofs.calls.begin_without_units_commits.Goals as goal

pub returns : goal.returns
returns c = λ w p command reached less idle few none. begin_commits w p command (in_sixteen w p reached less) idle (no_units w.state command none) few
