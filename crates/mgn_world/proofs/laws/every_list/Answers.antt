use Rattle.mgn_world.specs.World.{opening}
use Rattle.mgn_world.proofs.Replays.{replayed-opening, replayed-run}
use Rattle.mgn_world.proofs.laws.every_list.Goals as goal

pub returns : goal.returns
returns c = record { replay = λ set steps. replayed-run (opening set) steps (replayed-opening set) }
