use Rattle.mgn_world.proofs.Said.{done_shows}
use Rattle.mgn_world.proofs.laws.done_commit_shows_the_nets.Goals as goal

pub returns : goal.returns
returns c = λ w p u k m l reached is among ended. done_shows w p u k m l reached is among ended
