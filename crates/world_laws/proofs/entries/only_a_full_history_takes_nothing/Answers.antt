use Rattle.world_laws.proofs.Filling.{few, full_keeps, room}
use Rattle.world_laws.proofs.entries.only_a_full_history_takes_nothing.Goals as goal

pub returns : goal.returns
returns c = record {
  room = λ w p d reached less ok now few. room w p d reached less ok now few;
  full = λ w p d e. full_keeps w p d e;
  few = λ w reached. few w reached;
}
