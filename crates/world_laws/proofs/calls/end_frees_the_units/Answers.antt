use Rattle.world_laws.proofs.Calling.{end_book, end_frees}
use Rattle.world_laws.proofs.calls.end_frees_the_units.Goals as goal

pub returns : goal.returns
returns c = record {
  frees = λ w p k is. end_frees w p k is;
  book = λ w p. end_book w p;
}
