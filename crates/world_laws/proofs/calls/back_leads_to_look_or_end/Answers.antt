use Rattle.std.specs.Prelude.{false, true}
use Rattle.world_laws.proofs.Calling.{back_book, back_comes, back_holders}
use Rattle.world_laws.proofs.calls.back_leads_to_look_or_end.Goals as goal

pub returns : goal.returns
returns c = record {
  again = λ w p k l is. back_comes w p k l true is;
  end = λ w p k l is. back_comes w p k l false is;
  book = λ w p. back_book w p;
  holders = λ w p u. back_holders w p u;
}
