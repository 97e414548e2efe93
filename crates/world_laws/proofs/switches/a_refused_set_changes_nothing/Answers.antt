use Rattle.world_laws.proofs.Committing.{set_refused_sets, set_refused_state}
use Rattle.world_laws.proofs.switches.a_refused_set_changes_nothing.Goals as goal

pub returns : goal.returns
returns c = record {
  state = λ w p g why is e. set_refused_state w p g why is e;
  sets = λ w p g why is e. set_refused_sets w p g why is e;
}
