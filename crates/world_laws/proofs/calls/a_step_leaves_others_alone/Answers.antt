use Rattle.world_laws.proofs.Alone.{desks_alone, holders_alone}
use Rattle.world_laws.proofs.Calling.{others_in}
use Rattle.world_laws.proofs.calls.a_step_leaves_others_alone.Goals as goal

pub returns : goal.returns
returns c = record {
  phases = λ w p d. others_in w p d;
  holders = λ w p u q d other e. holders_alone w p u q d other e;
  desks = λ w p u d reached n. desks_alone w p u d reached n;
}
