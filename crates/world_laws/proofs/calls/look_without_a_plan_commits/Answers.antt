use Rattle.world_laws.proofs.Calling.{look_enters, look_frees}
use Rattle.world_laws.proofs.calls.look_without_a_plan_commits.Goals as goal

pub returns : goal.returns
returns c = record {
  enters = λ w p k reached is none few. look_enters w p k is none few;
  over = λ w p k is none. look_frees w p k is none;
}
