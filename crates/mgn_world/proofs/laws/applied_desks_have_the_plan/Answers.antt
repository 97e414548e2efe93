use Rattle.mgn_world.proofs.Commits.{has_plan}
use Rattle.mgn_world.proofs.Said.{failed_plan, good_reached, plan_is}
use Rattle.mgn_world.proofs.laws.applied_desks_have_the_plan.Goals as goal

pub returns : goal.returns
returns c = record {
  applied = λ w p u k l reached is among. has_plan w p k l (good_reached w reached) is u among;
  failed = λ w p u k l again reached is among. failed_plan w p u k l again (good_reached w reached) is among;
  plan = λ w p k l reached is. plan_is w p k l reached is;
}
