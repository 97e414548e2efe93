use Rattle.mgn_world.specs.declared.phases.Phase.TheVariants.{Failed}
use Rattle.mgn_world.proofs.Said.{good_reached}
use Rattle.mgn_world.proofs.Simple.{session}
use Rattle.std.specs.Prelude.{true}
use Rattle.mgn_world.proofs.laws.stale_call_was_passed.Goals as goal

pub returns : goal.returns
returns c = λ w p k l reached is. (session w p (Failed k l true) (good_reached w reached) is).2
