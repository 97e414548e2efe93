use Rattle.world_laws.proofs.Marking.{marks_one}
use Rattle.world_laws.proofs.calls.mark_sets_one_desk.Goals as goal

pub returns : goal.returns
returns c = λ w p k l reached is. marks_one w p k l reached is
