use Rattle.mgn_unit.proofs.AtLimit.{fill_at_limit-keeps}
use Rattle.mgn_unit.proofs.holding.filling_at_limit_keeps_room.Goals as goal

pub returns : goal.returns
returns c = fill_at_limit-keeps
