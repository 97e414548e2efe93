use Rattle.mgn_book.proofs.FilledAtLimit.{requirement-kept, worth-kept, room-kept}
use Rattle.mgn_book.proofs.laws.done_fill_at_limit_keeps_room.Goals as goal

pub returns-clause-requirement : goal.returns-clause-requirement
returns-clause-requirement c = requirement-kept

pub returns-clause-worth : goal.returns-clause-worth
returns-clause-worth c = worth-kept

pub returns-clause-room : goal.returns-clause-room
returns-clause-room c = room-kept
