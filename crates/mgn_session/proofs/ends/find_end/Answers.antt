use Rattle.mgn_session.proofs.ByteFacts.{first_is_position}
use Rattle.mgn_session.proofs.ends.find_end.Goals as goal

pub returns : goal.returns
returns c = first_is_position 10 c.args.text.now c.memchr.result c.memchr.ensures
