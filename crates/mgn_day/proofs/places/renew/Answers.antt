use Rattle.mgn_day.proofs.PlaceFacts.{renewed-by}
use Rattle.mgn_day.proofs.places.renew.Goals as goal

pub returns-clause-renewed : goal.returns-clause-renewed
returns-clause-renewed c =
    renewed-by c.args.plan.now c.args.units c.args.place c.args.places.now.items c.note.new.places.items c.extend.new.places.items c.note.ensures.noted c.extend.ensures.long c.extend.ensures.old c.extend.ensures.new
