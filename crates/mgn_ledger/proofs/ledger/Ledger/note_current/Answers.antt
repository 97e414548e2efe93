use Rattle.mgn_day.proofs.Gathers.{ready-now}
use Rattle.mgn_ledger.proofs.ledger.Ledger.note_current.Goals as goal

pub returns-clause-current : goal.returns-clause-current
returns-clause-current g c = λ u d one inside noted found.
    ready-now g.T.Shows.shown c.args.self.now c.args.set.now c.args.prepared.now.units.items c.args.since.now u d one c.requires (c.note.ensures.noted u noted) inside found
