use Rattle.mgn_laws.proofs.AbsentLemmas.{credit_none, intra_none, minimum_none, risk_none, scan_none, spot_none}
use Rattle.mgn_laws.proofs.requirements.adds_nothing_where_nothing_is_held.Goals as goal
use Rattle.mgn_span.specs.Positions.{positions}

pub returns : goal.returns
returns c =
    let set = c.args.set.now in
    let nets = c.args.nets.now in
    let portfolio = positions set.contracts nets in
    let g = c.args.commodity in
    let none = c.requires in
    let limits = c.limits.ensures in
    record {
      scan = scan_none portfolio g none;
      intra = intra_none set nets g limits none;
      spot = spot_none set nets g limits none;
      credit = credit_none set nets g limits none;
      minimum = minimum_none set portfolio g none;
      risk = risk_none set nets g limits none;
    }
