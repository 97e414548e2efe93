use Rattle.std.proofs.Common.{◌∙◌, ap}
use Rattle.std.specs.Prelude.{unsigned_abs}
use Rattle.mgn_laws.proofs.CreditLemmas.{delta_of, rest_and_used}
use Rattle.mgn_laws.proofs.credits.rests_leave_net_delta_less_earlier_uses.Goals as goal
use Rattle.mgn_span.specs.Positions.{positions}

pub returns : goal.returns
returns c =
    let set = c.args.set.now in
    let portfolio = positions set.contracts c.args.nets.now in
    let g = c.args.commodity in
    rest_and_used set portfolio g c.args.spread c.limits.ensures ∙ ap unsigned_abs (delta_of set portfolio g c.requires)
