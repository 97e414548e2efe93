use Rattle.mgn_unit.proofs.row.Row.requirements_by.Goals as goal

pub required_by_beside-requires-3-clause-others : goal.required_by_beside-requires-3-clause-others
required_by_beside-requires-3-clause-others c =
    c.priced_before_all-others.ensures c.args.switch.now.new c.in_ok-lots.ensures.required c.in_ok-buys.ensures.required c.in_ok-sales.ensures.required
