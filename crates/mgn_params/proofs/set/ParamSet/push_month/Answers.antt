use Rattle.mgn_params.proofs.LimitsLemmas.{IsWithinLimits-month}
use Rattle.mgn_params.proofs.set.ParamSet.push_month.Goals as goal

pub invariant_of-self-2 : goal.invariant_of-self-2
invariant_of-self-2 c =
    let next = rw (← c.self.view_is) at c.requires in
    let limits = IsWithinLimits-month _ c.args.month c.self.invariant.limits next in
    let grown = c.in_ok-push.ensures.items in
    record {
      limits = rw grown limits;
      commodity_places = c.self.invariant.commodity_places;
      contract_places = c.self.invariant.contract_places;
      class_places = c.self.invariant.class_places;
      rows = c.self.invariant.rows;
      naming = c.self.invariant.naming;
    }
