use Rattle.std.proofs.lemmas.List.{map-append}
use Rattle.mgn_params.proofs.LimitsLemmas.{IsWithinLimits-class}
use Rattle.mgn_params.proofs.set.ParamSet.push_class.Goals as goal

pub invariant_of-self-2 : goal.invariant_of-self-2
invariant_of-self-2 c =
    let next = rw (← c.self.view_is) at c.requires in
    let limits = IsWithinLimits-class _ c.args.class c.self.invariant.limits next in
    let grown = rw c.in_ok-reserve.ensures.items at c.push_reserved.ensures.items in
    record {
      limits = rw grown limits;
      commodity_places = c.self.invariant.commodity_places;
      contract_places = c.self.invariant.contract_places;
      class_places = rw (grown, map-append, ← c.self.invariant.class_places) c.in_ok-push.ensures.ok;
      rows = c.self.invariant.rows;
      naming = c.self.invariant.naming;
    }
