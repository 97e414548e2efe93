use Rattle.std.proofs.lemmas.List.{map-append}
use Rattle.mgn_params.proofs.LimitsLemmas.{IsWithinLimits-contract}
use Rattle.mgn_params.proofs.set.ParamSet.push_contract.Goals as goal

pub invariant_of-self-2 : goal.invariant_of-self-2
invariant_of-self-2 c =
    let next = rw (← c.self.view_is) at c.requires in
    let limits = IsWithinLimits-contract _ c.args.contract c.self.invariant.limits next in
    let grown = rw c.in_ok-reserve.ensures.items at c.push_reserved.ensures.items in
    record {
      limits = rw grown limits;
      commodity_places = c.self.invariant.commodity_places;
      contract_places = rw (grown, map-append, ← c.self.invariant.contract_places) c.in_ok-push.ensures.ok;
      class_places = c.self.invariant.class_places;
      rows = c.self.invariant.rows;
      naming = c.self.invariant.naming;
    }
