use Rattle.std.proofs.Common.{length-append}
use Rattle.std.proofs.lemmas.List.{map-append}
use Rattle.mgn_params.proofs.LimitsLemmas.{IsWithinLimits-commodity}
use Rattle.mgn_params.proofs.NamingLemmas.{naming_commodity}
use Rattle.mgn_params.proofs.RowGrowth.{rows_commodity}
use Rattle.mgn_params.proofs.set.ParamSet.push_commodity.Goals as goal

pub invariant_of-self-2 : goal.invariant_of-self-2
invariant_of-self-2 c =
    let next = rw (← c.self.view_is) at c.requires in
    let before = c.self.invariant.limits in
    let limits = IsWithinLimits-commodity _ c.args.commodity before next in
    let grown = rw c.in_ok-reserve.ensures.items at c.push_reserved.ensures.items in
    let more = rw (c.in_ok-reserve-2.ensures.items, c.new.ensures) at c.push_reserved-2.ensures.items in
    let zero = rw c.in_ok-reserve-3.ensures.items at c.push_reserved-3.ensures.items in
    record {
      limits = rw grown limits;
      commodity_places = rw (grown, map-append, ← c.self.invariant.commodity_places) c.in_ok-push.ensures.ok;
      contract_places = c.self.invariant.contract_places;
      class_places = c.self.invariant.class_places;
      rows = rw (grown, length-append, more) (rows_commodity _ _ _ _ before.spreads before.spots c.self.invariant.rows);
      naming = rw (grown, length-append, zero) (naming_commodity _ _ _ before.credits c.self.invariant.naming);
    }
