use Rattle.std.proofs.Common.{arith, ◌<◌, length}
use Rattle.std.proofs.lemmas.List.{get_or_read}
use Rattle.mgn_params.specs.CommodityRows.{no_rows}
use Rattle.mgn_params.proofs.LimitsLemmas.{IsWithinLimits-spread}
use Rattle.mgn_params.proofs.RowGrowth.{rows_spread}
use Rattle.mgn_params.proofs.set.ParamSet.push_spread.Goals as goal

pub invariant_of-self-2 : goal.invariant_of-self-2
invariant_of-self-2 c =
    let next = rw (← c.self.view_is) at c.requires in
    let limits = IsWithinLimits-spread _ c.args.spread c.self.invariant.limits next in
    let grown = rw c.in_ok-reserve.ensures.items at c.push_reserved.ensures.items in
    let rows = c.self.invariant.rows in
    let place = next.limits.commodity in
    let there : c.args.spread.commodity < length c.self.inside.commodity_rows.items = omega (arith, place, rows.one_each) in
    let was = get_or_read c.self.inside.commodity_rows.items c.args.spread.commodity c.index_mut.result.now there c.index_mut.ensures.value no_rows in
    let own = rw was at c.in_ok-push_spread.ensures.ok in
    record {
      limits = rw grown limits;
      commodity_places = c.self.invariant.commodity_places;
      contract_places = c.self.invariant.contract_places;
      class_places = c.self.invariant.class_places;
      rows = rw grown (rows_spread _ _ _ _ c.args.spread _ place rows own);
      naming = c.self.invariant.naming;
    }
