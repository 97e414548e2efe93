use Rattle.std.proofs.Common.{ap, arith, length, length-set, pos, true, ◌<◌, ◌∙◌}
use Rattle.std.proofs.lemmas.Int.{ints}
use Rattle.std.proofs.lemmas.List.{with_items_is}
use Rattle.mgn_params.specs.declared.tables.Contract.{Contract}
use Rattle.mgn_params.specs.Tables.{commodity_at, contract_at, no_contract}
use Rattle.mgn_span.specs.Scan.{value_at}
use Rattle.mgn_span.specs.Words.{month_share, scenario_share, short_share_of, value_share}
use Rattle.mgn_span.proofs.PositionLemmas.{position_count_more, position_sum_more}
use Rattle.mgn_span.proofs.ShareLemmas.{value_share_small}
use Rattle.mgn_plain.proofs.PassLemmas.{deltas_room, flat_more, minimums_small, totals_room, value_small}
use Rattle.mgn_plain.proofs.sums.add_position.Goals as goal

pub add_position-requires-clause-room : goal.add_position-requires-clause-room
add_position-requires-clause-room c = λ s k.
    rw c.at-net.ensures (totals_room c.args.set.now c.args.nets.now c.args.i c.args.sums.now s c.limits.ensures c.requires.sums c.requires.contract k)

pub add_position-requires-2-clause-room : goal.add_position-requires-2-clause-room
add_position-requires-2-clause-room c =
    rw (c.at-net.ensures, c.contract_at-contract.ensures) (deltas_room c.args.set.now c.args.nets.now c.args.i c.args.sums.now c.limits.ensures c.requires.sums c.requires.contract)

pub add_minimum-requires-clause-room : goal.add_minimum-requires-clause-room
add_minimum-requires-clause-room c = λ g h.
    let few = c.limits.ensures.few_contracts in
    let low = minimums_small c.args.set.now c.args.nets.now c.args.i c.args.sums.now g c.limits.ensures c.requires.sums (omega arith) (omega (arith, c.requires.sums.one_minimum_each, c.deref_mut.ensures.len)) in
    rw c.deref_mut.ensures.value (omega (arith, low, few))

pub plus-sums-requires : goal.plus-sums-requires
plus-sums-requires c =
    let few = c.limits.ensures.few_contracts in
    let set = c.args.set.now in
    let net = value_at c.args.nets.now c.args.i in
    let low = value_small set c.args.nets.now c.args.i c.args.sums.now c.limits.ensures c.requires.sums (omega arith) in
    let share = rw (c.contract_at-contract.ensures, c.at-net.ensures) at c.share_of_value.ensures in
    let small = value_share_small (length set.commodities) set.months (contract_at set.contracts c.args.i) net (c.limits.ensures.contracts c.args.i no_contract c.requires.contract) (c.requires.sums.of_nets.small c.args.i (pos 0) (omega (arith, c.requires.sums.of_nets.one_each, c.requires.contract))) in
    omega (arith, ints, low, few, share, small)

pub returns : goal.returns
returns c =
    let set = c.args.set.now in
    let nets = c.args.nets.now in
    let i = c.args.i in
    let are = c.requires.sums in
    let one_each = are.of_nets.one_each in
    let inside : i < length set.contracts = c.requires.contract in
    let sums = c.args.sums.now in
    let charges = with_items_is sums.minimums c.add_minimum.new.minimums (c.add_minimum.ensures.one_each ∙ c.deref_mut.ensures.len) in
    record {
      of_nets = are.of_nets;
      one_row_each = c.add_position.ensures.one_each ∙ are.one_row_each;
      one_delta_each = c.add_position-2.ensures.one_each ∙ are.one_delta_each;
      one_minimum_each = rw (charges, c.add_minimum.ensures.one_each, c.deref_mut.ensures.value) are.one_minimum_each;
      one_mark_each = length-set sums.marks.items c.contract_at-contract.result.now.commodity true ∙ are.one_mark_each;
      flat = flat_more set nets i c.contract_at-contract.result.now.commodity sums.marks.items (ap (λ (x : Contract). x.commodity) c.contract_at-contract.ensures) (omega (arith, are.one_mark_each, ap (λ (x : Contract). x.commodity) c.contract_at-contract.ensures, (c.limits.ensures.contracts i no_contract inside).commodity)) are.flat;
      totals = λ g s h k.
          let here : g < length sums.totals = omega (arith, h, are.one_row_each) in
          let added = rw c.at-net.ensures at (c.add_position.ensures.totals g s here k) in
          (omega (arith, ints, added, are.totals g s h k, position_sum_more (scenario_share g s) set.contracts nets i inside one_each));
      deltas = λ m h.
          let here : m < length sums.deltas = omega (arith, h, are.one_delta_each) in
          let added = rw (c.at-net.ensures, c.contract_at-contract.ensures) at (c.add_position-2.ensures.deltas m here) in
          (omega (arith, ints, added, are.deltas m h, position_sum_more (month_share m) set.contracts nets i inside one_each));
      minimums = λ g h.
          let here : g < length c.deref_mut.result.now = omega (arith, c.deref_mut.ensures.len, are.one_minimum_each) in
          let added = rw (c.deref_mut.ensures.value, c.at-net.ensures) at (c.add_minimum.ensures.minimums g here) in
          let share = short_share_of g (commodity_at set.commodities g).short_option_charge in
          rw charges (omega (arith, added, are.minimums g h, position_count_more share set.contracts nets i inside one_each));
      value =
          let share = rw (c.contract_at-contract.ensures, c.at-net.ensures) at c.share_of_value.ensures in
          omega (arith, ints, c.plus-sums.ensures, share, are.value, position_sum_more value_share set.contracts nets i inside one_each);
    }
