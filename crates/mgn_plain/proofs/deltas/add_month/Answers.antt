use Rattle.std.proofs.Common.{arith, length, ◌<◌, ◌∙◌}
use Rattle.std.proofs.lemmas.Int.{ints}
use Rattle.std.proofs.lemmas.List.{with_items_is}
use Rattle.mgn_num.proofs.SignedLemmas.{signed_sum_below_more, sum_below_more}
use Rattle.mgn_span.specs.MonthDeltas.{leg_share, net_share_by}
use Rattle.mgn_plain.proofs.DeltaLemmas.{net_room, start_small_to}
use Rattle.mgn_plain.proofs.deltas.add_month.Goals as goal

pub add_start-requires-clause-room : goal.add_start-requires-clause-room
add_start-requires-clause-room c = λ g leg h k.
    (start_small_to c.args.set.now c.requires.deltas.0 c.args.deltas.now c.args.m c.args.sums.now g leg c.limits.ensures c.requires.deltas.1 c.requires.sums (omega arith) (omega (arith, c.requires.sums.one_row_each, h)) k)

pub add_net-requires-clause-room : goal.add_net-requires-clause-room
add_net-requires-clause-room c =
    rw (c.deref_mut.ensures.value, c.ten_thousandths-delta.ensures.value, c.month_delta_at.ensures, c.month_at-month.ensures) (net_room c.args.set.now c.requires.deltas.0 c.args.deltas.now c.args.m c.args.sums.now c.limits.ensures c.requires.deltas.1 c.requires.sums c.requires.month)

pub returns : goal.returns
returns c =
    let set = c.args.set.now in
    let deltas = c.args.deltas.now in
    let m = c.args.m in
    let are = c.requires.sums in
    let sums = c.args.sums.now in
    let row = with_items_is sums.nets c.add_net.new.nets (c.add_net.ensures.one_each ∙ c.deref_mut.ensures.len) in
    record {
      one_row_each = c.add_start.ensures.one_each ∙ are.one_row_each;
      one_net_each = rw (row, c.add_net.ensures.one_each, c.deref_mut.ensures.value) are.one_net_each;
      sixteen = λ g h.
          let here : g < length sums.starts = omega (arith, h, are.one_row_each) in
          c.add_start.ensures.as_long g here ∙ are.sixteen g h;
      starts = λ g leg h k.
          let here : g < length sums.starts = omega (arith, h, are.one_row_each) in
          let added = rw (c.ten_thousandths-delta.ensures.value, c.month_delta_at.ensures, c.month_at-month.ensures) at (c.add_start.ensures.starts g leg here k) in
          (omega (arith, added, are.starts g leg h k, sum_below_more (leg_share set.months deltas g leg) m));
      nets = λ g h.
          let here : g < length c.deref_mut.result.now = omega (arith, c.deref_mut.ensures.len, are.one_net_each) in
          let added = rw (c.deref_mut.ensures.value, c.ten_thousandths-delta.ensures.value, c.month_delta_at.ensures, c.month_at-month.ensures) at (c.add_net.ensures.nets g here) in
          rw row (omega (arith, ints, added, are.nets g h, signed_sum_below_more (net_share_by set.months deltas g) m));
    }
