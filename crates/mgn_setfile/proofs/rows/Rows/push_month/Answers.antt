use Rattle.std.proofs.Common.{◌∙◌, ◌<◌, arith, length, map, sym, ◌∷◌, []}
use Rattle.std.proofs.lemmas.List.{get_or_read, map-append}
use Rattle.mgn_params.specs.declared.tables.Month.{Month}
use Rattle.mgn_setfile.specs.Inside.{key_of}
use Rattle.mgn_setfile.proofs.RowLemmas.{month_new, pushed, tally_row}
use Rattle.mgn_setfile.proofs.rows.Rows.push_month.Goals as goal

pub invariant_of-self-2 : goal.invariant_of-self-2
invariant_of-self-2 c =
    let i = c.self.invariant in
    let next = rw (← c.self.view_is) at c.requires in
    let kept = c.in_ok-reserve.ensures.keys ∙ i.months in
    let room = c.in_ok-reserve.ensures.ok in
    let new = month_new (key_of c.args.month) c.self.inside.set.months next.new in
    let keys = pushed c.insert.result c.insert.new.self.keys c.reserve.new.self.keys (map key_of c.self.inside.set.months) (key_of c.args.month) (c.insert.ensures.succeeds room) c.insert.ensures.keys kept new in
    let inside : c.args.month.commodity < length c.self.inside.months_of.items = omega (arith, next.limits.commodity, i.months_of.all) in
    rw (c.in_ok-push_month.ensures.ok, get_or_read c.self.inside.months_of.items c.args.month.commodity _ inside c.index_mut.ensures.value 0) (record {
      months = keys ∙ sym (map-append key_of c.self.inside.set.months (c.args.month ∷ []));
      months_of = tally_row (λ (x : Month). x.commodity) c.self.inside.set.months c.args.month (length c.self.inside.set.commodities) c.self.inside.months_of.items next.limits.commodity i.months_of;
      contracts_of = i.contracts_of;
      spreads_of = i.spreads_of;
    })
