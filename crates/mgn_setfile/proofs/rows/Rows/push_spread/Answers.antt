use Rattle.std.proofs.Common.{◌<◌, arith, length}
use Rattle.std.proofs.lemmas.List.{get_or_read}
use Rattle.mgn_params.specs.declared.tables.Spread.{Spread}
use Rattle.mgn_setfile.proofs.RowLemmas.{tally_row}
use Rattle.mgn_setfile.proofs.rows.Rows.push_spread.Goals as goal

pub invariant_of-self-2 : goal.invariant_of-self-2
invariant_of-self-2 c =
    let i = c.self.invariant in
    let next = rw (← c.self.view_is) at c.requires in
    let inside : c.args.spread.commodity < length c.self.inside.spreads_of.items = omega (arith, next.limits.commodity, i.spreads_of.all) in
    rw (c.in_ok-push_spread.ensures.ok, get_or_read c.self.inside.spreads_of.items c.args.spread.commodity _ inside c.index_mut.ensures.value 0) (record {
      months = i.months;
      months_of = i.months_of;
      contracts_of = i.contracts_of;
      spreads_of = tally_row (λ (x : Spread). x.commodity) c.self.inside.set.spreads c.args.spread (length c.self.inside.set.commodities) c.self.inside.spreads_of.items next.limits.commodity i.spreads_of;
    })
