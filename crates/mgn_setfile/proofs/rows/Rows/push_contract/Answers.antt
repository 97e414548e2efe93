use Rattle.std.proofs.Common.{◌<◌, arith, length}
use Rattle.std.proofs.lemmas.List.{get_or_read}
use Rattle.mgn_params.specs.declared.tables.Contract.{Contract}
use Rattle.mgn_setfile.proofs.RowLemmas.{tally_row}
use Rattle.mgn_setfile.proofs.rows.Rows.push_contract.Goals as goal

pub invariant_of-self-2 : goal.invariant_of-self-2
invariant_of-self-2 c =
    let i = c.self.invariant in
    let next = rw (← c.self.view_is) at c.requires in
    let inside : c.args.contract.commodity < length c.self.inside.contracts_of.items = omega (arith, next.limits.commodity, i.contracts_of.all) in
    rw (c.in_ok-push_contract.ensures.ok, get_or_read c.self.inside.contracts_of.items c.args.contract.commodity _ inside c.index_mut.ensures.value 0) (record {
      months = i.months;
      months_of = i.months_of;
      contracts_of = tally_row (λ (x : Contract). x.commodity) c.self.inside.set.contracts c.args.contract (length c.self.inside.set.commodities) c.self.inside.contracts_of.items next.limits.commodity i.contracts_of;
      spreads_of = i.spreads_of;
    })
