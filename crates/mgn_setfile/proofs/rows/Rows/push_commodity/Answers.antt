use Rattle.std.proofs.Common.{◌∷◌, [], length, length-append}
use Rattle.mgn_params.specs.declared.tables.Contract.{Contract}
use Rattle.mgn_params.specs.declared.tables.Month.{Month}
use Rattle.mgn_params.specs.declared.tables.Spread.{Spread}
use Rattle.mgn_setfile.proofs.RowLemmas.{tally_commodity}
use Rattle.mgn_setfile.proofs.rows.Rows.push_commodity.Goals as goal

pub invariant_of-self-2 : goal.invariant_of-self-2
invariant_of-self-2 c =
    let i = c.self.invariant in
    let l = c.limits.ensures in
    let n = length c.self.inside.set.commodities in
    let more = length-append c.self.inside.set.commodities (c.args.commodity ∷ []) in
    let months = rw c.reserve.ensures.items at c.push_reserved.ensures.items in
    let contracts = rw c.reserve-2.ensures.items at c.push_reserved-2.ensures.items in
    let spreads = rw c.reserve-3.ensures.items at c.push_reserved-3.ensures.items in
    rw c.in_ok-push_commodity.ensures.ok (record {
      months = i.months;
      months_of = rw months (tally_commodity (λ (x : Month). x.commodity) c.self.inside.set.months n _ c.self.inside.months_of.items more (λ k d inside. (l.months k d inside).commodity) i.months_of);
      contracts_of = rw contracts (tally_commodity (λ (x : Contract). x.commodity) c.self.inside.set.contracts n _ c.self.inside.contracts_of.items more (λ k d inside. (l.contracts k d inside).commodity) i.contracts_of);
      spreads_of = rw spreads (tally_commodity (λ (x : Spread). x.commodity) c.self.inside.set.spreads n _ c.self.inside.spreads_of.items more (λ k d inside. (l.spreads k d inside).commodity) i.spreads_of);
    })
