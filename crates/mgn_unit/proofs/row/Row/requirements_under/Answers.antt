use Rattle.std.proofs.Common.{subst, sym}
use Rattle.mgn_params.specs.Tables.{Tables}
use Rattle.mgn_nets.specs.Portfolios.{AreNets}
use Rattle.mgn_unit.specs.NewSets.{IsRequired}
use Rattle.mgn_unit.proofs.KeptPlaces.{kept-nets}
use Rattle.mgn_unit.proofs.row.Row.requirements_under.Goals as goal

pub required-requires : goal.required-requires
required-requires c =
    let side = c.args.self.now.lots in
    subst (λ (set : Tables). AreNets set side.nets) (sym c.new_set-set.ensures)
    (kept-nets c.args.switch.now.old c.args.switch.now.new side.nets c.requires.keeps record { one_each = c.requires.row.lots.one_each; small = c.requires.row.lots.nets })

pub required_beside-requires-clause-nets : goal.required_beside-requires-clause-nets
required_beside-requires-clause-nets c =
    let side = c.args.self.now.buys in
    subst (λ (set : Tables). AreNets set side.nets) (sym c.new_set-set.ensures)
    (kept-nets c.args.switch.now.old c.args.switch.now.new side.nets c.requires.keeps record { one_each = c.requires.row.buys.one_each; small = c.requires.row.buys.nets })

pub required_beside-requires-2-clause-nets : goal.required_beside-requires-2-clause-nets
required_beside-requires-2-clause-nets c =
    let side = c.args.self.now.sales in
    subst (λ (set : Tables). AreNets set side.nets) (sym c.new_set-set.ensures)
    (kept-nets c.args.switch.now.old c.args.switch.now.new side.nets c.requires.keeps record { one_each = c.requires.row.sales.one_each; small = c.requires.row.sales.nets })

pub required_beside-requires-3-clause-nets : goal.required_beside-requires-3-clause-nets
required_beside-requires-3-clause-nets c =
    let side = c.args.self.now.all in
    subst (λ (set : Tables). AreNets set side.nets) (sym c.new_set-set.ensures)
    (kept-nets c.args.switch.now.old c.args.switch.now.new side.nets c.requires.keeps record { one_each = c.requires.row.all.one_each; small = c.requires.row.all.nets })

pub returns : goal.returns
returns c = record {
  lots = subst (λ (set : Tables). IsRequired set c.args.self.now.lots.nets c.in_ok-lots.lots) c.new_set-set.ensures c.in_ok-lots.ensures;
  buys = subst (λ (set : Tables). IsRequired set c.args.self.now.buys.nets c.in_ok-buys.buys) c.new_set-set.ensures c.in_ok-buys.ensures.required;
  sales = subst (λ (set : Tables). IsRequired set c.args.self.now.sales.nets c.in_ok-sales.sales) c.new_set-set.ensures c.in_ok-sales.ensures.required;
  all = subst (λ (set : Tables). IsRequired set c.args.self.now.all.nets c.in_ok-all.all) c.new_set-set.ensures c.in_ok-all.ensures.required;
}

pub required_beside-requires-3-clause-others : goal.required_beside-requires-3-clause-others
required_beside-requires-3-clause-others c =
    c.priced_before_all-others.ensures c.new_set-set.result.now c.in_ok-lots.ensures c.in_ok-buys.ensures.required c.in_ok-sales.ensures.required
