use Rattle.std.proofs.Common.{ap}
use Rattle.std.proofs.Math.Seq.{map-set_same}
use Rattle.std.proofs.lemmas.List.{map-set}
use Rattle.mgn_inter.specs.declared.commodity_numbers.CommodityNumbers.{CommodityNumbers}
use Rattle.mgn_inter.proofs.numbers.write_rest.Goals as goal

pub returns-clause-rests : goal.returns-clause-rests
returns-clause-rests c = map-set (λ (n : CommodityNumbers). n.rest) c.args.numbers.now c.args.g _

pub returns-clause-numbers : goal.returns-clause-numbers
returns-clause-numbers c =
    let rows = c.args.numbers.now in
    let row = c.row_mut.result.now in
    (map-set_same (λ (n : CommodityNumbers). n.delta) rows c.args.g _ row (ap (λ (n : CommodityNumbers). n.delta) c.row_mut.ensures.value), map-set_same (λ (n : CommodityNumbers). n.risk) rows c.args.g _ row (ap (λ (n : CommodityNumbers). n.risk) c.row_mut.ensures.value))

pub returns-clause-credits : goal.returns-clause-credits
returns-clause-credits c =
    map-set_same (λ (n : CommodityNumbers). n.credit) c.args.numbers.now c.args.g _ c.row_mut.result.now (ap (λ (n : CommodityNumbers). n.credit) c.row_mut.ensures.value)
