use Rattle.std.proofs.Common.{ap}
use Rattle.std.proofs.Math.Seq.{map-set_same}
use Rattle.std.proofs.lemmas.List.{map-set}
use Rattle.mgn_inter.specs.declared.commodity_numbers.CommodityNumbers.{CommodityNumbers}
use Rattle.mgn_inter.proofs.numbers.write_numbers.Goals as goal

pub returns-clause-deltas : goal.returns-clause-deltas
returns-clause-deltas c = map-set (λ (n : CommodityNumbers). n.delta) c.args.numbers.now c.args.g _

pub returns-clause-risks : goal.returns-clause-risks
returns-clause-risks c = map-set (λ (n : CommodityNumbers). n.risk) c.args.numbers.now c.args.g _

pub returns-clause-rests : goal.returns-clause-rests
returns-clause-rests c = map-set (λ (n : CommodityNumbers). n.rest) c.args.numbers.now c.args.g _

pub returns-clause-credits : goal.returns-clause-credits
returns-clause-credits c =
    let row = c.row_mut-row.result.now in
    map-set_same (λ (n : CommodityNumbers). n.credit) c.args.numbers.now c.args.g _ row (ap (λ (n : CommodityNumbers). n.credit) c.row_mut-row.ensures.value)
