use Rattle.std.proofs.Common.{◌≡◌, ◌∙◌, ◌+◌, ◌-◌, ℕ, ap, slice_index, slice_set, sym, refl}
use Rattle.std.proofs.Math.Seq.{map-set_same}
use Rattle.std.proofs.lemmas.List.{get_or-map, map-set}
use Rattle.mgn_inter.specs.Columns.{credits_in}
use Rattle.mgn_inter.specs.declared.commodity_numbers.CommodityNumbers.{CommodityNumbers}
use Rattle.mgn_inter.proofs.numbers.move_credit.Goals as goal

pub returns-clause-credits : goal.returns-clause-credits
returns-clause-credits c =
    let rows = c.args.numbers.now in
    let row = c.row_mut-row.result.now in
    let is : row.credit ≡ slice_index (credits_in rows) c.args.g = ap (λ (n : CommodityNumbers). n.credit) c.row_mut-row.ensures.value ∙ sym (get_or-map (λ (n : CommodityNumbers). n.credit) rows c.args.g row 0 c.requires.inside) in
    map-set (λ (n : CommodityNumbers). n.credit) rows c.args.g _
    ∙ ap (λ (x : ℕ). slice_set (credits_in rows) c.args.g (x - c.from.result + c.from-2.result)) is
    ∙ rw (c.from.ensures, c.from-2.ensures) refl

pub returns-clause-numbers : goal.returns-clause-numbers
returns-clause-numbers c =
    let rows = c.args.numbers.now in
    let row = c.row_mut-row.result.now in
    (map-set_same (λ (n : CommodityNumbers). n.delta) rows c.args.g _ row (ap (λ (n : CommodityNumbers). n.delta) c.row_mut-row.ensures.value), map-set_same (λ (n : CommodityNumbers). n.risk) rows c.args.g _ row (ap (λ (n : CommodityNumbers). n.risk) c.row_mut-row.ensures.value))

pub returns-clause-rests : goal.returns-clause-rests
returns-clause-rests c =
    map-set_same (λ (n : CommodityNumbers). n.rest) c.args.numbers.now c.args.g _ c.row_mut-row.result.now (ap (λ (n : CommodityNumbers). n.rest) c.row_mut-row.ensures.value)
