use Rattle.std.proofs.Common.{arith, List, [], ◌∷◌, ◌++◌, ap, ◌∙◌, sym, map}
use Rattle.std.specs.List.{range_with_len}
use Rattle.std.proofs.lemmas.List.FromFn.{map-range_with_len_more}
use Rattle.mgn_span.specs.Positions.{positions}
use Rattle.mgn_plain.specs.Figures.{commodity_figures}
use Rattle.mgn_plain.specs.declared.commodity.CommodityFigures.{CommodityFigures}
use Rattle.mgn_plain.proofs.calculation.list_figures.Goals as goal

pub loop-g-preserved : goal.loop-g-preserved
loop-g-preserved c = record {
  so_far = λ nets are.
      let figures = commodity_figures c.args.set.now (positions c.args.set.now.contracts nets) in
      c.push_reserved.ensures.items
      ∙ ap (λ (xs : List CommodityFigures). xs ++ c.figures_of.result ∷ []) (c.loop-g.invariant.so_far nets are)
      ∙ ap (λ (x : CommodityFigures). map figures (range_with_len 0 c.loop-g.g) ++ x ∷ []) (c.figures_of.ensures.figures nets are)
      ∙ sym (map-range_with_len_more figures 0 c.loop-g.g c.loop-g.g (omega arith));
  len = omega arith;
  room = omega arith;
}
