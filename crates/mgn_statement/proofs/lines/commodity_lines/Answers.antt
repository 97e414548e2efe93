use Rattle.std.proofs.Common.{◌≡◌, ◌<◌, ◌≤◌, ◌∙◌, ◌++◌, ◌∷◌, [], Bool, List, ap, arith, false, filter, length, length-append, map, sym, take, true}
use Rattle.std.specs.List.{range_with_len}
use Rattle.std.proofs.lemmas.List.{get_or-take, length-take-le}
use Rattle.std.proofs.lemmas.List.Sums.{count_by_more_no, count_by_more_yes}
use Rattle.mgn_machine.specs.declared.statement.CommodityLine.{CommodityLine}
use Rattle.mgn_machine.specs.Statements.{commodity_line, is_held}
use Rattle.mgn_plain.specs.declared.commodity.CommodityFigures.{CommodityFigures}
use Rattle.mgn_plain.specs.Figures.{commodity_figures}
use Rattle.mgn_span.specs.Positions.{positions}
use Rattle.mgn_statement.specs.Statement.{line_by}
use Rattle.mgn_statement.proofs.Lists.{kept_number, left_number}
use Rattle.mgn_statement.proofs.lines.commodity_lines.Goals as goal
use Rattle.mgn_statement.proofs.lines.commodity_lines.Goals.{then-held-commodity+in_ok-push, else-held-commodity}

pub loop-commodity-preserved : goal.loop-commodity-preserved
unfolding commodity_figures
loop-commodity-preserved c =
    let set' = c.args.set.now in
    let held = positions c.args.set.now.contracts c.args.nets.now in
    let all = c.held_commodities-marks.result in
    let n = c.commodity_count.result in
    let marks = take n all in
    let g = c.loop-commodity.commodity in
    let was = c.loop-commodity.invariant in
    let line = commodity_line c.args.set.now held in
    let few : n ≤ length all = omega (arith, c.held_commodities-marks.ensures.long, c.commodity_count.ensures.few) in
    let below : g < n = omega (arith, c.commodity_count.ensures.value, c.commodity_count-commodity-end.ensures.value) in
    let inside : g < length marks = omega (arith, below, length-take-le n all few) in
    let same = sym (c.held_commodities-marks.ensures.held g) ∙ sym (get_or-take n all g false below) in
    elim c.if-held-commodity.branch [
      | then-held-commodity+in_ok-push w ↦
          let marked : is_held held g ≡ true = same ∙ w.if-held-commodity.true in
          let figures : w.commodity.result ≡ commodity_figures set' held g = rw c.requires.figures at w.commodity.ensures.figures in
          let told : w.line_of.result ≡ line g = w.line_of.ensures ∙ ap (λ (f : CommodityFigures). line_by set' g f) figures in
          rw w.lines-is (record {
            so_far =
                w.in_ok-push.ensures.ok
                ∙ ap (λ (xs : List CommodityLine). xs ++ w.line_of.result ∷ []) was.so_far
                ∙ ap (λ (x : CommodityLine). map line (filter (is_held held) (range_with_len 0 g)) ++ x ∷ []) told
                ∙ sym (kept_number line (is_held held) g marked);
            len = omega (arith, ap length w.in_ok-push.ensures.ok, length-append c.loop-commodity.lines (w.line_of.result ∷ []), was.len, count_by_more_yes (λ (mark : Bool). mark) marks g _ inside w.if-held-commodity.true);
          })
      | else-held-commodity w ↦
          let unmarked : is_held held g ≡ false = same ∙ w.if-held-commodity.false in
          rw w.lines-is (record {
            so_far = was.so_far ∙ sym (left_number line (is_held held) g unmarked);
            len = was.len ∙ sym (count_by_more_no (λ (mark : Bool). mark) marks g _ inside w.if-held-commodity.false);
          })
    ]
