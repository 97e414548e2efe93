use Rattle.std.proofs.Common.{◌≡◌, ◌∙◌, ap, arith, rules, sym}
use Rattle.std.proofs.lemmas.List.{get_or_default}
use Rattle.mgn_desk.specs.KeptRows.{no_row}
use Rattle.mgn_desk.specs.UnitLists.{either_row, no_own, own_at, own_of, row_before}
use Rattle.mgn_desk.specs.declared.portfolio.Portfolio.{Portfolio}
use Rattle.mgn_desk.specs.declared.portfolio.Portfolio.TheVariants.{Lots}
use Rattle.mgn_desk.proofs.KeptLemmas.{row_before_is}
use Rattle.mgn_desk.proofs.unit_lists.UnitLists.row.Goals as goal

pub returns-then-eq : goal.returns-then-eq
returns-then-eq c =
    let l = c.args.self.now in
    let g = c.args.g in
    let are = c.requires.1 in
    let lots : c.args.portfolio ≡ Lots = search rules in
    let row = c.row.ensures ∙ get_or_default l.rows g c.row.result.now no_row (omega (arith, are.rows, c.requires.2)) in
    row ∙ ap (λ (w : Portfolio). row_before w l g) (sym lots) ∙ row_before_is c.requires.0 c.args.portfolio l g are c.requires.2

pub returns-in-Some : goal.returns-in-Some
returns-in-Some c =
    let l = c.args.self.now in
    let g = c.args.g in
    let are = c.requires.1 in
    let own : c.row-2.result.now ≡ own_at l g = c.row-2.ensures ∙ get_or_default l.own g c.row-2.result.now no_own (omega (arith, are.own, c.requires.2)) in
    ap (either_row _) (c.in-Some.ensures ∙ ap (own_of c.args.portfolio) own) ∙ row_before_is c.requires.0 c.args.portfolio l g are c.requires.2

pub returns-in-None : goal.returns-in-None
returns-in-None c =
    let l = c.args.self.now in
    let g = c.args.g in
    let are = c.requires.1 in
    let own : c.row-2.result.now ≡ own_at l g = c.row-2.ensures ∙ get_or_default l.own g c.row-2.result.now no_own (omega (arith, are.own, c.requires.2)) in
    let row = c.row-in-None.ensures ∙ get_or_default l.rows g c.row-in-None.result.now no_row (omega (arith, are.rows, c.requires.2)) in
    row ∙ ap (either_row _) (c.in-None.ensures ∙ ap (own_of c.args.portfolio) own) ∙ row_before_is c.requires.0 c.args.portfolio l g are c.requires.2
