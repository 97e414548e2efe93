use Rattle.std.proofs.Common.{◌∙◌, ap, ℤ, List, filter}
use Rattle.mgn_lots.specs.declared.lot.Lot.{Lot}
use Rattle.mgn_lots.specs.Lots.{is_live}
use Rattle.mgn_coll.specs.Posted.{Posted}
use Rattle.mgn_machine.specs.Statements.{class_lines}
use Rattle.mgn_statement.proofs.Lists.{same_told}
use Rattle.mgn_statement.specs.Statement.{heading_by}
use Rattle.mgn_statement.proofs.build.statement.Goals as goal

-- src/build.rt:76:1
pub returns : goal.returns
returns c =
    let set' = c.args.set.now in
    let heading = c.heading-heading.ensures ∙ ap (λ (v : ℤ). heading_by set' c.args.version c.args.origin.now c.args.account.now c.args.row.now v) c.in_ok-commodities.ensures.value in
    let lots = c.in_ok-lots.ensures ∙ ap (λ (l : List Lot). filter (λ (x : Lot). is_live x.mark) l) c.lots.ensures in
    let holds = c.in_ok-holds.ensures.items ∙ c.holds.ensures in
    let classes = c.in_ok-classes.ensures ∙ ap (λ (p : Posted). class_lines set'.classes p.units) c.collateral.ensures in
    c.new.ensures ∙ same_told heading c.in_ok-commodities.ensures.lines lots holds classes
