use Rattle.std.proofs.Common.{◌≡◌, ◌∙◌, ap, false, Bool, List, sym}
use Rattle.mgn_plain.specs.Kept.{mark_at}
use Rattle.mgn_plain.proofs.FlatLemmas.{risk_none}
use Rattle.mgn_plain.proofs.calculation.risk_at.Goals as goal

pub returns-then-not-mark_at-clause-risk : goal.returns-then-not-mark_at-clause-risk
returns-then-not-mark_at-clause-risk c = λ nets are.
    let none : mark_at c.args.rows.now.sums.marks.items c.args.commodity ≡ false =
    sym (c.mark_at.ensures ∙ ap (λ (marks : List Bool). mark_at marks c.args.commodity) c.deref.ensures.value) ∙ c.if-not-mark_at.true in
    sym (risk_none c.args.set.now nets c.args.commodity c.limits.ensures are.sums.totals.of_nets (λ k. are.sums.marks.flat c.args.commodity k none))
