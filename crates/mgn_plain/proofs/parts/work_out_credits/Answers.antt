use Rattle.mgn_params.specs.declared.tables.CreditSpread.{CreditSpread}
use Rattle.std.proofs.Common.{◌≡◌, ℕ, List, ap, ◌∙◌, length, replicate, arith, sym}
use Rattle.mgn_plain.proofs.FlatLemmas.{totals_none}
use Rattle.mgn_plain.proofs.PartLemmas.{credit_numbers, credits_are, if_ok_along, no_credits}
use Rattle.mgn_plain.proofs.parts.work_out_credits.Goals as goal

pub price_risks-requires-clause-one_each : goal.price_risks-requires-clause-one_each
price_risks-requires-clause-one_each c =
    rw c.deref.ensures.value (c.requires.2.marks.one_each ∙ sym c.requires.2.totals.one_row_each)

pub price_risks-requires-clause-flat : goal.price_risks-requires-clause-flat
price_risks-requires-clause-flat c =
    rw c.deref.ensures.value (totals_none c.args.set.now c.requires.0 c.args.sums.now.totals c.args.sums.now.marks.items c.requires.2.totals c.requires.2.marks)

pub credit_row-requires-clause-numbers : goal.credit_row-requires-clause-numbers
credit_row-requires-clause-numbers c =
    let risks = c.in_ok-risks.ensures in
    rw c.deref-2.ensures.value (credit_numbers c.args.set.now c.requires.0 c.args.deltas.now c.args.sums.now.totals c.in_ok-risks.risks.items c.limits.ensures c.requires.1 c.requires.2.totals risks)

pub returns : goal.returns
returns c =
    let risks = c.in_ok-risks.ensures in
    if_ok_along c.credit_row.result _ _
    (λ row from nets are summed. credits_are c.args.set.now nets c.args.deltas.now c.args.sums.now.totals c.deref-2.result.now row.items are summed.totals (rw c.deref-2.ensures.value risks) from)
    c.credit_row.ensures

pub returns-then-is_empty : goal.returns-then-is_empty
returns-then-is_empty c =
    let none : length c.args.set.now.credits ≡ 0 = grind (arith, ap (λ (xs : List CreditSpread). length xs) c.credits.ensures) in
    if_ok_along c.filled.result _ _
    (λ row zeros nets are summed. no_credits c.args.set.now nets row.items none (zeros ∙ ap (λ (n : ℕ). replicate n 0) c.commodity_count.ensures.value))
    c.filled.ensures
