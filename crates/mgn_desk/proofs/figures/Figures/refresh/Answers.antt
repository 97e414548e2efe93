use Rattle.std.proofs.Common.{◌∙◌, ℤ, ap, arith, refl, slice_set, unsigned_abs}
use Rattle.mgn_span.specs.Scan.{price_risk2, value_at}
use Rattle.mgn_scan.proofs.TotalsLemmas.{price_risk2_is}
use Rattle.mgn_desk.specs.KeptRows.{KeptRow}
use Rattle.mgn_desk.specs.WorkedPortfolios.{row_of, worked}
use Rattle.mgn_desk.proofs.KeptLemmas.{row_is, rows_one_each}
use Rattle.mgn_desk.proofs.MoveLemmas.{net_delta_is}
use Rattle.mgn_desk.proofs.WorkedLemmas.{ready_after}
use Rattle.mgn_desk.proofs.figures.Figures.refresh.Goals as goal

pub returns-clause-ready : goal.returns-clause-ready
returns-clause-ready c =
    let t = c.args.set.now in
    let w = c.args.portfolio in
    let lists = c.args.lists.now in
    let g = c.args.g in
    let old = c.args.self.now in
    let p = worked w lists old in
    let behind = c.requires.behind in
    let low = c.requires.commodity in
    let row = c.row-row.ensures ∙ row_is w lists old g (omega (arith, low, rows_one_each t w lists c.requires.lists)) in
    let net = c.net_delta.ensures.value ∙ ap (λ (r : KeptRow). r.tier.net_delta) row ∙ behind.parts.tiers.nets g low ∙ net_delta_is t p g behind.parts in
    let risk = c.doubled_risk.ensures.doubled_risk ∙ ap (λ (r : KeptRow). price_risk2 (value_at r.scan)) row ∙ price_risk2_is t p.nets p.totals (row_of p g).scan g behind.parts.totals (omega (arith, low, behind.parts.totals.one_row_each)) refl in
    ready_after t p c.refresh.new.self g low behind c.refresh.ensures.of_set
    (c.refresh.ensures.net_deltas ∙ ap (λ (d : ℤ). slice_set old.credits.deltas g d) net)
    (c.refresh.ensures.price_risks ∙ ap (λ (r : ℤ). slice_set old.credits.risks g (unsigned_abs r)) risk)
