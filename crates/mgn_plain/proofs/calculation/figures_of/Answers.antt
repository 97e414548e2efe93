use Rattle.std.proofs.Common.{◌∙◌, ap, ℕ, ℤ, List, pos}
use Rattle.std.specs.Prelude.{slice_index}
use Rattle.mgn_span.specs.Scan.{value_at}
use Rattle.mgn_span.specs.Spot.{spot_charge_from, spot_of}
use Rattle.mgn_span.specs.Stages.{charges_of, left_by, stages_of}
use Rattle.mgn_plain.specs.Scans.{scanned}
use Rattle.mgn_plain.proofs.PartLemmas.{figures_are}
use Rattle.mgn_plain.proofs.calculation.figures_of.Goals as goal

pub returns-clause-figures : goal.returns-clause-figures
returns-clause-figures c =
    λ nets are.
    let row = c.totals_row.ensures in
    let starts = c.starts_row.ensures in
    let stages = stages_of c.args.set.now.spreads c.args.commodity in
    figures_are c.args.set.now nets c.args.rows.now c.args.commodity c.scan_figures-scan.result _ _ _ _ _ are c.requires.commodity
    (c.scan_figures-scan.ensures.figures ∙ ap (λ (xs : List ℤ). scanned (value_at xs)) row)
    (c.charges_by-charges.ensures.intra ∙ ap (λ (xs : List ℕ). pos (charges_of xs stages)) starts)
    (c.charges_by-charges.ensures.spot ∙ ap (λ (xs : List ℕ). pos (spot_charge_from xs (left_by xs stages) (spot_of c.args.set.now.spots c.args.commodity))) starts)
    (c.cents_at-credit.ensures ∙ ap (λ (row : List ℕ). pos (slice_index row c.args.commodity)) c.deref.ensures.value)
    (c.cents_at-minimum.ensures ∙ ap (λ (row : List ℕ). pos (slice_index row c.args.commodity)) c.deref-2.ensures.value)
    c.risk_of.ensures.risk
