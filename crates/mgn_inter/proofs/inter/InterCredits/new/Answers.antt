use Rattle.std.proofs.Common.{◌∙◌, ℕ, List, ap, length, replicate}
use Rattle.mgn_params.specs.declared.tables.CreditSpread.{CreditSpread}
use Rattle.mgn_inter.specs.Columns.{no_numbers}
use Rattle.mgn_inter.specs.Rows.{nothing_kept}
use Rattle.mgn_inter.proofs.ColumnLemmas.{AreFlat, rows_flat}
use Rattle.mgn_inter.proofs.TurnLemmas.{credits_none}
use Rattle.mgn_inter.proofs.inter.InterCredits.new.Goals as goal
use Rattle.mgn_inter.proofs.inter.InterCredits.new.Goals.{In_ok-new-2}

flat : (c : In_ok-new-2) → AreFlat (length c.args.set.now.commodities) c.in_ok-new.field-0
flat c =
    rows_flat c.in_ok-new.field-0 (length c.args.set.now.commodities) (c.in_ok-new.ensures ∙ ap (λ (n : ℕ). replicate n no_numbers) c.commodity_count-count.ensures.value)

pub returns-clause-of_set : goal.returns-clause-of_set
returns-clause-of_set c =
    let spreads = ap (λ (ss : List CreditSpread). length ss) c.credits.ensures in
    credits_none c.args.set.now _ c.limits.ensures (flat c).deltas (flat c).risks (flat c).rests (flat c).credits (c.in_ok-new-2.ensures ∙ ap (λ (n : ℕ). replicate n nothing_kept) spreads)

pub returns-clause-net_deltas : goal.returns-clause-net_deltas
returns-clause-net_deltas c = (flat c).deltas

pub returns-clause-price_risks : goal.returns-clause-price_risks
returns-clause-price_risks c = (flat c).risks
