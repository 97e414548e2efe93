use Rattle.std.proofs.Common.{◌∙◌, ℕ, ap, length, replicate, sym}
use Rattle.std.proofs.lemmas.List.{length-map}
use Rattle.mgn_inter.specs.declared.commodity_numbers.CommodityNumbers.{CommodityNumbers}
use Rattle.mgn_inter.specs.Columns.{no_numbers}
use Rattle.mgn_inter.specs.CreditRows.{credited_of}
use Rattle.mgn_inter.specs.Credited.{AreCreditRows}
use Rattle.mgn_inter.specs.Rows.{nothing_kept}
use Rattle.mgn_inter.proofs.ColumnLemmas.{AreFlat, rows_flat}
use Rattle.mgn_inter.proofs.TurnLemmas.{credits_none}
use Rattle.mgn_inter.proofs.inter.InterCredits.flatten.Goals as goal
use Rattle.mgn_inter.proofs.inter.InterCredits.flatten.Goals.{After-flatten-2}

fits : (c : After-flatten-2) → AreCreditRows c.args.set.now (credited_of c.self.inside)
fits c = rw c.self.view_is c.requires

flat : (c : After-flatten-2) → AreFlat (length c.args.set.now.commodities) c.flatten.new.self
flat c =
    let long = sym (length-map c.self.inside.numbers (λ (n : CommodityNumbers). n.delta)) ∙ (fits c).deltas in
    rows_flat c.flatten.new.self (length c.args.set.now.commodities) (c.flatten.ensures ∙ ap (λ (n : ℕ). replicate n no_numbers) long)

pub returns-clause-of_set : goal.returns-clause-of_set
returns-clause-of_set c =
    credits_none c.args.set.now _ c.limits.ensures (flat c).deltas (flat c).risks (flat c).rests (flat c).credits (c.flatten-2.ensures ∙ ap (λ (n : ℕ). replicate n nothing_kept) (fits c).kept)

pub returns-clause-net_deltas : goal.returns-clause-net_deltas
returns-clause-net_deltas c = (flat c).deltas

pub returns-clause-price_risks : goal.returns-clause-price_risks
returns-clause-price_risks c = (flat c).risks
