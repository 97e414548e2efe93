use Rattle.std.proofs.Common.{◌≡◌, ◌∙◌, ap, length, pos, replicate, sym, ℕ}
use Rattle.std.proofs.lemmas.List.{length-map}
use Rattle.mgn_tiers.specs.Runs.{Tier}
use Rattle.mgn_tiers.specs.Tiers.{Tiers, no_tier}
use Rattle.mgn_tiers.proofs.TierLemmas.{tiers_none_of}
use Rattle.mgn_tiers.proofs.tiers.TierStages.flatten.Goals as goal

pub returns-clause-of_set : goal.returns-clause-of_set
returns-clause-of_set c =
    λ set' fits.
    let deltas : length c.self.inside.deltas.items ≡ length set'.months = ap (λ (t : Tiers). length t.deltas) c.self.view_is ∙ fits.deltas in
    let rows : length c.self.inside.rows ≡ length set'.commodities = sym (length-map c.self.inside.rows (λ (r : Tier). r.run)) ∙ ap (λ (t : Tiers). length t.runs) c.self.view_is ∙ fits.runs in
    tiers_none_of set' _ _ (c.fill.ensures ∙ ap (λ (n : ℕ). replicate n (pos 0)) deltas) (c.flatten.ensures ∙ ap (λ (n : ℕ). replicate n no_tier) rows)
