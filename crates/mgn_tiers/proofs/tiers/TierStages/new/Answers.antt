use Rattle.std.proofs.Common.{◌∙◌, ap, pos, replicate, ℕ}
use Rattle.mgn_tiers.specs.Tiers.{no_tier}
use Rattle.mgn_tiers.proofs.TierLemmas.{tiers_none_of}
use Rattle.mgn_tiers.proofs.tiers.TierStages.new.Goals as goal

pub returns-clause-of_set : goal.returns-clause-of_set
returns-clause-of_set c =
    tiers_none_of c.args.set.now _ _ (c.in_ok-filled.ensures ∙ ap (λ (n : ℕ). replicate n (pos 0)) c.month_count.ensures.value) (c.in_ok-new.ensures ∙ ap (λ (n : ℕ). replicate n no_tier) c.commodity_count.ensures.value)
