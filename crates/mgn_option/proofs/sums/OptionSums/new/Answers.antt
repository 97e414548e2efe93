use Rattle.std.proofs.Common.{◌∙◌, ap, ℕ, refl, replicate}
use Rattle.mgn_option.proofs.SumsLemmas.{AreSums-flat}
use Rattle.mgn_option.proofs.sums.OptionSums.new.Goals as goal

pub returns : goal.returns
returns c =
    AreSums-flat c.args.set.now _ (c.in_ok-minimums.ensures ∙ ap (λ (n : ℕ). replicate n 0) c.commodity_count.ensures.value) refl
