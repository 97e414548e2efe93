use Rattle.std.proofs.Common.{◌≡◌, ◌∙◌, ℕ, ap, length, refl, replicate}
use Rattle.mgn_option.specs.Sums.{Sums}
use Rattle.mgn_option.proofs.SumsLemmas.{AreSums-flat}
use Rattle.mgn_option.proofs.sums.OptionSums.flatten.Goals as goal

pub returns : goal.returns
returns c =
    λ set' fits.
    let long : length c.self.inside.minimums.items ≡ length set'.commodities = ap (λ (s : Sums). length s.minimums) c.self.view_is ∙ fits in
    AreSums-flat set' _ (c.fill.ensures ∙ ap (λ (n : ℕ). replicate n 0) long) refl
