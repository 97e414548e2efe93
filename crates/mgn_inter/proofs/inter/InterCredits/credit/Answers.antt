use Rattle.std.proofs.Common.{rules, ◌≡◌, ◌∙◌, ℕ, List, ap, pos, slice_index}
use Rattle.mgn_inter.proofs.inter.InterCredits.credit.Goals as goal

pub returns-clause-value : goal.returns-clause-value
returns-clause-value c =
    λ set' are.
    let is : c.new.result ≡ pos c.credited.result = search rules in
    is ∙ ap pos (c.credited.ensures.value ∙ ap (λ (row : List ℕ). slice_index row c.args.g) are.credits)
