use Rattle.std.proofs.Common.{◌∙◌, ◌<◌, ◌∷◌, ◌++◌, [], ℕ, List, All, ap, subst, sym}
use Rattle.mgn_inter.proofs.PlacesLemmas.{places_set}
use Rattle.mgn_inter.proofs.reworked.Reworked.tell.Goals as goal

pub returns-then-is_told : goal.returns-then-is_told
returns-then-is_told c =
    let place = c.args.place in
    let behind = subst (λ (xs : List ℕ). All (λ i. i < place) xs) (sym c.self.view_is) c.requires.behind in
    rw c.if-is_told.true (places_set c.self.inside.places place c.requires.place behind ∙ ap (λ (xs : List ℕ). xs ++ place ∷ []) c.self.view_is)
