use Rattle.std.proofs.Common.{◌≡◌, ◌∙◌, ◌<◌, ◌≤◌, ◌++◌, ◌∷◌, [], List, ap, arith, length, refl, rules, subst, sym}
use Rattle.mgn_params.specs.Shelves.{ArePlaces}
use Rattle.mgn_params.specs.Tables.{Tables}
use Rattle.mgn_params.proofs.Shelved.{places-more, places-pushed, shelved, shelved-more}
use Rattle.mgn_params.proofs.shelf.SetListShelf.put.Goals as goal

pub invariant_of-self-in-Some : goal.invariant_of-self-in-Some
invariant_of-self-in-Some c =
    let sets = c.self.inside.sets.items in
    let places = c.self.inside.places.items in
    let p = c.in-Some.place in
    let few : length places ≤ 64 = search rules in
    let there : p < length sets = search rules in
    let small : p < 256 = omega (arith, few, there, c.self.invariant.once) in
    let all : c.push_reserved.new.self.items ≡ places ++ p ∷ [] = search rules in
    subst (ArePlaces sets) (sym all) (places-pushed sets places p c.self.invariant few there)

pub invariant_of-self-in-Ok : goal.invariant_of-self-in-Ok
invariant_of-self-in-Ok c =
    let sets = c.self.inside.sets.items in
    let places = c.self.inside.places.items in
    let few : length places ≤ 64 = search rules in
    let small : length sets < 256 = omega (arith, few, c.self.invariant.once) in
    let kept : c.push.new.self.items ≡ sets ++ c.args.set ∷ [] = search rules in
    let all : c.push_reserved-in-Ok.new.self.items ≡ places ++ length sets ∷ [] = search rules in
    subst (λ (xs : List Tables). ArePlaces xs c.push_reserved-in-Ok.new.self.items) (sym kept)
    (subst (ArePlaces (sets ++ c.args.set ∷ [])) (sym all) (places-more sets c.args.set places (length sets) c.self.invariant few refl))

pub returns-in-Ok-clause-put : goal.returns-in-Ok-clause-put
returns-in-Ok-clause-put c =
    let sets = c.self.inside.sets.items in
    let places = c.self.inside.places.items in
    let few : length places ≤ 64 = search rules in
    let small : length sets < 256 = omega (arith, few, c.self.invariant.once) in
    let kept : c.push.new.self.items ≡ sets ++ c.args.set ∷ [] = search rules in
    let all : c.push_reserved-in-Ok.new.self.items ≡ places ++ length sets ∷ [] = search rules in
    (λ i. shelved (kept i) (all i))
    ∙ shelved-more sets c.args.set places (length sets) c.self.invariant refl
    ∙ ap (λ (xs : List Tables). xs ++ c.args.set ∷ []) c.self.view_is
