use Rattle.std.proofs.Common.{◌<◌, ◌∙◌, arith, sym}
use Rattle.mgn_inter.proofs.PlacesLemmas.{places_all_passed, places_first}
use Rattle.mgn_inter.proofs.reworked.Reworked.pop_first.Goals as goal

pub returns-then-place-eq64-clause-none : goal.returns-then-place-eq64-clause-none
returns-then-place-eq64-clause-none c =
    λ is_none.
    let none = sym c.self.view_is ∙ places_all_passed c.self.inside.places (λ k low. c.first_place-place.ensures.passed k (omega (arith, low, c.if-place-eq64.true))) in
    (none, none)

pub returns-clause-some : goal.returns-clause-some
returns-clause-some c =
    let place = c.first_place-place.result in
    let inside : place < 64 = omega (arith, c.first_place-place.ensures.few, c.if-place-eq64.false) in
    sym c.self.view_is ∙ places_first c.self.inside.places place inside c.first_place-place.ensures.passed (c.first_place-place.ensures.here inside)
