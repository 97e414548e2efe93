use Rattle.std.proofs.Common.{◌≡◌, ◌<◌, ◌∙◌, List, ap, subst, rules, length, get_or, Some}
use Rattle.mgn_holds.specs.declared.held.Held.{Held}
use Rattle.mgn_holds.specs.Holds.{place_of_order}
use Rattle.mgn_holds.proofs.Orders.{place_of_order-own}
use Rattle.mgn_holds.proofs.holds.Holds.at.Goals as goal

pub returns-clause-found : goal.returns-clause-found
returns-clause-found c =
    let holds : List Held = c.self.inside.holds.items in
    let x : Held = c.index.result.now in
    let inside : c.args.place < length holds = search rules in
    let at : x ≡ get_or holds c.args.place x = search rules in
    let own : place_of_order holds x.order ≡ Some c.args.place =
    ap (λ (y : Held). place_of_order holds y.order) at ∙ place_of_order-own holds c.args.place x c.self.invariant.legal.distinct inside
    in
    subst (λ (all : List Held). place_of_order all x.order ≡ Some c.args.place) c.self.view_is own
