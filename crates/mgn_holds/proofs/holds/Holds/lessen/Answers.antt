use Rattle.std.proofs.Common.{◌≡◌, ◌≢◌, ◌<◌, List, sym, ap, ◌∙◌, subst, rules, arith, true, length, length-set, get_or, nat_eq}
use Rattle.std.specs.Prelude.{ℤ, ◌-ℤ◌, slice_set}
use Rattle.std.specs.List.{IsDistinct}
use Rattle.std.specs.List.Sorted.{IsStrictlyIncreasing}
use Rattle.std.proofs.lemmas.Int.{ints}
use Rattle.std.proofs.lemmas.List.{get_or_default}
use Rattle.std.proofs.lemmas.List.Elements.{All-set}
use Rattle.std.proofs.Math.Seq.{map-set_same}
use Rattle.mgn_holds.specs.declared.held.Held.{Held}
use Rattle.mgn_holds.specs.Kept.{IsKept}
use Rattle.mgn_holds.specs.Holds.{IsHeld, IsHolds, covers, no_hold, lessened, orders_of}
use Rattle.mgn_holds.proofs.Costs.{lessened-IsHeld}
use Rattle.mgn_holds.proofs.holds.Holds.lessen.Goals as goal

pub invariant_of-self : goal.invariant_of-self
invariant_of-self c =
    let holds : List Held = c.self.inside.holds.items in
    let x : Held = c.index_mut-held.result.now in
    let q : ℤ = c.args.quantity in
    let inside : c.args.place < length holds = search rules in
    let at : x ≡ get_or holds c.args.place x = c.index_mut-held.ensures.value in
    let here : x ≡ get_or holds c.args.place no_hold = at ∙ get_or_default holds c.args.place x no_hold inside in
    let limits : IsHeld x = subst IsHeld (sym at) (c.self.invariant.legal.limits c.args.place x inside) in
    let wanted : covers (get_or holds c.args.place no_hold) q ≡ true = search rules in
    let covered : covers x q ≡ true = ap (λ (y : Held). covers y q) here ∙ wanted in
    let apart : q ≢ (get_or holds c.args.place no_hold).quantity = search rules in
    let part : q ≢ x.quantity = λ e. apart (e ∙ ap (λ (y : Held). y.quantity) here) in
    let left : c.plus-held.result ≡ x.quantity -ℤ q = omega (arith, ints, c.plus-held.ensures, c.negated.ensures) in
    let orders : orders_of (slice_set holds c.args.place (lessened x q)) ≡ orders_of holds =
    map-set_same (λ (y : Held). y.order) holds c.args.place (lessened x q) x (ap (λ (y : Held). y.order) at)
    in
    let legal : IsHolds (slice_set holds c.args.place (lessened x q)) = record {
      limits = All-set IsHeld holds c.args.place (lessened x q) (lessened-IsHeld x q limits covered part) c.self.invariant.legal.limits;
      few = omega (arith, c.self.invariant.legal.few, length-set {A = Held});
      distinct = subst (IsDistinct nat_eq) (sym orders) c.self.invariant.legal.distinct;
    } in
    let kept : IsKept (slice_set holds c.args.place (lessened x q)) c.self.inside.rise = record {
      legal = legal;
      orders = λ rise. subst IsStrictlyIncreasing (sym orders) (c.self.invariant.orders rise);
      anew = λ none. absurd (omega (arith, inside, ap (length {A = Held}) none, length-set {A = Held}));
    } in
    subst (λ (z : ℤ). IsKept (slice_set holds c.args.place (record x { quantity = z })) c.self.inside.rise) (sym left) kept
