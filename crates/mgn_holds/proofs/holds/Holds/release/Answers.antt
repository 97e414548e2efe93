use Rattle.std.proofs.Common.{◌<◌, List, sym, subst, rules, arith, length, take, drop, suc, nat_eq, ◌≡◌, ◌∙◌}
use Rattle.std.specs.Prelude.{remove}
use Rattle.std.specs.List.{IsDistinct}
use Rattle.std.proofs.lemmas.List.{length-map}
use Rattle.std.proofs.lemmas.List.Elements.{All-append, All-take, All-drop}
use Rattle.std.proofs.lemmas.List.Edits.{length-remove}
use Rattle.mgn_holds.specs.declared.held.Held.{Held}
use Rattle.mgn_holds.specs.Holds.{IsHeld, IsHolds, orders_of}
use Rattle.mgn_holds.specs.Kept.{IsKept}
use Rattle.mgn_holds.proofs.Orders.{IsDistinct-remove, orders_of-remove}
use Rattle.mgn_holds.proofs.Rising.{orders-remove}
use Rattle.mgn_holds.proofs.holds.Holds.release.Goals.{then-self, else-self}
use Rattle.mgn_holds.proofs.holds.Holds.release.Goals as goal

pub invariant_of-self : goal.invariant_of-self
invariant_of-self c =
    let holds : List Held = c.self.inside.holds.items in
    let inside : c.args.place < length holds = search rules in
    let legal : IsHolds (remove holds c.args.place) = record {
      limits = All-append IsHeld (take c.args.place holds) (drop (suc c.args.place) holds) (All-take IsHeld c.args.place holds c.self.invariant.legal.limits) (All-drop IsHeld (suc c.args.place) holds c.self.invariant.legal.limits);
      few = omega (arith, c.self.invariant.legal.few, length-remove holds c.args.place inside);
      distinct = subst (IsDistinct nat_eq) (sym (orders_of-remove holds c.args.place)) (IsDistinct-remove (orders_of holds) c.args.place c.self.invariant.legal.distinct);
    } in
    let left : c.remove.new.self.items ≡ remove holds c.args.place = c.remove.ensures.items in
    let kept : IsKept (remove holds c.args.place) c.if-self.self = record {
      legal = legal;
      orders = elim c.if-self.branch [
        | then-self w ↦ λ _. orders-remove holds (c.self.invariant.orders (search rules)) c.args.place inside
        | else-self w ↦ λ yes k short.
            let none : length (remove holds c.args.place) ≡ 0 = search (rules, yes, left) in
            absurd (omega (arith, short, none, length-map (remove holds c.args.place) (λ (y : Held). y.order)))
      ];
      anew = elim c.if-self.branch [
        | then-self w ↦ λ _. search rules
        | else-self w ↦ λ none. search (rules, left ∙ none)
      ];
    } in
    subst (λ (xs : List Held). IsKept xs c.if-self.self) (sym left) kept
