use Rattle.std.proofs.Common.{◌≡◌, ◌<◌, ◌++◌, ◌∷◌, [], List, sym, ap, subst, rules, arith, false, length, length-append, nat_eq, nat_le, true, true≢false, ◌∙◌, All}
use Rattle.std.specs.List.{IsDistinct}
use Rattle.std.specs.List.Sorted.{IsStrictlyIncreasing}
use Rattle.std.proofs.lemmas.Bool.Decides.{nat_tests}
use Rattle.std.proofs.lemmas.Cmp.{nat_eq_equiv}
use Rattle.std.proofs.lemmas.List.{map-append}
use Rattle.std.proofs.lemmas.List.Elements.{All-push}
use Rattle.std.proofs.lemmas.Map.Keys.{IsDistinct-push}
use Rattle.mgn_holds.specs.declared.held.Held.{Held}
use Rattle.mgn_holds.specs.Holds.{IsHeld, IsHolds, has_order, orders_of}
use Rattle.mgn_holds.specs.Kept.{IsKept}
use Rattle.mgn_holds.proofs.Orders.{absent-order}
use Rattle.mgn_holds.proofs.Rising.{orders-push}
use Rattle.mgn_holds.proofs.holds.Holds.add.Goals.{then-self, else-self}
use Rattle.mgn_holds.proofs.holds.Holds.add.Goals as goal

pub invariant_of-self-2 : goal.invariant_of-self-2
invariant_of-self-2 c =
    let holds : List Held = c.self.inside.holds.items in
    let x : Held = c.args.held.now in
    let absent : has_order holds x.order ≡ false = search rules in
    let short : nat_le 256 (length holds) ≡ false = search rules in
    let below : length holds < 256 = grind (arith, nat_tests) in
    let legal : IsHolds (holds ++ x ∷ []) = record {
      limits = All-push IsHeld holds x c.self.invariant.legal.limits c.requires.limits;
      few = omega (arith, below, length-append holds (x ∷ []));
      distinct =
          subst (IsDistinct nat_eq) (sym (map-append (λ (y : Held). y.order) holds (x ∷ [])))
          (IsDistinct-push nat_eq_equiv (orders_of holds) x.order c.self.invariant.legal.distinct (absent-order holds x.order x absent));
    } in
    let orders : c.if-self.rise ≡ true → IsStrictlyIncreasing (orders_of (holds ++ x ∷ [])) = elim c.if-self.branch [
      | then-self w ↦ λ yes.
          let rise = c.self.invariant.orders (search rules) in
          let above : All (λ n. n < x.order) (orders_of holds) =
          subst (λ (xs : List Held). All (λ n. n < x.order) (orders_of xs)) w.deref.ensures.value (w.is_above-rise.ensures.0 (search (rules, yes)))
          in
          orders-push holds rise x above
      | else-self w ↦ λ yes.
          let no : c.self.inside.rise ≡ false = search rules in
          absurd (true≢false (sym yes ∙ w.rise-is ∙ no))
    ]
    in
    let kept : IsKept (holds ++ x ∷ []) c.if-self.rise = record {
      legal = legal;
      orders = orders;
      anew = λ none. absurd (omega (arith, ap (length {A = Held}) none, length-append holds (x ∷ [])));
    } in
    subst (λ (xs : List Held). IsKept xs c.if-self.rise) (sym c.in_ok-push.ensures.items) kept
