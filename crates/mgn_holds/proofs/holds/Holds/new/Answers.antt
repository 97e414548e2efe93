use Rattle.std.proofs.Common.{◌≡◌, [], List, sym, subst, rules, arith, nat_eq, true, refl}
use Rattle.std.proofs.lemmas.Map.Keys.{IsDistinct-from_apart}
use Rattle.mgn_holds.specs.declared.held.Held.{Held}
use Rattle.mgn_holds.specs.Kept.{IsKept}
use Rattle.mgn_holds.proofs.holds.Holds.new.Goals as goal

pub invariant_of-result : goal.invariant_of-result
invariant_of-result c =
    let empty : c.new.result.items ≡ [] = search rules in
    let none : IsKept [] true = record {
      legal = record {
        limits = λ i d inside. absurd (omega arith);
        few = omega arith;
        distinct = IsDistinct-from_apart nat_eq [] (λ i j d before inside. absurd (omega arith));
      };
      orders = λ _ k inside. absurd (omega (arith, inside));
      anew = λ _. refl;
    } in
    subst (λ (holds : List Held). IsKept holds true) (sym empty) none
