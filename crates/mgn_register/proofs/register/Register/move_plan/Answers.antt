use Rattle.std.proofs.Common.{◌≡◌, ◌∙◌, ap, sym, subst}
use Rattle.std.specs.Prelude.{neg_ℤ}
use Rattle.mgn_ids.specs.Amounts.{IsLotQuantity}
use Rattle.mgn_unit.specs.declared.change.Change.{Change}
use Rattle.mgn_unit.specs.Changes.{moved_change}
use Rattle.mgn_unit.specs.Rows.{IsChange}
use Rattle.mgn_register.specs.BookStates.{BookState}
use Rattle.mgn_plan.specs.declared.plans.Plan.{Plan}
use Rattle.mgn_plan.specs.Plans.{CanChange, IsPossible, both_plan, in_unit_of}
use Rattle.mgn_register.proofs.Moving.{Moving, giver-takes, inside-set, taker-takes}
use Rattle.mgn_register.proofs.Possible.{both-possible}
use Rattle.mgn_register.proofs.register.Register.move_plan.Goals as goal

pub returns-clause-possible : goal.returns-clause-possible
returns-clause-possible c =
    let set' = c.args.set.now in
    let f : BookState = c.args.self.now in
    let m = c.args.transfer.now in
    let g = c.in-Ok.from in
    let t = c.in-Ok.to in
    let i = c.in-Ok.i in
    let moving : Moving set' f g t i m = record {
      within = c.limits.ensures;
      kept = c.requires;
      giver = c.in-Ok.ensures.giver;
      taker = c.in-Ok.ensures.taker;
      apart = c.in-Ok.ensures.apart;
      stands = c.in-Ok.ensures.stands;
      giver_few = c.in-Ok.ensures.giver_few;
      taker_few = c.in-Ok.ensures.taker_few;
      giver_room = c.in-Ok.ensures.giver_room;
      taker_room = c.in-Ok.ensures.taker_room;
      quantity = subst IsLotQuantity c.quantity-quantity.ensures.value c.quantity-quantity.ensures.limits;
    } in
    let inside = inside-set set' f g t i m moving in
    let given : c.of_moved.result ≡ moved_change i (neg_ℤ m.quantity) = c.of_moved.ensures.change ∙ ap (moved_change i) (c.negated.ensures ∙ ap neg_ℤ c.quantity-quantity.ensures.value) in
    let taken : c.of_moved-2.result ≡ moved_change i m.quantity = c.of_moved-2.ensures.change ∙ ap (moved_change i) c.quantity-quantity.ensures.value in
    let giver = giver-takes set' f g t i m moving (subst (λ (x : Change). IsChange set' x) given (c.of_moved.ensures.limits set' inside)) in
    let taker = taker-takes set' f g t i m moving (subst (λ (x : Change). IsChange set' x) taken (c.of_moved-2.ensures.limits set' inside)) in
    let u = in_unit_of f.state g (moved_change i (neg_ℤ m.quantity)) in
    let v = in_unit_of f.state t (moved_change i m.quantity) in
    let can_give : CanChange set' f.rows u = record { inside = giver.inside; row = giver.row; change = giver.change; roomy = giver.roomy } in
    let can_take : CanChange set' f.rows v = record { inside = taker.inside; row = taker.row; change = taker.change; roomy = taker.roomy } in
    let giver_is : c.in_unit_of.result ≡ u = c.in_unit_of.ensures ∙ ap (in_unit_of f.state g) given in
    let taker_is : c.in_unit_of-2.result ≡ v = c.in_unit_of-2.ensures ∙ ap (in_unit_of f.state t) taken in
    subst (λ (p : Plan). IsPossible set' f.rows p) (sym (c.both.ensures ∙ (λ j. both_plan (giver_is j) (taker_is j))))
    (both-possible set' f.rows u v can_give can_take)
