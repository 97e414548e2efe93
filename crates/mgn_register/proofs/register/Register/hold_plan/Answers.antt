use Rattle.std.proofs.Common.{◌≡◌, ◌∙◌, ap, sym, subst}
use Rattle.mgn_unit.specs.declared.change.Change.{Change}
use Rattle.mgn_unit.specs.Changes.{hold_change}
use Rattle.mgn_unit.specs.Rows.{IsChange}
use Rattle.mgn_register.specs.BookStates.{BookState}
use Rattle.mgn_plan.specs.declared.plans.UnitChange.{UnitChange}
use Rattle.mgn_plan.specs.Plans.{CanChange, in_unit_of}
use Rattle.mgn_register.proofs.Possible.{hold-possible}
use Rattle.mgn_register.proofs.register.Register.hold_plan.Goals as goal

pub returns-clause-possible : goal.returns-clause-possible
returns-clause-possible c =
    let set' = c.args.set.now in
    let f : BookState = c.args.self.now in
    let k = c.in-Ok.place in
    let i = c.in-Ok.i in
    let h = c.args.hold.now in
    let is : c.in_unit_of.result ≡ in_unit_of f.state k (hold_change i h.quantity h.limit) = c.in_unit_of.ensures ∙ ap (in_unit_of f.state k) c.of_hold.ensures.change in
    subst (λ (u : UnitChange). CanChange set' f.rows u) (sym is)
    (hold-possible set' f k i h c.limits.ensures c.requires c.in-Ok.ensures.account c.in-Ok.ensures.stands c.in-Ok.ensures.room
    (subst (λ (x : Change). IsChange set' x) c.of_hold.ensures.change (c.of_hold.ensures.limits set' c.in-Ok.ensures.contract)))
