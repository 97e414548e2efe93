use Rattle.std.proofs.Common.{◌≡◌, ◌∙◌, ap, sym, subst}
use Rattle.mgn_unit.specs.declared.change.Change.{Change}
use Rattle.mgn_unit.specs.Changes.{lot_change}
use Rattle.mgn_unit.specs.Rows.{IsChange}
use Rattle.mgn_register.specs.BookStates.{BookState}
use Rattle.mgn_plan.specs.declared.plans.UnitChange.{UnitChange}
use Rattle.mgn_plan.specs.Plans.{CanChange, in_unit_of}
use Rattle.mgn_register.proofs.Possible.{trade-possible}
use Rattle.mgn_register.proofs.register.Register.trade_plan.Goals as goal

pub returns-clause-possible : goal.returns-clause-possible
returns-clause-possible c =
    let set' = c.args.set.now in
    let f : BookState = c.args.self.now in
    let k = c.in-Ok.place in
    let i = c.in-Ok.i in
    let t = c.args.trade.now in
    let is : c.in_unit_of.result ≡ in_unit_of f.state k (lot_change i t.quantity t.premium) = c.in_unit_of.ensures ∙ ap (in_unit_of f.state k) c.of_lot.ensures.change in
    subst (λ (u : UnitChange). CanChange set' f.rows u) (sym is)
    (trade-possible set' f k i t c.limits.ensures c.requires c.in-Ok.ensures.account c.in-Ok.ensures.stands c.in-Ok.ensures.room
    (subst (λ (x : Change). IsChange set' x) c.of_lot.ensures.change (c.of_lot.ensures.limits set' c.in-Ok.ensures.contract)))
