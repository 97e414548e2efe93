use Rattle.std.proofs.Common.{◌≡◌, ◌<◌, ◌∙◌, ap, sym, subst, rules, length}
use Rattle.std.proofs.lemmas.List.{get_or_default}
use Rattle.mgn_holds.specs.declared.held.Held.{Held}
use Rattle.mgn_holds.specs.Holds.{hold_at}
use Rattle.mgn_machine.specs.State.{AccountState, account_at, no_account}
use Rattle.mgn_unit.specs.declared.change.Change.{Change}
use Rattle.mgn_unit.specs.Changes.{fill_change}
use Rattle.mgn_unit.specs.Rows.{IsChange}
use Rattle.mgn_register.specs.BookStates.{BookState}
use Rattle.mgn_plan.specs.declared.plans.UnitChange.{UnitChange}
use Rattle.mgn_plan.specs.Plans.{CanChange, in_unit_of}
use Rattle.mgn_register.proofs.Possible.{fill-possible}
use Rattle.mgn_register.proofs.register.Register.fill_plan.Goals as goal

pub returns-clause-possible : goal.returns-clause-possible
returns-clause-possible c =
    let set' = c.args.set.now in
    let f : BookState = c.args.self.now in
    let k = c.in-Ok.place in
    let j = c.in-Ok.hold in
    let y = c.args.fill.now in
    let i = c.held_contract-i.result in
    let there : k < length c.self.inside.accounts.items = search rules in
    let account : c.index.result.now ≡ account_at f.state.accounts k =
    c.index.ensures ∙ get_or_default c.self.inside.accounts.items k c.index.result.now no_account there ∙ ap (λ (g : BookState). account_at g.state.accounts k) c.self.view_is
    in
    let change : c.of_fill-change.result ≡ fill_change i y.quantity (hold_at (account_at f.state.accounts k).holds j).limit y.premium =
    c.of_fill-change.ensures.change ∙ ap (λ (x : Held). fill_change i y.quantity x.limit y.premium) c.hold_at.ensures.held
    ∙ ap (λ (x : AccountState). fill_change i y.quantity (hold_at x.holds j).limit y.premium) account
    in
    let is : c.in_unit_of.result ≡ in_unit_of f.state k (fill_change i y.quantity (hold_at (account_at f.state.accounts k).holds j).limit y.premium) = c.in_unit_of.ensures ∙ ap (in_unit_of f.state k) change in
    subst (λ (u : UnitChange). CanChange set' f.rows u) (sym is)
    (fill-possible set' f k i j y c.limits.ensures c.requires c.in-Ok.ensures.account c.in-Ok.ensures.hold c.in-Ok.ensures.covers c.held_contract-i.ensures.stands
    (subst (λ (x : Change). IsChange set' x) change (c.of_fill-change.ensures.limits set' c.held_contract-i.ensures.within)))
