use Rattle.std.proofs.Common.{◌≡◌, ◌<◌, ◌∙◌, ap, sym, subst, rules, length}
use Rattle.std.proofs.lemmas.List.{get_or_default}
use Rattle.mgn_holds.specs.declared.held.Held.{Held}
use Rattle.mgn_holds.specs.Holds.{hold_at}
use Rattle.mgn_machine.specs.State.{AccountState, account_at, no_account}
use Rattle.mgn_unit.specs.declared.change.Change.{Change}
use Rattle.mgn_unit.specs.Changes.{release_change}
use Rattle.mgn_unit.specs.Rows.{IsChange}
use Rattle.mgn_register.specs.BookStates.{BookState}
use Rattle.mgn_plan.specs.declared.plans.UnitChange.{UnitChange}
use Rattle.mgn_plan.specs.Plans.{CanChange, in_unit_of}
use Rattle.mgn_register.proofs.Possible.{release-possible}
use Rattle.mgn_register.proofs.register.Register.release_plan.Goals as goal

pub returns-clause-possible : goal.returns-clause-possible
returns-clause-possible c =
    let set' = c.args.set.now in
    let f : BookState = c.args.self.now in
    let k = c.in-Ok.place in
    let j = c.in-Ok.hold in
    let i = c.held_contract-i.result in
    let there : k < length c.self.inside.accounts.items = search rules in
    let account : c.index.result.now ≡ account_at f.state.accounts k =
    c.index.ensures ∙ get_or_default c.self.inside.accounts.items k c.index.result.now no_account there ∙ ap (λ (g : BookState). account_at g.state.accounts k) c.self.view_is
    in
    let change : c.of_release.result ≡ release_change i (hold_at (account_at f.state.accounts k).holds j).quantity (hold_at (account_at f.state.accounts k).holds j).limit =
    c.of_release.ensures.change ∙ ap (λ (x : Held). release_change i x.quantity x.limit) c.hold_at-held.ensures.held
    ∙ ap (λ (x : AccountState). release_change i (hold_at x.holds j).quantity (hold_at x.holds j).limit) account
    in
    let is : c.in_unit_of.result ≡ in_unit_of f.state k (release_change i (hold_at (account_at f.state.accounts k).holds j).quantity (hold_at (account_at f.state.accounts k).holds j).limit) = c.in_unit_of.ensures ∙ ap (in_unit_of f.state k) change in
    subst (λ (u : UnitChange). CanChange set' f.rows u) (sym is)
    (release-possible set' f k i j c.limits.ensures c.requires c.in-Ok.ensures.account c.in-Ok.ensures.hold c.held_contract-i.ensures.stands
    (subst (λ (x : Change). IsChange set' x) change (c.of_release.ensures.limits set' c.held_contract-i.ensures.within)))
