use Rattle.std.proofs.Common.{◌≡◌, ◌<◌, ◌∙◌, ap, sym, subst, rules, length}
use Rattle.std.proofs.lemmas.List.{get_or_default}
use Rattle.mgn_lots.specs.Lots.{lot_at}
use Rattle.mgn_machine.specs.State.{AccountState, account_at, no_account}
use Rattle.mgn_unit.specs.declared.change.Change.{Change}
use Rattle.mgn_unit.specs.Changes.{bust_change}
use Rattle.mgn_unit.specs.Rows.{IsChange}
use Rattle.mgn_register.specs.BookStates.{BookState}
use Rattle.mgn_plan.specs.declared.plans.UnitChange.{UnitChange}
use Rattle.mgn_plan.specs.Plans.{CanChange, in_unit_of}
use Rattle.mgn_register.proofs.Possible.{bust-possible}
use Rattle.mgn_register.proofs.register.Register.bust_plan.Goals as goal

pub returns-clause-possible : goal.returns-clause-possible
returns-clause-possible c =
    let set' = c.args.set.now in
    let f : BookState = c.args.self.now in
    let k = c.in-Ok.place in
    let at = c.in-Ok.at in
    let i = c.contract_of_lot-contract.result in
    let there : k < length c.self.inside.accounts.items = search rules in
    let account : c.index.result.now ≡ account_at f.state.accounts k =
    c.index.ensures ∙ get_or_default c.self.inside.accounts.items k c.index.result.now no_account there ∙ ap (λ (g : BookState). account_at g.state.accounts k) c.self.view_is
    in
    let change : c.of_bust.result ≡ bust_change i (lot_at (account_at f.state.accounts k).lots at) =
    c.of_bust.ensures.change ∙ ap (bust_change i) c.lot_at-lot.ensures.lot ∙ ap (λ (x : AccountState). bust_change i (lot_at x.lots at)) account
    in
    let is : c.in_unit_of.result ≡ in_unit_of f.state k (bust_change i (lot_at (account_at f.state.accounts k).lots at)) = c.in_unit_of.ensures ∙ ap (in_unit_of f.state k) change in
    subst (λ (u : UnitChange). CanChange set' f.rows u) (sym is)
    (bust-possible set' f k at i c.limits.ensures c.requires c.in-Ok.ensures.account c.in-Ok.ensures.lot c.in-Ok.ensures.live c.contract_of_lot-contract.ensures.stands
    (subst (λ (x : Change). IsChange set' x) change (c.of_bust.ensures.limits set' c.contract_of_lot-contract.ensures.within)))
