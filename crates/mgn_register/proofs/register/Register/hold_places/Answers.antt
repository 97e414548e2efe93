use Rattle.std.proofs.Common.{◌≡◌, ◌<◌, ◌∙◌, ap, sym, true, false, length, rules}
use Rattle.std.specs.Prelude.{Ok, Err}
use Rattle.std.proofs.lemmas.List.{get_or_default}
use Rattle.mgn_holds.specs.Holds.{has_order, is_full as holds_full}
use Rattle.mgn_machine.specs.declared.reply.Refusal.{Refusal}
use Rattle.mgn_machine.specs.declared.reply.Refusal.TheVariants.{Limit}
use Rattle.mgn_machine.specs.State.{AccountState, no_account, account_at}
use Rattle.mgn_machine.specs.Refusals.{contract_of, is_over, place_of, premium_fits}
use Rattle.mgn_register.specs.BookStates.{BookState}
use Rattle.mgn_register.proofs.Holding.{hold_places-over, refused-why}
use Rattle.mgn_register.proofs.register.Register.hold_places.Goals as goal

pub returns-in_err-refuse_if-5-clause-places : goal.returns-in_err-refuse_if-5-clause-places
returns-in_err-refuse_if-5-clause-places c =
    let set' = c.args.set.now in
    let s = c.args.self.now.state in
    let h = c.args.hold.now in
    let k = c.in_ok-place.place in
    let i = c.in_ok-i.i in
    let a = c.index-owner.result.now in
    let accounts = c.self.inside.accounts.items in
    let inside : k < length accounts = search rules in
    let there : account_at s.accounts k ≡ a =
    sym (c.index-owner.ensures ∙ get_or_default accounts k a no_account inside ∙ ap (λ (g : BookState). account_at g.state.accounts k) c.self.view_is)
    in
    let unheld : has_order a.holds h.order ≡ false = search rules in
    let room : holds_full a.holds ≡ false = search rules in
    let why = c.in_err-refuse_if-5.field-0.0 in
    let refused : c.refuse_if-5.result ≡ Err why = search rules in
    let returned : c.from_residual-in_err-refuse_if-5.result ≡ Err why = search rules in
    let place : place_of s h.account ≡ Ok k = search rules in
    let contract : contract_of set' h.contract ≡ Ok i = search rules in
    let fits : premium_fits set' i h.limit ≡ true = search rules in
    let over : is_over s k h.contract h.quantity ≡ true = search rules in
    returned
    ∙ ap (λ (x : Refusal). Err x) (refused-why _ _ why Limit refused c.refuse_if-5.ensures.refused)
    ∙ sym (hold_places-over set' s h k i (search rules) place (ap (λ (x : AccountState). has_order x.holds h.order) there ∙ unheld) contract fits (ap (λ (x : AccountState). holds_full x.holds) there ∙ room) over)
