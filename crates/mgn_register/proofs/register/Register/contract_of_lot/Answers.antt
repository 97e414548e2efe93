use Rattle.std.proofs.Common.{◌≡◌, ◌<◌, ap, ◌∙◌, sym, subst, length, rules, true}
use Rattle.std.proofs.lemmas.List.{get_or_default}
use Rattle.mgn_lots.specs.declared.lot.Lot.{Lot}
use Rattle.mgn_lots.specs.Lots.{is_live, lot_at}
use Rattle.mgn_machine.specs.Refusals.{has_contract}
use Rattle.mgn_machine.specs.State.{AccountState, no_account, account_at}
use Rattle.mgn_register.specs.BookStates.{BookState, IsKept, book_state}
use Rattle.mgn_register.proofs.Kept.{lot-known}
use Rattle.mgn_register.proofs.register.Register.contract_of_lot.Goals as goal

pub known_contract-requires : goal.known_contract-requires
known_contract-requires c =
    let r = c.self.inside in
    let f = book_state r.origins.items r.accounts.items r.rows.items r.closed r.version in
    let a = c.index.result.now in
    let k = c.args.place in
    let kept : IsKept c.args.set.now f = search rules in
    let within : k < length r.accounts.items = search rules in
    let there : account_at c.args.self.now.state.accounts k ≡ a =
    sym (c.index.ensures ∙ get_or_default r.accounts.items k a no_account within ∙ ap (λ (g : BookState). account_at g.state.accounts k) c.self.view_is)
    in
    let inside : c.args.at < length a.lots = subst (λ (x : AccountState). c.args.at < length x.lots) there c.requires.lot in
    let live : is_live (lot_at a.lots c.args.at).mark ≡ true = subst (λ (x : AccountState). is_live (lot_at x.lots c.args.at).mark ≡ true) there c.requires.live in
    subst (λ (x : Lot). has_contract c.args.set.now x.contract ≡ true) (sym c.lot_at.ensures.lot)
    (lot-known c.args.set.now f k c.args.at a kept within c.index.ensures inside live)
