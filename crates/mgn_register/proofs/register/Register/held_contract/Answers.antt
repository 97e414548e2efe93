use Rattle.std.proofs.Common.{◌≡◌, ◌<◌, ◌∙◌, ap, sym, subst, length, rules, true}
use Rattle.std.proofs.lemmas.List.{get_or_default}
use Rattle.mgn_holds.specs.declared.held.Held.{Held}
use Rattle.mgn_holds.specs.Holds.{hold_at}
use Rattle.mgn_machine.specs.Refusals.{has_contract}
use Rattle.mgn_machine.specs.State.{AccountState, no_account, account_at}
use Rattle.mgn_register.specs.BookStates.{BookState}
use Rattle.mgn_register.proofs.Holding.{held-known}
use Rattle.mgn_register.proofs.register.Register.held_contract.Goals as goal

pub known_contract-requires : goal.known_contract-requires
known_contract-requires c =
    let r = c.self.inside in
    let set = c.args.set.now in
    let f : BookState = c.args.self.now in
    let within : c.args.place < length r.accounts.items = search rules in
    let account : c.index.result.now ≡ account_at f.state.accounts c.args.place =
    c.index.ensures ∙ get_or_default r.accounts.items c.args.place c.index.result.now no_account within
    ∙ ap (λ (g : BookState). account_at g.state.accounts c.args.place) c.self.view_is
    in
    let held : c.hold_at.result.now ≡ hold_at (account_at f.state.accounts c.args.place).holds c.args.hold = c.hold_at.ensures.held ∙ ap (λ (a : AccountState). hold_at a.holds c.args.hold) account in
    subst (λ (x : Held). has_contract set x.contract ≡ true) (sym held) (held-known set f c.args.place c.args.hold c.requires.kept c.requires.account c.requires.hold)
