use Rattle.std.proofs.Common.{◌≡◌, ◌<◌, ap, ◌∙◌, length, rules, get_or, subst}
use Rattle.std.proofs.lemmas.List.{get_or_default}
use Rattle.mgn_unit.specs.Rows.{row_of}
use Rattle.mgn_machine.specs.State.{AccountState, no_account, account_at}
use Rattle.mgn_register.specs.BookStates.{BookState, IsKept, IsUnitRow, book_state}
use Rattle.mgn_register.proofs.Kept.{row-there}
use Rattle.mgn_register.proofs.register.Register.row.Goals as goal

-- the row that was read, as that of the account's unit
there : (c : goal.After-index-2) → IsUnitRow c.args.set.now c.args.self.now.state.accounts c.index.result.now.unit c.index-2.result.now
there c =
    let r = c.self.inside in
    let f = book_state r.origins.items r.accounts.items r.rows.items r.closed r.version in
    let kept : IsKept c.args.set.now f = search rules in
    let within : c.args.place < length r.accounts.items = search rules in
    subst (λ (g : BookState). IsUnitRow c.args.set.now g.state.accounts c.index.result.now.unit c.index-2.result.now) c.self.view_is
    (row-there c.args.set.now f c.args.place c.index.result.now c.index-2.result.now kept within c.index.ensures
    (c.index-2.ensures ∙ ap (λ (u : _). get_or r.rows.items u c.index-2.result.now) c.unit-unit.ensures))

pub returns-clause-row : goal.returns-clause-row
returns-clause-row c =
    let r = c.self.inside in
    let within : c.args.place < length r.accounts.items = search rules in
    let account : c.index.result.now ≡ account_at c.args.self.now.state.accounts c.args.place =
    c.index.ensures ∙ get_or_default r.accounts.items c.args.place c.index.result.now no_account within
    ∙ ap (λ (g : BookState). account_at g.state.accounts c.args.place) c.self.view_is
    in
    (there c).is ∙ ap (λ (a : AccountState). row_of c.args.set.now c.args.self.now.state.accounts a.unit) account

pub returns-clause-limits : goal.returns-clause-limits
returns-clause-limits c = (there c).limits
