use Rattle.std.proofs.Common.{◌≡◌, ◌<◌, ap, ◌∙◌, sym, length, rules}
use Rattle.std.specs.Prelude.{pos, ℤ, ◌-ℤ◌, int_lt}
use Rattle.std.proofs.lemmas.List.{get_or_default}
use Rattle.mgn_unit.specs.Rows.{portfolio_room, least_portfolio, row_with_worth}
use Rattle.mgn_machine.specs.State.{AccountState, no_account, account_at, put, with_amount}
use Rattle.mgn_unit.proofs.Least.{room_of_row}
use Rattle.mgn_unit.specs.declared.row.Row.{Row}
use Rattle.mgn_register.specs.BookStates.{BookState}
use Rattle.mgn_register.proofs.Postings.{amount-moved, gained}
use Rattle.mgn_register.proofs.register.Register.lacks_room_with.Goals as goal

pub returns : goal.returns
returns c =
    let r = c.self.inside in
    let k = c.args.place in
    let s = c.args.self.now.state in
    let within : k < length s.accounts = c.requires.place in
    let inside : k < length r.accounts.items = search rules in
    let owner : c.index-owner.result.now ≡ account_at s.accounts k =
    c.index-owner.ensures ∙ get_or_default r.accounts.items k c.index-owner.result.now no_account inside
    ∙ ap (λ (g : BookState). account_at g.state.accounts k) c.self.view_is
    in
    let a = account_at s.accounts k in
    let after = with_amount a c.args.class.now c.args.amount in
    let more : c.minus.result ≡ gained c.args.set.now a after =
    c.minus.ensures
    ∙ (λ i. (c.value_with-after.ensures.value i -ℤ c.collateral_value-before.ensures.value i))
    ∙ ap (λ (x : AccountState). gained c.args.set.now x (with_amount x c.args.class.now c.args.amount)) owner
    in
    c.lacks_room_with.ensures
    ∙ (λ i. int_lt (portfolio_room (least_portfolio (row_with_worth (more i) (c.row.ensures.row i)))) (pos 0))
    ∙ ap (λ (x : Row). int_lt (portfolio_room (least_portfolio x)) (pos 0)) (sym (amount-moved c.args.set.now s.accounts k c.args.class.now c.args.amount within))
    ∙ ap (λ (z : ℤ). int_lt z (pos 0)) (room_of_row c.args.set.now (put s k after).accounts a.unit)
