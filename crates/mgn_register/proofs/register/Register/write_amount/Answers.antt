use Rattle.std.proofs.Common.{◌≡◌, ◌<◌, ap, ◌∙◌, sym, subst, length, rules, get_or, set}
use Rattle.mgn_coll.specs.Posted.{IsPosted}
use Rattle.mgn_unit.specs.Rows.{nets_in, row_with_worth}
use Rattle.mgn_machine.specs.State.{AccountState, with_amount}
use Rattle.mgn_register.specs.BookStates.{IsKept, book_state, BookState}
use Rattle.mgn_register.proofs.Kept.{names-kept}
use Rattle.mgn_register.proofs.Postings.{gained, post-kept}
use Rattle.mgn_plan.specs.declared.plans.Plan.TheVariants.{Nothing}
use Rattle.mgn_register.proofs.Following.{follows-none}
use Rattle.mgn_plan.specs.Plans.{FollowsPlan}
use Rattle.mgn_register.proofs.register.Register.write_amount.Goals as goal

pub invariant_of-self-2 : goal.invariant_of-self-2
invariant_of-self-2 c =
    let a = c.index_mut-owner.result.now in
    let written : c.write_amount.new.owner ≡ with_amount a c.args.class.now c.args.amount = search rules in
    names-kept c.self.inside.names c.self.inside.accounts.items c.args.place c.write_amount.new.owner a c.self.invariant
    (ap (λ (x : AccountState). x.name) (written ∙ ap (λ (x : AccountState). with_amount x c.args.class.now c.args.amount) c.index_mut-owner.ensures.value))

pub returns-clause-kept : goal.returns-clause-kept
returns-clause-kept c =
    let r = c.self.inside in
    let a = c.index_mut-owner.result.now in
    let b = c.write_amount.new.owner in
    let row = c.index_mut-row.result.now in
    let kept : IsKept c.args.set.now (book_state r.origins.items r.accounts.items r.rows.items r.closed r.version) = search rules in
    let within : c.args.place < length r.accounts.items = search rules in
    let written : b ≡ with_amount a c.args.class.now c.args.amount = search rules in
    let limits : IsPosted b.collateral.cash b.collateral.units = search rules in
    let worth : c.write_amount.new.row ≡ row_with_worth (gained c.args.set.now a b) row = search rules in
    subst (λ (u : _). IsKept c.args.set.now (book_state r.origins.items (set r.accounts.items c.args.place b) (set r.rows.items u c.write_amount.new.row) r.closed r.version)) (sym c.unit.ensures)
    (post-kept c.args.set.now r.origins.items r.accounts.items r.rows.items r.closed r.version c.args.place a b row c.write_amount.new.row c.args.class.now c.args.amount
    c.limits.ensures kept within c.index_mut-owner.ensures.value (c.index_mut-row.ensures.value ∙ ap (λ (u : _). get_or r.rows.items u row) c.unit.ensures) written limits worth)

pub returns-clause-follows : goal.returns-clause-follows
returns-clause-follows c =
    let r = c.self.inside in
    let set' = c.args.set.now in
    let row = c.index_mut-row.result.now in
    let inside : c.unit.result < length r.rows.items = search rules in
    let a = c.index_mut-owner.result.now in
    let b = c.write_amount.new.owner in
    let worth : c.write_amount.new.row ≡ row_with_worth (gained set' a b) row = search rules in
    subst (λ (h : BookState). FollowsPlan set' Nothing h.rows (set r.rows.items c.unit.result c.write_amount.new.row)) c.self.view_is
    (follows-none set' r.rows.items c.unit.result row c.write_amount.new.row inside c.index_mut-row.ensures.value (ap nets_in worth))
