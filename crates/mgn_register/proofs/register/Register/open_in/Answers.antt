use Rattle.std.proofs.Common.{◌≡◌, ◌<◌, ◌++◌, ◌∷◌, [], List, sym, subst, length, rules}
use Rattle.mgn_machine.specs.State.{AccountState, fresh}
use Rattle.mgn_register.specs.BookStates.{IsKept, book_state, BookState}
use Rattle.mgn_register.proofs.Opened.{kept-open}
use Rattle.mgn_plan.specs.declared.plans.Plan.TheVariants.{Nothing}
use Rattle.mgn_register.proofs.Following.{follows-same}
use Rattle.mgn_plan.specs.Plans.{FollowsPlan}
use Rattle.mgn_register.proofs.register.Register.open_in.Goals as goal

pub returns-clause-kept : goal.returns-clause-kept
returns-clause-kept c =
    let r = c.self.inside in
    let kept : IsKept c.args.set.now (book_state r.origins.items r.accounts.items r.rows.items r.closed r.version) = search rules in
    let few : length r.accounts.items < 1024 = search rules in
    let unit : c.args.unit < length r.rows.items = search rules in
    let home : c.args.origin < length r.origins.items = search rules in
    let accounts : c.push_reserved.new.self.items ≡ r.accounts.items ++ fresh c.args.name c.args.origin c.args.unit ∷ [] = search rules in
    subst (λ (accounts : List AccountState). IsKept c.args.set.now (book_state r.origins.items accounts r.rows.items r.closed r.version)) (sym accounts)
    (kept-open c.args.set.now r.origins.items r.accounts.items r.rows.items r.closed r.version c.args.name c.args.origin c.args.unit kept few unit home)

pub returns-clause-follows : goal.returns-clause-follows
returns-clause-follows c =
    let r = c.self.inside in
    subst (λ (h : BookState). FollowsPlan c.args.set.now Nothing h.rows r.rows.items) c.self.view_is (follows-same c.args.set.now r.rows.items)
