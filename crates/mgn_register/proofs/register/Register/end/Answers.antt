use Rattle.std.proofs.Common.{rules, subst}
use Rattle.mgn_plan.specs.declared.plans.Plan.TheVariants.{Nothing}
use Rattle.mgn_register.specs.BookStates.{BookState, IsKept, book_state}
use Rattle.mgn_plan.specs.Plans.{FollowsPlan}
use Rattle.mgn_register.proofs.Following.{follows-same}
use Rattle.mgn_register.proofs.Kept.{kept-closed}
use Rattle.mgn_register.proofs.register.Register.end.Goals as goal

pub returns-clause-kept : goal.returns-clause-kept
returns-clause-kept c =
    let r = c.self.inside in
    let kept : IsKept c.args.set.now (book_state r.origins.items r.accounts.items r.rows.items r.closed r.version) = search rules in
    kept-closed c.args.set.now (book_state r.origins.items r.accounts.items r.rows.items r.closed r.version) kept

pub returns-clause-follows : goal.returns-clause-follows
returns-clause-follows c =
    let r = c.self.inside in
    subst (λ (h : BookState). FollowsPlan c.args.set.now Nothing h.rows r.rows.items) c.self.view_is (follows-same c.args.set.now r.rows.items)
