use Rattle.std.proofs.Common.{◌≡◌, ◌<◌, ◌++◌, ◌∷◌, [], List, sym, subst, length, rules, arith, length-append}
use Rattle.mgn_machine.specs.State.{AccountState, fresh}
use Rattle.mgn_unit.specs.Rows.{no_row}
use Rattle.mgn_unit.specs.declared.row.Row.{Row}
use Rattle.mgn_register.specs.BookStates.{IsKept, book_state, BookState}
use Rattle.mgn_register.proofs.Opened.{kept-open, kept-unit}
use Rattle.mgn_plan.specs.declared.plans.Plan.TheVariants.{Nothing}
use Rattle.mgn_register.proofs.Following.{follows-more}
use Rattle.mgn_plan.specs.Plans.{FollowsPlan}
use Rattle.mgn_register.proofs.register.Register.open_own.Goals as goal

pub returns-clause-kept : goal.returns-clause-kept
returns-clause-kept c =
    let r = c.self.inside in
    let set = c.args.set.now in
    let kept : IsKept set (book_state r.origins.items r.accounts.items r.rows.items r.closed r.version) = search rules in
    let few : length r.accounts.items < 1024 = search rules in
    let few_units : length r.rows.items < 1024 = search rules in
    let unit : c.len-unit.result ≡ length r.rows.items = search rules in
    let home : c.args.origin < length r.origins.items = search rules in
    let accounts : c.push_reserved-2.new.self.items ≡ r.accounts.items ++ fresh c.args.name c.args.origin c.len-unit.result ∷ [] = search rules in
    let rows : c.push_reserved.new.self.items ≡ r.rows.items ++ no_row set ∷ [] = search rules in
    subst (λ (x : List AccountState × List Row). IsKept set (book_state r.origins.items x.0 x.1 r.closed r.version)) (λ i. (sym accounts i, sym rows i))
    (kept-open set r.origins.items r.accounts.items (r.rows.items ++ no_row set ∷ []) r.closed r.version c.args.name c.args.origin c.len-unit.result (kept-unit set r.origins.items r.accounts.items r.rows.items r.closed r.version kept few_units) few
    (omega (arith, unit, length-append r.rows.items (no_row set ∷ []))) home)

pub returns-clause-follows : goal.returns-clause-follows
returns-clause-follows c =
    let r = c.self.inside in
    let set = c.args.set.now in
    let rows : c.push_reserved.new.self.items ≡ r.rows.items ++ no_row set ∷ [] = search rules in
    subst (λ (h : BookState). FollowsPlan set Nothing h.rows c.push_reserved.new.self.items) c.self.view_is
    (subst (λ (x : List Row). FollowsPlan set Nothing r.rows.items x) (sym rows) (follows-more set r.rows.items (no_row set)))
