use Rattle.std.proofs.Common.{◌≡◌, ◌<◌, ◌++◌, ◌∷◌, [], List, Some, None, sym, subst, length, rules, arith, length-append}
use Rattle.mgn_machine.specs.declared.origin.Origin.{Origin}
use Rattle.mgn_unit.specs.declared.row.Row.{Row}
use Rattle.mgn_unit.specs.Rows.{no_row}
use Rattle.mgn_register.specs.BookStates.{IsKept, book_state, BookState}
use Rattle.mgn_register.proofs.Opened.{kept-origin, kept-unit}
use Rattle.mgn_plan.specs.declared.plans.Plan.TheVariants.{Nothing}
use Rattle.mgn_register.proofs.Following.{follows-more, follows-same}
use Rattle.mgn_plan.specs.Plans.{FollowsPlan}
use Rattle.mgn_register.proofs.register.Register.originate.Goals as goal

pub returns-in-Gross-clause-kept : goal.returns-in-Gross-clause-kept
returns-in-Gross-clause-kept c =
    let r = c.self.inside in
    let kept : IsKept c.args.set.now (book_state r.origins.items r.accounts.items r.rows.items r.closed r.version) = search rules in
    let o : Origin = record { name = c.args.name; unit = None } in
    let origins : c.push_reserved.new.self.items ≡ r.origins.items ++ o ∷ [] = search rules in
    subst (λ (origins : List Origin). IsKept c.args.set.now (book_state origins r.accounts.items r.rows.items r.closed r.version)) (sym origins)
    (kept-origin c.args.set.now r.origins.items r.accounts.items r.rows.items r.closed r.version o kept tt)

pub returns-in_ok-unit-in-Net-clause-kept : goal.returns-in_ok-unit-in-Net-clause-kept
returns-in_ok-unit-in-Net-clause-kept c =
    let r = c.self.inside in
    let set = c.args.set.now in
    let kept : IsKept set (book_state r.origins.items r.accounts.items r.rows.items r.closed r.version) = search rules in
    let few : length r.rows.items < 1024 = search rules in
    let unit : c.in_ok-unit-in-Net.unit ≡ length r.rows.items = search rules in
    let o : Origin = record { name = c.args.name; unit = Some c.in_ok-unit-in-Net.unit } in
    let origins : c.push_reserved-in-Net.new.self.items ≡ r.origins.items ++ o ∷ [] = search rules in
    let rows : c.push_flat.new.rows.items ≡ r.rows.items ++ no_row set ∷ [] = search rules in
    subst (λ (x : List Origin × List Row). IsKept set (book_state x.0 r.accounts.items x.1 r.closed r.version)) (λ i. (sym origins i, sym rows i))
    (kept-origin set r.origins.items r.accounts.items (r.rows.items ++ no_row set ∷ []) r.closed r.version o (kept-unit set r.origins.items r.accounts.items r.rows.items r.closed r.version kept few)
    (omega (arith, unit, length-append r.rows.items (no_row set ∷ []))))

pub returns-in-Gross-clause-follows : goal.returns-in-Gross-clause-follows
returns-in-Gross-clause-follows c =
    let r = c.self.inside in
    subst (λ (h : BookState). FollowsPlan c.args.set.now Nothing h.rows r.rows.items) c.self.view_is (follows-same c.args.set.now r.rows.items)

pub returns-in_ok-unit-in-Net-clause-follows : goal.returns-in_ok-unit-in-Net-clause-follows
returns-in_ok-unit-in-Net-clause-follows c =
    let r = c.self.inside in
    let set = c.args.set.now in
    let rows : c.push_flat.new.rows.items ≡ r.rows.items ++ no_row set ∷ [] = search rules in
    subst (λ (h : BookState). FollowsPlan set Nothing h.rows c.push_flat.new.rows.items) c.self.view_is
    (subst (λ (x : List Row). FollowsPlan set Nothing r.rows.items x) (sym rows) (follows-more set r.rows.items (no_row set)))
