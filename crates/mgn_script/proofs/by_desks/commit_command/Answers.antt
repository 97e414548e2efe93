use Rattle.std.proofs.Common.{◌≡◌, ◌∙◌, sym, rules}
use Rattle.mgn_params.specs.Shelves.{set_at}
use Rattle.mgn_script.proofs.DeskCommits.{IsCommit, Read, moved-on, read_of, unmoved}
use Rattle.mgn_script.proofs.by_desks.commit_command.Goals as goal

pub returns-in_default-clause-desks : goal.returns-in_default-clause-desks
returns-in_default-clause-desks c =
    let sets = c.args.shelf.now in
    let old = c.args.book.now in
    let new = c.commit_plain.new.self in
    let set_is : c.set_of-set.result.now ≡ set_at sets old.book.state.version = search rules in
    let read : Read = (c.set_of-set.result.now, (c.version-version.result, c.rows.result.now)) in
    let same : read ≡ read_of sets old.book = λ j. (set_is j, (c.version-version.ensures j, c.rows.ensures j)) in
    let committed = rw c.new-session.ensures at c.commit_plain.ensures.committed in
    let commit : IsCommit sets old new c.args.number c.args.command.now c.commit_plain.result c.plan-plan.result =
    record { planned = sym c.plan-plan.ensures.plan; committed = committed; left = c.commit_plain.ensures.nets }
    in
    let forgotten = c.in_default.ensures in
    unmoved sets old new c.args.number c.args.command.now c.commit_plain.result c.plan-plan.result read c.foresee.new.self commit same forgotten.moved forgotten.refused

pub returns-else-not-is_done-clause-desks : goal.returns-else-not-is_done-clause-desks
returns-else-not-is_done-clause-desks c =
    let sets = c.args.shelf.now in
    let old = c.args.book.now in
    let new = c.commit_known-outcome.new.self in
    let set_is : c.set_of-set.result.now ≡ set_at sets old.book.state.version = search rules in
    let read : Read = (c.set_of-set.result.now, (c.version-version.result, c.rows.result.now)) in
    let same : read ≡ read_of sets old.book = λ j. (set_is j, (c.version-version.ensures j, c.rows.ensures j)) in
    let committed = rw c.new-session.ensures at c.commit_known-outcome.ensures.committed in
    let commit : IsCommit sets old new c.args.number c.args.command.now c.commit_known-outcome.result c.plan-plan.result =
    record { planned = sym c.plan-plan.ensures.plan; committed = committed; left = c.commit_known-outcome.ensures.nets }
    in
    moved-on sets old new c.args.number c.args.command.now c.commit_known-outcome.result c.plan-plan.result read c.foresee.new.self commit (sym c.is_done.ensures ∙ c.if-not-is_done.false) same c.foresee.ensures.moved
