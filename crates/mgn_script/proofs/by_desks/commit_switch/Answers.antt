use Rattle.std.proofs.Common.{◌≡◌, ◌+◌, ◌∙◌, List, rules, refl, subst, sym}
use Rattle.mgn_params.specs.Shelves.{set_at}
use Rattle.mgn_desk.specs.Desks.{DeskRows}
use Rattle.mgn_unit.specs.Amounts.{KeepsPlaces}
use Rattle.mgn_plan.specs.declared.plans.Plan.TheVariants.{Nothing}
use Rattle.mgn_pricing.specs.Desks.{AreDesks}
use Rattle.mgn_script.specs.Desks.{AreAtRest}
use Rattle.mgn_script.proofs.DeskFacts.{rest-switched}
use Rattle.mgn_script.proofs.SwitchFacts.{rest-empty, rest-marked}
use Rattle.mgn_script.proofs.by_desks.commit_switch.Goals as goal
use Rattle.mgn_script.proofs.by_desks.commit_switch.Goals.{then-not-is_in_force, else-not-is_in_force}

pub commit_switch-requires-clause-prepared : goal.commit_switch-requires-clause-prepared
commit_switch-requires-clause-prepared c = c.none-none.ensures.prepared c.args.set

pub commit_switch-requires-clause-current : goal.commit_switch-requires-clause-current
commit_switch-requires-clause-current c =
    let book = c.args.book.now.book in
    c.none-none.ensures.current (set_at c.args.shelf.now book.state.version) c.args.set book.rows

pub returns-in_default-clause-desks : goal.returns-in_default-clause-desks
returns-in_default-clause-desks c =
    let sets = c.args.shelf.now in
    let now = c.commit_switch.new.shelf in
    let old = c.args.book.now in
    let new = c.commit_switch.new.self in
    let committed = rw c.new-session.ensures at c.commit_switch.ensures.committed in
    let same : c.mark_all.new.desks ≡ c.args.desks.now = c.in_default.ensures.same refl in
    let rest = rest-switched sets now old new c.args.number c.args.set c.commit_switch.result c.args.desks.now committed c.commit_switch.ensures.rows c.commit_switch.ensures.sets c.requires.desks in
    subst (λ (desks : List DeskRows). AreAtRest now new.book desks) (sym same) rest

pub commit_known_switch-outcome-requires-clause-known : goal.commit_known_switch-outcome-requires-clause-known
commit_known_switch-outcome-requires-clause-known c = rw c.deref.ensures.value c.in-Some.ensures.known

pub returns-clause-desks : goal.returns-clause-desks
returns-clause-desks c =
    let sets = c.args.shelf.now in
    let now = c.commit_known_switch-outcome.new.shelf in
    let old = c.args.book.now in
    let new = c.commit_known_switch-outcome.new.self in
    let done = c.commit_known_switch-outcome.ensures in
    let committed = rw c.new-session.ensures at done.committed in
    let keeps : KeepsPlaces (set_at sets old.book.state.version) c.args.set = search rules in
    let marked : AreDesks c.args.set (old.book.state.version + 1) Nothing old.book.rows c.mark_all.new.desks = search rules in
    elim c.if-not-is_in_force.branch [
      | then-not-is_in_force w ↦ subst (λ (desks : List DeskRows). AreAtRest now new.book desks) (sym (w.desks-is ∙ w.empty_all.ensures)) (rest-empty now new.book)
      | else-not-is_in_force w ↦ subst (λ (desks : List DeskRows). AreAtRest now new.book desks) (sym w.desks-is)
          (rest-marked sets now old new c.args.number c.args.set c.commit_known_switch-outcome.result c.mark_all.new.desks c.requires.stands done.stands committed done.rows done.sets (sym c.is_in_force.ensures ∙ w.if-not-is_in_force.false) keeps marked)
    ]
