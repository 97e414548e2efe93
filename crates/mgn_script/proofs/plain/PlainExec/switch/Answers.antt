use Rattle.std.proofs.Common.{ap, subst}
use Rattle.std.proofs.Common.{List}
use Rattle.mgn_params.specs.Tables.{Tables}
use Rattle.mgn_book.specs.BookViews.{BookView, Committed, Shelves}
use Rattle.mgn_machine.specs.declared.request.Request.TheVariants.{Switch}
use Rattle.mgn_script.specs.Plain.{IsScriptView, ScriptView}
use Rattle.mgn_script.proofs.PlainFacts.{called, still}
use Rattle.mgn_script.proofs.plain.PlainExec.switch.Goals as goal

pub invariant_of-self : goal.invariant_of-self
invariant_of-self c =
    let sets = c.self.inside.shelf in
    let now = c.commit_switch.new.shelf in
    let old : IsScriptView sets c.self.inside.book = record { stands = c.self.invariant.stands; all = c.self.invariant.all } in
    let view = still sets now c.self.inside.book c.commit_switch.new.book c.next_number-number.result (Switch c.args.set) c.commit_switch.result old c.commit_switch.ensures.committed c.commit_switch.ensures.stands in
    record { stands = view.stands; all = view.all; rest = c.commit_switch.ensures.desks }

pub returns : goal.returns
returns c =
    let old = c.args.self.now in
    let now = c.commit_switch.new.shelf in
    let new = c.commit_switch.new.book in
    let number = c.next_number-number.result in
    let committed = subst (λ (day : BookView). Committed now day 1 number (Switch c.args.set) c.commit_switch.result new)
    (ap (λ (v : ScriptView). v.day) c.self.view_is) c.commit_switch.ensures.committed in
    let sets = subst (λ (all : List Tables). Shelves all (Switch c.args.set) c.commit_switch.result now)
    (ap (λ (v : ScriptView). v.sets) c.self.view_is) c.commit_switch.ensures.sets in
    rw c.answer_of.ensures (
    called old.sets now old.day new number (Switch c.args.set) c.commit_switch.result c.next_number-number.ensures.place committed sets
    )
