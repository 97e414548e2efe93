use Rattle.std.proofs.Common.{ap, subst}
use Rattle.mgn_book.specs.BookViews.{BookView, Committed}
use Rattle.mgn_machine.specs.declared.request.Request.TheVariants.{Do}
use Rattle.mgn_script.specs.Plain.{IsScriptView, ScriptView}
use Rattle.mgn_script.proofs.PlainFacts.{called, no_set_put, still}
use Rattle.mgn_script.proofs.plain.PlainExec.exec.Goals as goal

pub invariant_of-self : goal.invariant_of-self
invariant_of-self c =
    let sets = c.self.inside.shelf in
    let old : IsScriptView sets c.self.inside.book = record { stands = c.self.invariant.stands; all = c.self.invariant.all } in
    let view = still sets sets c.self.inside.book c.commit_command.new.book c.next_number-number.result (Do c.args.command.now) c.commit_command.result old c.commit_command.ensures.committed c.commit_command.ensures.stands in
    record { stands = view.stands; all = view.all; rest = c.commit_command.ensures.desks }

pub returns : goal.returns
returns c =
    let old = c.args.self.now in
    let sets = c.self.inside.shelf in
    let committed = subst (λ (day : BookView). Committed sets day 1 c.next_number-number.result (Do c.args.command.now) c.commit_command.result c.commit_command.new.book)
    (ap (λ (v : ScriptView). v.day) c.self.view_is) c.commit_command.ensures.committed in
    rw c.answer_of.ensures (
    called old.sets sets old.day c.commit_command.new.book c.next_number-number.result (Do c.args.command.now) c.commit_command.result c.next_number-number.ensures.place committed
    (no_set_put old.sets sets c.args.command.now c.commit_command.result (ap (λ (v : ScriptView). v.sets) c.self.view_is))
    )
