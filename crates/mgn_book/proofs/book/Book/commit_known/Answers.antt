use Rattle.std.proofs.Common.{arith, ◌≡◌, ◌+◌, ◌-◌, ◌<◌, ◌≤◌, ◌++◌, ◌∷◌, [], rules, length, List, ap, ◌∙◌, refl}
use Rattle.mgn_params.specs.Shelves.{set_at}
use Rattle.mgn_params.specs.Tables.{Tables}
use Rattle.mgn_machine.specs.declared.request.Recorded.TheVariants.{Asked}
use Rattle.mgn_machine.specs.declared.request.Request.TheVariants.{Do}
use Rattle.mgn_machine.specs.History.{entry, calls}
use Rattle.mgn_machine.specs.Step.{step_under}
use Rattle.mgn_machine.proofs.Histories.{calls-few}
use Rattle.mgn_machine.proofs.Versions.{keeps_version}
use Rattle.mgn_register.specs.BookStates.{IsKept}
use Rattle.mgn_book.specs.BookViews.{AreCounts, BookView, Stands}
use Rattle.mgn_book.proofs.Histories.{is_book-next, stands-next}
use Rattle.mgn_book.proofs.book.Book.commit_known.Goals as goal

pub returns-clause-stands : goal.returns-clause-stands
returns-clause-stands g c =
    let b = c.self.inside in
    let sets : List Tables = g.S.Shelf.sets c.args.shelf.now in
    let old : BookView = record { book = b.register; history = b.history.entries } in
    let stands : Stands sets old = search rules in
    let number : c.args.number ≡ calls c.args.session b.history.entries + 1 = search rules in
    let kept : IsKept (set_at sets b.register.state.version) c.step.new.register = search rules in
    let few : length b.history.entries < 1000000 = search rules in
    let stepped : (c.step.new.register.state, c.in-Ok.reply) ≡ step_under (set_at sets b.register.state.version) b.register.state c.args.command.now = search rules in
    let pushed : c.push.new.self.entries ≡ b.history.entries ++ entry c.args.session c.args.number (Asked c.args.command.now) c.in-Ok.reply ∷ [] = search rules in
    stands-next sets old c.step.new.register c.args.session c.args.number (Do c.args.command.now) c.in-Ok.reply c.push.new.self.entries stands stepped refl (ap (λ x. x.0.version) stepped ∙ keeps_version (set_at sets b.register.state.version) b.register.state c.args.command.now) number kept few pushed

pub invariant_of-self-2 : goal.invariant_of-self-2
invariant_of-self-2 g c =
    let b = c.self.inside in
    let old : BookView = record { book = b.register; history = b.history.entries } in
    let are : AreCounts b.counts b.history.entries = c.self.invariant.counts_are in
    let number : c.args.number ≡ calls c.args.session b.history.entries + 1 = search rules in
    let pushed : c.push.new.self.entries ≡ b.history.entries ++ entry c.args.session c.args.number (Asked c.args.command.now) c.in-Ok.reply ∷ [] = search rules in
    let low : 1 ≤ c.args.session = search rules in
    let high : c.args.session ≤ 16 = search rules in
    let place : c.count_place.result ≡ c.args.session - 1 = omega (arith, c.count_place.ensures.place) in
    rw place (is_book-next b.counts (g.S.Shelf.sets c.args.shelf.now) old c.step.new.register (entry c.args.session c.args.number (Asked c.args.command.now) c.in-Ok.reply) c.push.new.self.entries are c.self.invariant.long low high number pushed (returns-clause-stands g c))

pub push-requires-clause-number : goal.push-requires-clause-number
push-requires-clause-number g c =
    let b = c.self.inside in
    let number : c.args.number ≡ calls c.args.session b.history.entries + 1 = search rules in
    let few : length b.history.entries < 1000000 = search rules in
    omega (arith, number, few, calls-few c.args.session b.history.entries)
