use Rattle.std.proofs.Common.{◌≡◌, ◌+◌, ◌-◌, ◌<◌, ◌≤◌, ◌++◌, ◌∷◌, [], arith, rules, length, List, subst, sym}
use Rattle.mgn_params.specs.Shelves.{set_at}
use Rattle.mgn_params.specs.Tables.{Tables}
use Rattle.mgn_machine.specs.declared.request.Request.TheVariants.{Switch}
use Rattle.mgn_machine.specs.History.{entry, calls, recorded}
use Rattle.mgn_machine.proofs.Histories.{calls-few}
use Rattle.mgn_unit.specs.Prepared.{AreCurrent}
use Rattle.mgn_book.specs.BookViews.{AreCounts, BookView, Stands}
use Rattle.mgn_book.specs.Switches.{IsSwitched}
use Rattle.mgn_book.proofs.Histories.{is_book-next, stands-switched}
use Rattle.mgn_book.proofs.book.Book.commit_switch.Goals as goal

pub switch_set-switched-requires-clause-current : goal.switch_set-switched-requires-clause-current
switch_set-switched-requires-clause-current g c =
    let prepared = c.args.prepared.now in
    subst (λ (b : BookView). AreCurrent (set_at (g.S.Shelf.sets c.args.shelf.now) b.book.state.version) c.args.set b.book.rows prepared.units.items prepared.current.items)
    (sym c.self.view_is) c.requires.current

pub switch_set-switched-requires-clause-number : goal.switch_set-switched-requires-clause-number
switch_set-switched-requires-clause-number g c =
    let b = c.self.inside in
    let number : c.args.number ≡ calls c.args.session b.history.entries + 1 = search rules in
    let few : length b.history.entries < 1000000 = search rules in
    omega (arith, number, few, calls-few c.args.session b.history.entries)

pub returns-clause-stands : goal.returns-clause-stands
returns-clause-stands g c =
    let b = c.self.inside in
    let sets : List Tables = g.S.Shelf.sets c.args.shelf.now in
    let now : List Tables = g.S.Shelf.sets c.switch_set-switched.new.shelf in
    let old : BookView = record { book = b.register; history = b.history.entries } in
    let stands : Stands sets old = search rules in
    let number : c.args.number ≡ calls c.args.session b.history.entries + 1 = search rules in
    let few : length b.history.entries < 1000000 = search rules in
    let switched : IsSwitched sets now b.register c.switch_set-switched.new.register c.args.set c.in-Ok.reply = search rules in
    let pushed : c.switch_set-switched.new.history.entries ≡ b.history.entries ++ entry c.args.session c.args.number (recorded (Switch c.args.set) c.in-Ok.reply) c.in-Ok.reply ∷ [] = search rules in
    stands-switched sets now old c.switch_set-switched.new.register c.args.session c.args.number c.args.set c.in-Ok.reply c.switch_set-switched.new.history.entries stands switched number few pushed

pub invariant_of-self-2 : goal.invariant_of-self-2
invariant_of-self-2 g c =
    let b = c.self.inside in
    let old : BookView = record { book = b.register; history = b.history.entries } in
    let are : AreCounts b.counts b.history.entries = c.self.invariant.counts_are in
    let number : c.args.number ≡ calls c.args.session b.history.entries + 1 = search rules in
    let pushed : c.switch_set-switched.new.history.entries ≡ b.history.entries ++ entry c.args.session c.args.number (recorded (Switch c.args.set) c.in-Ok.reply) c.in-Ok.reply ∷ [] = search rules in
    let low : 1 ≤ c.args.session = search rules in
    let high : c.args.session ≤ 16 = search rules in
    let place : c.count_place-own.result ≡ c.args.session - 1 = omega (arith, c.count_place-own.ensures.place) in
    rw place (is_book-next b.counts (g.S.Shelf.sets c.switch_set-switched.new.shelf) old c.switch_set-switched.new.register (entry c.args.session c.args.number (recorded (Switch c.args.set) c.in-Ok.reply) c.in-Ok.reply) c.switch_set-switched.new.history.entries are c.self.invariant.long low high number pushed (returns-clause-stands g c))
