use Rattle.std.proofs.Common.{◌≡◌, ◌+◌, ◌-◌, ◌<◌, ◌≤◌, ◌++◌, ◌∷◌, [], arith, rules, length, List, subst, sym}
use Rattle.mgn_params.specs.Shelves.{set_at}
use Rattle.mgn_params.specs.Tables.{Tables}
use Rattle.mgn_machine.specs.declared.request.Request.TheVariants.{Switch}
use Rattle.mgn_machine.specs.History.{entry, calls, recorded}
use Rattle.mgn_machine.proofs.Histories.{calls-few}
use Rattle.mgn_unit.specs.Amounts.{AreKnown, KeepsPlaces}
use Rattle.mgn_book.specs.BookViews.{AreCounts, BookView, Stands}
use Rattle.mgn_book.specs.Switches.{IsSwitched}
use Rattle.mgn_book.proofs.Histories.{is_book-next, stands-switched}
use Rattle.mgn_book.proofs.book.Book.commit_known_switch.Goals as goal

pub switch_known-switched-requires-clause-keeps : goal.switch_known-switched-requires-clause-keeps
switch_known-switched-requires-clause-keeps g c =
    subst (λ (b : BookView). KeepsPlaces (set_at (g.S.Shelf.sets c.args.shelf.now) b.book.state.version) c.args.set) (sym c.self.view_is) c.requires.keeps

pub switch_known-switched-requires-clause-known : goal.switch_known-switched-requires-clause-known
switch_known-switched-requires-clause-known g c =
    subst (λ (b : BookView). AreKnown c.args.set b.book.rows c.args.known.now) (sym c.self.view_is) c.requires.known

pub switch_known-switched-requires-clause-number : goal.switch_known-switched-requires-clause-number
switch_known-switched-requires-clause-number g c =
    let b = c.self.inside in
    let number : c.args.number ≡ calls c.args.session b.history.entries + 1 = search rules in
    let few : length b.history.entries < 1000000 = search rules in
    omega (arith, number, few, calls-few c.args.session b.history.entries)

pub returns-clause-stands : goal.returns-clause-stands
returns-clause-stands g c =
    let b = c.self.inside in
    let sets : List Tables = g.S.Shelf.sets c.args.shelf.now in
    let now : List Tables = g.S.Shelf.sets c.switch_known-switched.new.shelf in
    let old : BookView = record { book = b.register; history = b.history.entries } in
    let stands : Stands sets old = search rules in
    let number : c.args.number ≡ calls c.args.session b.history.entries + 1 = search rules in
    let few : length b.history.entries < 1000000 = search rules in
    let switched : IsSwitched sets now b.register c.switch_known-switched.new.register c.args.set c.in-Ok.reply = search rules in
    let pushed : c.switch_known-switched.new.history.entries ≡ b.history.entries ++ entry c.args.session c.args.number (recorded (Switch c.args.set) c.in-Ok.reply) c.in-Ok.reply ∷ [] = search rules in
    stands-switched sets now old c.switch_known-switched.new.register c.args.session c.args.number c.args.set c.in-Ok.reply c.switch_known-switched.new.history.entries stands switched number few pushed

pub invariant_of-self-2 : goal.invariant_of-self-2
invariant_of-self-2 g c =
    let b = c.self.inside in
    let old : BookView = record { book = b.register; history = b.history.entries } in
    let are : AreCounts b.counts b.history.entries = c.self.invariant.counts_are in
    let number : c.args.number ≡ calls c.args.session b.history.entries + 1 = search rules in
    let pushed : c.switch_known-switched.new.history.entries ≡ b.history.entries ++ entry c.args.session c.args.number (recorded (Switch c.args.set) c.in-Ok.reply) c.in-Ok.reply ∷ [] = search rules in
    let low : 1 ≤ c.args.session = search rules in
    let high : c.args.session ≤ 16 = search rules in
    let place : c.count_place-own.result ≡ c.args.session - 1 = omega (arith, c.count_place-own.ensures.place) in
    rw place (is_book-next b.counts (g.S.Shelf.sets c.switch_known-switched.new.shelf) old c.switch_known-switched.new.register (entry c.args.session c.args.number (recorded (Switch c.args.set) c.in-Ok.reply) c.in-Ok.reply) c.switch_known-switched.new.history.entries are c.self.invariant.long low high number pushed (returns-clause-stands g c))
