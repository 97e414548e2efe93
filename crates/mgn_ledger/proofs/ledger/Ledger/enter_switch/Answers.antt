use Rattle.std.proofs.Common.{arith, Bool, ◌≡◌, ◌+◌, ◌∙◌, ℕ, List, length, ap, subst, sym, rules, true≢false}
use Rattle.std.specs.Prelude.{Option, vec_capacity}
use Rattle.mgn_params.specs.Shelves.{set_at}
use Rattle.mgn_params.specs.Tables.{Tables}
use Rattle.mgn_machine.specs.declared.request.Request.TheVariants.{Switch}
use Rattle.mgn_unit.specs.NewSets.{ArePrepared, PreparedUnit}
use Rattle.mgn_unit.specs.Prepared.{AreCurrent}
use Rattle.mgn_book.specs.BookViews.{sets_after}
use Rattle.mgn_day.specs.Changes.{AreSwitched}
use Rattle.mgn_day.specs.Days.{Day}
use Rattle.mgn_ledger.specs.Ledgers.{IsLedger}
use Rattle.mgn_ledger.proofs.Entries.{goes_on, ledger-switched}
use Rattle.mgn_ledger.proofs.Seen.{called, is_pass}
use Rattle.mgn_ledger.proofs.ledger.Ledger.enter_switch.Goals as goal

pub commit_switch-outcome-requires-clause-prepared : goal.commit_switch-outcome-requires-clause-prepared
commit_switch-outcome-requires-clause-prepared g c =
    subst (λ (units : List (Option PreparedUnit)). ArePrepared c.args.set units) (sym c.note_current-late.ensures.units) c.requires.prepared

pub commit_switch-outcome-requires-clause-current : goal.commit_switch-outcome-requires-clause-current
commit_switch-outcome-requires-clause-current g c =
    let book = c.self.inside.book in
    let prepared = c.note_current-late.new.prepared in
    subst (λ (sets : List Tables). AreCurrent (set_at sets book.book.state.version) c.args.set book.book.rows prepared.units.items prepared.current.items)
    (sym c.new-shelf.ensures.sets)
    c.note_current-late.ensures.current

pub set_next-requires : goal.set_next-requires
set_next-requires g c = c.closed.ensures.room (search rules)

pub invariant_of-self-in-Ok : goal.invariant_of-self-in-Ok
invariant_of-self-in-Ok g c =
    let l = c.self.inside in
    let place = c.in-Done.at in
    let reply = c.in-Done.reply in
    let session = c.pass.inside.session in
    let number = c.calls-number.result + 1 in
    let now = c.commit_switch-outcome.new.shelf.tokens.now in
    let book = c.commit_switch-outcome.new.self in
    let old : Day = record { sets = l.tokens; book = l.book } in
    let new : Day = record { sets = now; book = book } in
    let put : now ≡ sets_after l.tokens (Switch c.args.set) reply = c.in-Done.ensures.sets ∙ ap (λ (x : List Tables). sets_after x (Switch c.args.set) reply) c.new-shelf.ensures.sets in
    let on = goes_on l.tokens now l.book book session number (Switch c.args.set) place reply c.self.invariant.2.stands c.in-Done.ensures.committed put c.in-Done.ensures.stands in
    let filled : AreSwitched reply (length l.stamps + 1) l.places.items c.switch.new.places.items =
    subst (λ (k : ℕ). AreSwitched reply (k + 1) l.places.items c.switch.new.places.items) c.len-place.ensures c.switch.ensures.switched in
    let still = c.closed.ensures.sound (search rules) ∙ sym (c.closed.ensures.still (search rules)) in
    let ledger = subst (λ (b : Bool). IsLedger g.T.Shows.shown l.stamps l.places.items (vec_capacity l.places) b old) still c.self.invariant.2 in (
      c.self.invariant.0,
      c.self.invariant.1,
      ledger-switched g.T.Shows.shown l.stamps c.set_next.new.self c.of.result l.places.items c.switch.new.places.items (vec_capacity l.places) (vec_capacity c.switch.new.places) c.closed.new.broken old new session number c.args.set place reply
          ledger on c.in-Ok.ensures.pushed c.of.ensures c.switch.ensures.room filled c.in-Done.ensures.committed c.in-Done.ensures.rows put,
    )

pub invariant_of-pass : goal.invariant_of-pass
invariant_of-pass g c =
    let l = c.self.inside in
    let place = c.in-Done.at in
    let reply = c.in-Done.reply in
    let session = c.pass.inside.session in
    let number = c.calls-number.result + 1 in
    let now = c.commit_switch-outcome.new.shelf.tokens.now in
    let book = c.commit_switch-outcome.new.self in
    let old : Day = record { sets = l.tokens; book = l.book } in
    let new : Day = record { sets = now; book = book } in
    let put : now ≡ sets_after l.tokens (Switch c.args.set) reply = c.in-Done.ensures.sets ∙ ap (λ (x : List Tables). sets_after x (Switch c.args.set) reply) c.new-shelf.ensures.sets in
    let on = goes_on l.tokens now l.book book session number (Switch c.args.set) place reply c.self.invariant.2.stands c.in-Done.ensures.committed put c.in-Done.ensures.stands in
    is_pass g.T.Shows.shown c.in-Ok.stamp old new session number (Switch c.args.set) place reply on
    (ap (λ p. g.T.Shows.shown p.1) c.in-Ok.ensures.stamped ∙ c.of.ensures)
    (ap (λ (n : ℕ). n + 1) c.calls-number.ensures.count)

pub invariant_of-self-in-Err : goal.invariant_of-self-in-Err
invariant_of-self-in-Err g c =
    let l = c.self.inside in (
      c.self.invariant.0,
      c.self.invariant.1,
      record {
        stands = c.in-Done.ensures.stands;
        roomy = omega (arith, c.self.invariant.2.roomy, c.switch.ensures.room);
        stamped = λ sound. absurd (true≢false sound);
        places_are = λ sound. absurd (true≢false sound);
      },
    )

pub invariant_of-self-in-Err-2 : goal.invariant_of-self-in-Err-2
invariant_of-self-in-Err-2 g c =
    let l = c.self.inside in (
      c.self.invariant.0,
      c.self.invariant.1,
      record {
        stands = c.in-Done.ensures.stands;
        roomy = omega (arith, c.self.invariant.2.roomy, c.switch.ensures.room);
        stamped = λ sound. absurd (true≢false sound);
        places_are = λ sound. absurd (true≢false sound);
      },
    )

pub returns-in-Ok : goal.returns-in-Ok
returns-in-Ok g c =
    let l = c.self.inside in
    let place = c.in-Done.at in
    let reply = c.in-Done.reply in
    let session = c.pass.inside.session in
    let number = c.calls-number.result + 1 in
    let now = c.commit_switch-outcome.new.shelf.tokens.now in
    let book = c.commit_switch-outcome.new.self in
    let old : Day = record { sets = l.tokens; book = l.book } in
    let new : Day = record { sets = now; book = book } in
    let put : now ≡ sets_after l.tokens (Switch c.args.set) reply = c.in-Done.ensures.sets ∙ ap (λ (x : List Tables). sets_after x (Switch c.args.set) reply) c.new-shelf.ensures.sets in
    let on = goes_on l.tokens now l.book book session number (Switch c.args.set) place reply c.self.invariant.2.stands c.in-Done.ensures.committed put c.in-Done.ensures.stands in
    called c.args.pass.now old new (g.T.Shows.shown c.in-Ok.stamp.1) session number (Switch c.args.set) place reply
    (rw c.self.view_is (c.matches-fits.ensures (search rules)))
    (ap (λ p. p.session) c.pass.view_is)
    on
    (ap (λ p. g.T.Shows.shown p.1) c.in-Ok.ensures.stamped ∙ c.of.ensures)
