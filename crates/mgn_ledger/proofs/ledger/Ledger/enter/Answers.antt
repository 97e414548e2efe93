use Rattle.std.proofs.Common.{arith, Bool, ◌≡◌, ◌+◌, ◌∙◌, ℕ, List, length, sym, ap, subst, rules}
use Rattle.std.specs.Prelude.{vec_capacity}
use Rattle.mgn_params.specs.Shelves.{set_at}
use Rattle.mgn_params.specs.Tables.{Tables}
use Rattle.mgn_machine.specs.declared.request.Request.TheVariants.{Do}
use Rattle.mgn_unit.specs.declared.row.Row.{Row}
use Rattle.mgn_plan.specs.declared.plans.Plan.{Plan}
use Rattle.mgn_plan.specs.Plans.{IsPossible, LeavesNets, plan_of}
use Rattle.mgn_day.specs.Changes.{AreRenewed, AreThere, Leads, settled}
use Rattle.mgn_day.specs.Days.{Day, set_of}
use Rattle.mgn_ledger.specs.Ledgers.{IsLedger}
use Rattle.mgn_ledger.proofs.Entries.{goes_on, leads, ledger-push}
use Rattle.mgn_day.proofs.PlaceFacts.{rows-longer, settled-there}
use Rattle.mgn_ledger.proofs.Seen.{called, is_pass}
use Rattle.mgn_ledger.proofs.ledger.Ledger.enter.Goals as goal

pub set_next-requires : goal.set_next-requires
set_next-requires g c = c.closed.ensures.room (search rules)

pub renew-requires-clause-grown : goal.renew-requires-clause-grown
renew-requires-clause-grown g c =
    let are = c.self.invariant.2.places_are (c.closed.ensures.sound (search rules)) in
    omega (arith, are.long, rows-longer _ _ _ _ _ c.in-Done.ensures.nets, ap length c.rows.ensures)

pub renew-requires-clause-there : goal.renew-requires-clause-there
renew-requires-clause-there g c =
    let l = c.self.inside in
    let day : Day = record { sets = l.tokens; book = l.book } in
    let are = c.self.invariant.2.places_are (c.closed.ensures.sound (search rules)) in
    let possible : IsPossible (set_of day) day.book.book.rows c.args.plan.now = subst (λ (d : Day). IsPossible (set_of d) d.book.book.rows c.args.plan.now) (sym c.self.view_is) c.requires.possible in
    subst (λ (p : Plan). AreThere p (length l.places.items)) (sym c.settled-done.ensures) (settled-there (set_of day) day.book.book.rows c.args.plan.now c.in-Done.reply (length l.places.items) possible are.long)

pub invariant_of-self-in-Ok : goal.invariant_of-self-in-Ok
invariant_of-self-in-Ok g c =
    let l = c.self.inside in
    let command = c.args.command.now in
    let plan = c.args.plan.now in
    let place = c.in-Done.at in
    let reply = c.in-Done.reply in
    let session = c.pass.inside.session in
    let number = c.calls-number.result + 1 in
    let now = c.new-shelf.result.tokens.now in
    let book = c.commit_known-outcome.new.self in
    let old : Day = record { sets = l.tokens; book = l.book } in
    let new : Day = record { sets = now; book = book } in
    let on = goes_on l.tokens now l.book book session number (Do command) place reply c.self.invariant.2.stands c.in-Done.ensures.committed c.new-shelf.ensures.sets c.in-Done.ensures.stands in
    let planned : plan ≡ plan_of (set_at now l.book.book.state.version) l.book.book.state command =
    c.requires.plan ∙ ap (λ (d : Day). plan_of (set_of d) d.book.book.state command) (sym c.self.view_is)
    ∙ ap (λ (s : List Tables). plan_of (set_at s l.book.book.state.version) l.book.book.state command) (sym c.new-shelf.ensures.sets) in
    let rows : LeavesNets (set_at now l.book.book.state.version) plan reply l.book.book.rows book.book.rows =
    subst (λ (p : Plan). LeavesNets (set_at now l.book.book.state.version) p reply l.book.book.rows book.book.rows) (sym planned) c.in-Done.ensures.nets in
    let was = l.places.items in
    let is = c.renew.new.places.items in
    let renewed : AreRenewed (settled plan reply) (length book.book.rows) (length l.stamps + 1) was is =
    subst (λ (p : Plan). AreRenewed p (length book.book.rows) (length l.stamps + 1) was is) c.settled-done.ensures
    (subst (λ (k : ℕ). AreRenewed c.settled-done.result (length book.book.rows) (k + 1) was is) c.len-place.ensures
    (subst (λ (r : List Row). AreRenewed c.settled-done.result (length r) (c.len-place.result + 1) was is) c.rows.ensures c.renew.ensures.renewed)) in
    let to = leads g.T.Shows.shown c.of.result l.tokens now l.book book session number command place plan reply c.new-shelf.ensures.sets c.in-Done.ensures.committed rows c.of.ensures in
    let still = c.closed.ensures.sound (search rules) ∙ sym (c.closed.ensures.still (search rules)) in
    let ledger = subst (λ (b : Bool). IsLedger g.T.Shows.shown l.stamps was (vec_capacity l.places) b old) still c.self.invariant.2 in (
      c.self.invariant.0,
      c.self.invariant.1,
      ledger-push g.T.Shows.shown l.stamps c.set_next.new.self c.of.result was is (vec_capacity l.places) (vec_capacity c.renew.new.places) c.closed.new.broken old new session number command place plan reply
          ledger on c.in-Ok.ensures.pushed c.of.ensures c.renew.ensures.room renewed to,
    )

pub invariant_of-pass : goal.invariant_of-pass
invariant_of-pass g c =
    let l = c.self.inside in
    let command = c.args.command.now in
    let place = c.in-Done.at in
    let reply = c.in-Done.reply in
    let session = c.pass.inside.session in
    let number = c.calls-number.result + 1 in
    let now = c.new-shelf.result.tokens.now in
    let book = c.commit_known-outcome.new.self in
    let old : Day = record { sets = l.tokens; book = l.book } in
    let new : Day = record { sets = now; book = book } in
    let on = goes_on l.tokens now l.book book session number (Do command) place reply c.self.invariant.2.stands c.in-Done.ensures.committed c.new-shelf.ensures.sets c.in-Done.ensures.stands in
    is_pass g.T.Shows.shown c.again.result old new session number (Do command) place reply on
    (ap (λ p. g.T.Shows.shown p.1) (c.again.ensures ∙ c.in-Ok.ensures.stamped) ∙ c.of.ensures)
    (ap (λ (n : ℕ). n + 1) c.calls-number.ensures.count)

pub returns-in-Ok : goal.returns-in-Ok
returns-in-Ok g c =
    let l = c.self.inside in
    let command = c.args.command.now in
    let plan = c.args.plan.now in
    let place = c.in-Done.at in
    let reply = c.in-Done.reply in
    let session = c.pass.inside.session in
    let number = c.calls-number.result + 1 in
    let now = c.new-shelf.result.tokens.now in
    let book = c.commit_known-outcome.new.self in
    let old : Day = record { sets = l.tokens; book = l.book } in
    let new : Day = record { sets = now; book = book } in
    let on = goes_on l.tokens now l.book book session number (Do command) place reply c.self.invariant.2.stands c.in-Done.ensures.committed c.new-shelf.ensures.sets c.in-Done.ensures.stands in
    let planned : plan ≡ plan_of (set_at now l.book.book.state.version) l.book.book.state command =
    c.requires.plan ∙ ap (λ (d : Day). plan_of (set_of d) d.book.book.state command) (sym c.self.view_is)
    ∙ ap (λ (s : List Tables). plan_of (set_at s l.book.book.state.version) l.book.book.state command) (sym c.new-shelf.ensures.sets) in
    let rows : LeavesNets (set_at now l.book.book.state.version) plan reply l.book.book.rows book.book.rows =
    subst (λ (p : Plan). LeavesNets (set_at now l.book.book.state.version) p reply l.book.book.rows book.book.rows) (sym planned) c.in-Done.ensures.nets in
    let shows = ap (λ p. g.T.Shows.shown p.1) c.in-Ok.ensures.stamped ∙ c.of.ensures in (
      called c.args.pass.now old new (g.T.Shows.shown c.again.result.1) session number (Do command) place reply
          (rw c.self.view_is (c.matches-fits.ensures (search rules)))
          (ap (λ p. p.session) c.pass.view_is)
          on
          (ap (λ p. g.T.Shows.shown p.1) c.again.ensures ∙ shows),
      subst (λ (d : Day). Leads g.T.Shows.shown d plan reply c.in-Ok.stamp.1) c.self.view_is
          (leads g.T.Shows.shown c.in-Ok.stamp.1 l.tokens now l.book book session number command place plan reply c.new-shelf.ensures.sets c.in-Done.ensures.committed rows shows),
    )
