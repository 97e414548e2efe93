use Rattle.std.proofs.Common.{◌≡◌, ◌∙◌, sym, rules}
use Rattle.std.proofs.lemmas.Bool.{eqb-true}
use Rattle.mgn_machine.specs.History.{calls}
use Rattle.mgn_day.specs.Days.{Day}
use Rattle.mgn_ledger.proofs.Seen.{beside-fresh, beside-seen}
use Rattle.mgn_ledger.proofs.ledger.Ledger.matches.Goals.{in-Some+else-not-has, in_default}
use Rattle.mgn_ledger.proofs.ledger.Ledger.matches.Goals as goal

pub returns : goal.returns
returns g c = λ yes.
    let p = c.pass.inside in
    let l = c.self.inside in
    let day : Day = record { sets = l.tokens; book = l.book } in
    let same : calls p.session l.book.history ≡ p.count = sym c.calls.ensures.count ∙ eqb-true _ _ yes in
    let stamped = c.self.invariant.2.stamped c.if-self.false in
    rw (← c.pass.view_is, ← c.self.view_is)
    (elim c.match-pass.branch [
      | in-Some+else-not-has w ↦
          beside-seen g.T.Shows.shown p.session p.count w.in-Some.stamp.0 w.in-Some.stamp.1 p.last l.stamps day c.pass.invariant w.in-Some.is stamped w.has.ensures.some (w.has.ensures.held.0 (search rules)) (w.has.ensures.shown (search rules)) same
      | in_default w ↦ beside-fresh g.T.Shows.shown p.session p.count p.last day c.pass.invariant w.in_default.is same
    ])
