use Rattle.std.proofs.Common.{◌<◌, ◌≤◌, ◌∙◌, arith, false, length, sym, true≢false, ⊎_elim}
use Rattle.std.proofs.lemmas.Bool.{cases_lt}
use Rattle.std.proofs.lemmas.List.{get_or_past}
use Rattle.mgn_ledger.proofs.ledger.Ledger.note.Goals as goal

pub returns-clause-noted : goal.returns-clause-noted
returns-clause-noted g c = λ u noted.
    let current = c.loop-unit.current.items in
    ⊎_elim
    (λ (less : u < length current). c.loop-unit.invariant.so_far u (omega (arith, less, c.loop-unit.invariant.long, c.loop-unit-test.false, c.loop-unit.auto)) noted)
    (λ (past : length current ≤ u). absurd (true≢false (sym noted ∙ get_or_past current u false past)))
    (cases_lt u (length current))
