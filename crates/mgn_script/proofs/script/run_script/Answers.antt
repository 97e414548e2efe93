use Rattle.mgn_session.proofs.RunFacts.{if_err, if_ok, on_err}
use Rattle.mgn_script.proofs.ScriptFacts.{answers, catches_up, has_too_much, replays, runs_out, starts, stops}
use Rattle.mgn_script.proofs.script.run_script.Goals as goal

pub returns-clause-ok : goal.returns-clause-ok
returns-clause-ok g c =
    let fresh = starts _ c.requires.fresh (rw (← c.plain.view_is) c.plain.invariant.stands.shown) in
    if_ok c.run_lines.result c.run_lines.ensures.ok (λ n all. answers _ _ _ _ _ _ _ n fresh all)

pub returns-clause-err : goal.returns-clause-err
returns-clause-err g c =
    let fresh = starts _ c.requires.fresh (rw (← c.plain.view_is) c.plain.invariant.stands.shown) in
    on_err c.run_lines.result c.run_lines.ensures.err (λ all. stops _ _ _ _ _ _ _ fresh all)

pub returns-clause-read : goal.returns-clause-read
returns-clause-read g c =
    let fresh = starts _ c.requires.fresh (rw (← c.plain.view_is) c.plain.invariant.stands.shown) in
    if_err c.run_lines.result c.run_lines.ensures.read (λ fault all is. ((all is).0, catches_up _ _ _ _ _ _ _ (all is).0 fresh (all is).1))

pub returns-clause-lines : goal.returns-clause-lines
returns-clause-lines g c =
    let fresh = starts _ c.requires.fresh (rw (← c.plain.view_is) c.plain.invariant.stands.shown) in
    if_err c.run_lines.result c.run_lines.ensures.lines (λ fault all is. has_too_much _ _ _ _ _ _ _ fresh (all is))

pub returns-clause-memory : goal.returns-clause-memory
returns-clause-memory g c =
    let fresh = starts _ c.requires.fresh (rw (← c.plain.view_is) c.plain.invariant.stands.shown) in
    if_err c.run_lines.result c.run_lines.ensures.memory (λ fault all is. runs_out _ _ _ _ _ _ _ fresh (all is))

pub returns-clause-sets : goal.returns-clause-sets
returns-clause-sets g c =
    let fresh = starts _ c.requires.fresh (rw (← c.plain.view_is) c.plain.invariant.stands.shown) in
    (replays _ c.run_lines.result _ _ _ _ _ _ fresh c.run_lines.ensures.ok c.run_lines.ensures.err).sets

pub returns-clause-state : goal.returns-clause-state
returns-clause-state g c =
    let fresh = starts _ c.requires.fresh (rw (← c.plain.view_is) c.plain.invariant.stands.shown) in
    (replays _ c.run_lines.result _ _ _ _ _ _ fresh c.run_lines.ensures.ok c.run_lines.ensures.err).state
