use Rattle.std.proofs.Common.{arith, length}
use Rattle.std.proofs.lemmas.List.{take_all}
use Rattle.mgn_session.proofs.RunFacts.{at_err, cuts_off, either, if_err, if_on_err, on_err, on_ok, sends, sends_all_but, sends_cut_off, sends_much}
use Rattle.mgn_session.proofs.run.answer_chunk.Goals as goal

pub returns-in_err-send-clause-err : goal.returns-in_err-send-clause-err
returns-in_err-send-clause-err g c before first size way =
    let failed = c.in_err-send.ensures.err in
    let cut = either c.take_chunk-taken.result (c.take_chunk-taken.ensures.ok before first size way) (c.take_chunk-taken.ensures.err before first size way)
    (λ on. cuts_off _ before _ first _ _ size _ _ on) (λ off. off) in
    at_err _ (sends_cut_off _ before _ _ first _ failed.1.taken cut failed.1.writes failed.1.within failed.1.input)

pub returns-clause-ok : goal.returns-clause-ok
returns-clause-ok g c before first size way =
    on_ok c.take_chunk-taken.result (c.take_chunk-taken.ensures.ok before first size way) (λ on. sends _ before _ _ first _ size _ _ on c.in_ok-send.ensures.ok)

pub returns-clause-err : goal.returns-clause-err
returns-clause-err g c before first size way =
    let sent = c.in_ok-send.ensures.ok in
    let waiting = c.take_chunk-taken.new.talk.waiting in
    on_err c.take_chunk-taken.result (c.take_chunk-taken.ensures.err before first size way)
    (λ off. sends_cut_off _ before c.take_chunk-taken.new.talk c.send.new.self first _ (length waiting) off (rw (take_all (length waiting) waiting (omega arith)) sent.writes) (omega arith) sent.input)

pub returns-clause-many : goal.returns-clause-many
returns-clause-many g c before first size way =
    if_err c.take_chunk-taken.result (c.take_chunk-taken.ensures.many before first size way)
    (λ fault many is. sends_much _ before _ _ first _ (many is).0 size _ (many is).2 (many is).1 c.in_ok-send.ensures.ok)

pub returns-clause-memory : goal.returns-clause-memory
returns-clause-memory g c before first size way =
    if_on_err c.take_chunk-taken.result (c.take_chunk-taken.ensures.err before first size way)
    (λ fault off is. sends_all_but _ before _ _ first _ off c.in_ok-send.ensures.ok)
