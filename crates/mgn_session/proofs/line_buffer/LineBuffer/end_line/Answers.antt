use Rattle.std.proofs.Common.{refl, inl, inr}
use Rattle.mgn_session.proofs.RunFacts.{at_err, cut_in_room, cuts_off, keeps_in_room, keeps_on, loses_reply, replies, way_in_room}
use Rattle.mgn_session.proofs.line_buffer.LineBuffer.end_line.Goals as goal

pub returns-in_err-reserve-clause-err : goal.returns-in_err-reserve-clause-err
returns-in_err-reserve-clause-err g c before first rest size whole way =
    at_err _ (cut_in_room _ before _ _ first _ c.reserve.ensures.kept (cuts_off _ before _ first _ _ size _ _ way))

pub returns-in_err-reserve-clause-room : goal.returns-in_err-reserve-clause-room
returns-in_err-reserve-clause-room g c = at_err _ (inl refl)

pub returns-in_err-reserve-clause-devices : goal.returns-in_err-reserve-clause-devices
returns-in_err-reserve-clause-devices g c = keeps_in_room _ _ c.reserve.ensures.kept

pub returns-in_err-complete-clause-err : goal.returns-in_err-complete-clause-err
returns-in_err-complete-clause-err g c before first rest size whole way =
    at_err _ (cut_in_room _ before _ _ first _ c.reserve.ensures.kept (cuts_off _ before _ first _ _ size _ _ way))

pub returns-in_err-complete-clause-room : goal.returns-in_err-complete-clause-room
returns-in_err-complete-clause-room g c = at_err _ (inl refl)

pub returns-in_err-complete-clause-devices : goal.returns-in_err-complete-clause-devices
returns-in_err-complete-clause-devices g c = keeps_in_room _ _ c.reserve.ensures.kept

pub returns-in_err-reply-clause-err : goal.returns-in_err-reply-clause-err
returns-in_err-reply-clause-err g c before first rest size whole way =
    let now = way_in_room _ before _ _ first _ _ size _ _ c.reserve.ensures.kept way in
    let answered = rw (c.read_line.ensures, c.whole_line-whole.ensures, c.deref.ensures.value, c.in_ok-complete.ensures) at c.answer_line-reply.ensures in
    at_err _ (cut_in_room _ before _ _ first _ c.in_err-reply.ensures.err
    (loses_reply _ before _ first _ _ rest size _ c.args.self.now.line.items c.args.last.now c.answer_line-reply.result now whole answered
    (λ none. cc (c.in_err-reply.ensures.fits none c.in_ok-reserve.ensures.ok))))

pub returns-in_err-reply-clause-room : goal.returns-in_err-reply-clause-room
returns-in_err-reply-clause-room g c =
    let answered = rw (c.read_line.ensures, c.whole_line-whole.ensures, c.deref.ensures.value, c.in_ok-complete.ensures) at c.answer_line-reply.ensures in
    at_err _ (inr (c.answer_line-reply.result, (λ none. cc (c.in_err-reply.ensures.fits none c.in_ok-reserve.ensures.ok)), answered))

pub returns-in_err-reply-clause-devices : goal.returns-in_err-reply-clause-devices
returns-in_err-reply-clause-devices g c =
    keeps_on _ _ _ (keeps_in_room _ _ c.reserve.ensures.kept) (keeps_in_room _ _ c.in_err-reply.ensures.err)

pub returns-clause-ok : goal.returns-clause-ok
returns-clause-ok g c before first rest size whole way =
    let now = way_in_room _ before _ _ first _ _ size _ _ c.reserve.ensures.kept way in
    let answered = rw (c.read_line.ensures, c.whole_line-whole.ensures, c.deref.ensures.value, c.in_ok-complete.ensures) at c.answer_line-reply.ensures in
    rw c.clear.ensures.items
    (replies _ before _ _ first _ _ rest size _ c.args.self.now.line.items c.args.last.now c.answer_line-reply.result now whole answered c.in_ok-reply.ensures.ok)

pub returns-clause-devices : goal.returns-clause-devices
returns-clause-devices g c =
    keeps_on _ _ _ (keeps_in_room _ _ c.reserve.ensures.kept) c.in_ok-reply.ensures.ok.devices
