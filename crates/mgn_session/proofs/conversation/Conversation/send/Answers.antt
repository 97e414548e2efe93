use Rattle.std.proofs.Common.{refl}
use Rattle.mgn_session.proofs.conversation.Conversation.send.Goals as goal

pub returns-in-Err-clause-err : goal.returns-in-Err-clause-err
returns-in-Err-clause-err g c =
    let fault = rw c.in-Err.is at c.put-taken.ensures.fault in
    let failed = rw c.in-Err.is at c.put-taken.ensures.err in
    rw (c.in-Err.is, ← c.self.view_is) (
      fault,
      record {
        taken = c.put-taken.result.0;
        within = rw c.as_slice.ensures.value at c.put-taken.ensures.within;
        writes = rw c.as_slice.ensures.value at c.put-taken.ensures.wrote;
        waiting = c.remove_front.ensures;
        input = refl;
        owed = refl;
        ended = refl;
        failed_reads = refl;
        failed_writes = failed;
      },
    )
