use Rattle.std.proofs.Common.{arith, ◌≡◌, ◌+◌, ◌-◌, ◌<◌, ◌≤◌, ◌∙◌, refl, drop, length, take}
use Rattle.std.proofs.lemmas.List.{length-take, take-append-le}
use Rattle.std.proofs.lemmas.Result.{err_from_is_err_and}
use Rattle.mgn_session.proofs.RunFacts.{answers_to_end, at_err, begins, one_byte_more, read_failed, reads_more, stops, stops_at_more}
use Rattle.mgn_session.proofs.run.run_lines.Goals as goal

pub loop-left-init : goal.loop-left-init
loop-left-init g c =
    record {
      way = rw c.new-lines.ensures.lines (begins _ _ _ _ c.requires c.new-lines.ensures.line);
      left = omega arith;
      lines = omega (arith, c.new-lines.ensures.lines);
      quiet = c.requires;
      failed_reads = refl;
      failed_writes = refl;
    }

pub returns-in_err-taken-clause-err : goal.returns-in_err-taken-clause-err
returns-in_err-taken-clause-err g c =
    let inv = c.loop-left.invariant in
    at_err _ (stops _ _ _ _ _ c.loop-left.lines.lines (read_failed _ _ _ _ _ _ _ _ c.loop-left.lines.line.items inv.way inv.quiet c.in_err-taken.ensures.err.1))

pub returns-then-taken-eq0-clause-ok : goal.returns-then-taken-eq0-clause-ok
returns-then-taken-eq0-clause-ok g c =
    let inv = c.loop-left.invariant in
    let none : c.in_ok-taken.taken ≡ 0 = omega arith in
    let room : 0 < length c.read.new.buf = omega (arith, c.read.auto.buf, length-take c.min-room.result c.loop-left.chunk) in
    answers_to_end _ _ c.loop-left.talk c.read.new.self _ _ (268435456 - c.loop-left.left) c.loop-left.lines.lines (length c.read.new.buf) _
    inv.way inv.quiet (rw none at c.in_ok-taken.ensures.ok) room inv.lines (omega arith)

pub returns-in_err-answer_chunk-clause-err : goal.returns-in_err-answer_chunk-clause-err
returns-in_err-answer_chunk-clause-err g c =
    let inv = c.loop-left.invariant in
    let whole = take-append-le c.in_ok-taken.taken c.read.new.buf (drop c.min-room.result c.loop-left.chunk) c.in_ok-taken.ensures.bound.0 in
    let more = reads_more _ _ c.loop-left.talk c.read.new.self _ _ (268435456 - c.loop-left.left) c.loop-left.lines.lines (length c.read.new.buf) _
    (take c.in_ok-taken.taken c.read.new.buf) inv.way c.in_ok-taken.ensures.ok in
    at_err _ ((rw whole at c.in_err-answer_chunk.ensures.err) _ _ _ more)

pub returns-in_err-answer_chunk-clause-lines : goal.returns-in_err-answer_chunk-clause-lines
returns-in_err-answer_chunk-clause-lines g c =
    let inv = c.loop-left.invariant in
    let whole = take-append-le c.in_ok-taken.taken c.read.new.buf (drop c.min-room.result c.loop-left.chunk) c.in_ok-taken.ensures.bound.0 in
    let more = reads_more _ _ c.loop-left.talk c.read.new.self _ _ (268435456 - c.loop-left.left) c.loop-left.lines.lines (length c.read.new.buf) _
    (take c.in_ok-taken.taken c.read.new.buf) inv.way c.in_ok-taken.ensures.ok in
    let fault = err_from_is_err_and c.from_residual-in_err-answer_chunk.result c.from_residual-in_err-answer_chunk.ensures.1 in
    rw (fault.1, fault.2) ((rw whole at c.in_err-answer_chunk.ensures.many) _ _ _ more)

pub returns-in_err-answer_chunk-clause-memory : goal.returns-in_err-answer_chunk-clause-memory
returns-in_err-answer_chunk-clause-memory g c =
    let inv = c.loop-left.invariant in
    let whole = take-append-le c.in_ok-taken.taken c.read.new.buf (drop c.min-room.result c.loop-left.chunk) c.in_ok-taken.ensures.bound.0 in
    let more = reads_more _ _ c.loop-left.talk c.read.new.self _ _ (268435456 - c.loop-left.left) c.loop-left.lines.lines (length c.read.new.buf) _
    (take c.in_ok-taken.taken c.read.new.buf) inv.way c.in_ok-taken.ensures.ok in
    let fault = err_from_is_err_and c.from_residual-in_err-answer_chunk.result c.from_residual-in_err-answer_chunk.ensures.1 in
    rw (fault.1, fault.2) ((rw whole at c.in_err-answer_chunk.ensures.memory) _ _ _ more)

pub loop-left-preserved : goal.loop-left-preserved
loop-left-preserved g c =
    let inv = c.loop-left.invariant in
    let chunk = take c.in_ok-taken.taken c.read.new.buf in
    let whole = take-append-le c.in_ok-taken.taken c.read.new.buf (drop c.min-room.result c.loop-left.chunk) c.in_ok-taken.ensures.bound.0 in
    let more = reads_more _ _ c.loop-left.talk c.read.new.self _ _ (268435456 - c.loop-left.left) c.loop-left.lines.lines (length c.read.new.buf) _
    chunk inv.way c.in_ok-taken.ensures.ok in
    let now = (rw whole at c.in_ok-answer_chunk.ensures.ok) _ _ _ more in
    let few : c.in_ok-taken.taken ≤ c.loop-left.left =
    omega (arith, c.in_ok-taken.ensures.bound, c.read.auto.buf, length-take c.min-room.result c.loop-left.chunk) in
    let size : (268435456 - c.loop-left.left) + length chunk ≡ 268435456 - (c.loop-left.left - c.in_ok-taken.taken) =
    omega (arith, few, inv.left, c.in_ok-taken.ensures.bound, length-take c.in_ok-taken.taken c.read.new.buf) in
    record {
      way = rw size at now;
      left = omega arith;
      lines = c.in_ok-answer_chunk.ensures.lines;
      quiet = c.in_ok-answer_chunk.ensures.quiet;
      failed_reads = c.in_ok-answer_chunk.ensures.failures.reads ∙ (c.in_ok-taken.ensures.ok.failed_reads ∙ inv.failed_reads);
      failed_writes = c.in_ok-answer_chunk.ensures.failures.writes ∙ (c.in_ok-taken.ensures.ok.failed_writes ∙ inv.failed_writes);
    }

pub returns-in_err-read-clause-err : goal.returns-in_err-read-clause-err
returns-in_err-read-clause-err g c =
    let inv = c.loop-left.invariant in
    at_err _ (stops _ _ _ _ _ c.loop-left.lines.lines (read_failed _ _ _ _ _ _ _ _ c.loop-left.lines.line.items inv.way inv.quiet c.in_err-read.ensures.err.1))

pub returns-in-0-clause-ok : goal.returns-in-0-clause-ok
returns-in-0-clause-ok g c =
    let inv = c.loop-left.invariant in
    let room : 0 < length c.read-2.new.buf = omega (arith, c.read-2.auto.buf) in
    answers_to_end _ _ c.loop-left.talk c.read-2.new.self _ _ (268435456 - c.loop-left.left) c.loop-left.lines.lines (length c.read-2.new.buf) _
    inv.way inv.quiet (rw c.in-0.is at c.in_ok-read.ensures.ok) room inv.lines (omega arith)

pub returns-clause-err : goal.returns-clause-err
returns-clause-err g c =
    let inv = c.loop-left.invariant in
    let whole : 268435456 - c.loop-left.left ≡ 268435456 = omega arith in
    let some : 0 < length (take c.in_ok-read.field-0 c.read-2.new.buf) = omega (arith, c.in_ok-read.ensures.bound, length-take c.in_ok-read.field-0 c.read-2.new.buf) in
    stops_at_more _ _ _ _ _ (one_byte_more _ _ c.loop-left.talk c.read-2.new.self _ _ c.loop-left.lines.lines (length c.read-2.new.buf) _
    (take c.in_ok-read.field-0 c.read-2.new.buf) (rw whole at inv.way) inv.quiet c.in_ok-read.ensures.ok some)
