use Rattle.std.proofs.Common.{arith, ◌≡◌, ◌+◌, ◌-◌, ◌∙◌, sym, take, drop, length, length-drop}
use Rattle.std.proofs.lemmas.List.{take_all}
use Rattle.mgn_session.proofs.LineFacts.{no_end, no_ends, splits_at}
use Rattle.mgn_session.proofs.RunFacts.{at_err, cuts_off, goes_on, keeps_on}
use Rattle.mgn_session.proofs.line_buffer.LineBuffer.take_chunk.Goals as goal

pub returns-then-self-ge-MAX_LINES-clause-err : goal.returns-then-self-ge-MAX_LINES-clause-err
returns-then-self-ge-MAX_LINES-clause-err g c before first size way =
    cuts_off _ before _ first _ _ size _ _ (c.loop-at.invariant.so_far before first size way)

pub returns-then-self-ge-MAX_LINES-clause-many : goal.returns-then-self-ge-MAX_LINES-clause-many
returns-then-self-ge-MAX_LINES-clause-many g c before first size way = λ is.
    let most : c.loop-at.self.lines ≡ 1000000 = omega arith in
    (drop c.loop-at.at c.args.chunk.now, omega (arith, length-drop c.loop-at.at c.args.chunk.now), rw most at (c.loop-at.invariant.so_far before first size way))

pub end_line-requires-clause-owed : goal.end_line-requires-clause-owed
end_line-requires-clause-owed g c =
    let chunk = c.args.chunk.now in
    let left : take (length chunk - c.loop-at.at) (drop c.loop-at.at chunk) ≡ drop c.loop-at.at chunk =
    take_all (length chunk - c.loop-at.at) (drop c.loop-at.at chunk) (omega (arith, length-drop c.loop-at.at chunk)) in
    let cut = splits_at chunk c.loop-at.at c.in-Some.end c.loop-at.invariant.within (sym (rw left at c.find_end.ensures) ∙ c.in-Some.is) in
    omega (arith, c.loop-at.invariant.owed, cut.3)

pub returns-in_err-end_line-in-Some-clause-err : goal.returns-in_err-end_line-in-Some-clause-err
returns-in_err-end_line-in-Some-clause-err g c before first size way =
    let chunk = c.args.chunk.now in
    let left : take (length chunk - c.loop-at.at) (drop c.loop-at.at chunk) ≡ drop c.loop-at.at chunk =
    take_all (length chunk - c.loop-at.at) (drop c.loop-at.at chunk) (omega (arith, length-drop c.loop-at.at chunk)) in
    let cut = splits_at chunk c.loop-at.at c.in-Some.end c.loop-at.invariant.within (sym (rw left at c.find_end.ensures) ∙ c.in-Some.is) in
    let now = rw cut.2 at (c.loop-at.invariant.so_far before first size way) in
    at_err _ ((rw left at c.in_err-end_line-in-Some.ensures.err) before first (drop (c.loop-at.at + (c.in-Some.end + 1)) chunk) size cut.1 now)

pub loop-at-preserved : goal.loop-at-preserved
loop-at-preserved g c =
    let chunk = c.args.chunk.now in
    let left : take (length chunk - c.loop-at.at) (drop c.loop-at.at chunk) ≡ drop c.loop-at.at chunk =
    take_all (length chunk - c.loop-at.at) (drop c.loop-at.at chunk) (omega (arith, length-drop c.loop-at.at chunk)) in
    let cut = splits_at chunk c.loop-at.at c.in-Some.end c.loop-at.invariant.within (sym (rw left at c.find_end.ensures) ∙ c.in-Some.is) in
    record {
      within = cut.0;
      lines = omega (arith, c.in_ok-end_line-in-Some.ensures.count);
      owed = omega (arith, c.loop-at.invariant.owed, cut.3, c.in_ok-end_line-in-Some.ensures.owed);
      devices = keeps_on _ _ _ c.loop-at.invariant.devices c.end_line.ensures.devices;
      so_far = λ before first size way.
          let now = rw cut.2 at (c.loop-at.invariant.so_far before first size way) in
          (rw left at c.in_ok-end_line-in-Some.ensures.ok) before first (drop (c.loop-at.at + (c.in-Some.end + 1)) chunk) size cut.1 now;
    }

pub returns-in_err-keep-in-None-clause-err : goal.returns-in_err-keep-in-None-clause-err
returns-in_err-keep-in-None-clause-err g c before first size way =
    at_err _ (cuts_off _ before _ first _ _ size _ _ (c.loop-at.invariant.so_far before first size way))

pub returns-in-None-clause-ok : goal.returns-in-None-clause-ok
returns-in-None-clause-ok g c before first size way =
    let chunk = c.args.chunk.now in
    let left : take (length chunk - c.loop-at.at) (drop c.loop-at.at chunk) ≡ drop c.loop-at.at chunk =
    take_all (length chunk - c.loop-at.at) (drop c.loop-at.at chunk) (omega (arith, length-drop c.loop-at.at chunk)) in
    let whole = no_end (drop c.loop-at.at chunk) (sym (rw left at c.find_end.ensures) ∙ c.in-None.is) in
    let front = rw left at c.in_ok-keep-in-None.ensures in
    goes_on _ before _ first _ (drop c.loop-at.at chunk) size _ _ c.keep.new.line.items (c.loop-at.invariant.so_far before first size way) whole front

pub returns-in-None-clause-owed : goal.returns-in-None-clause-owed
returns-in-None-clause-owed g c =
    let chunk = c.args.chunk.now in
    let left : take (length chunk - c.loop-at.at) (drop c.loop-at.at chunk) ≡ drop c.loop-at.at chunk =
    take_all (length chunk - c.loop-at.at) (drop c.loop-at.at chunk) (omega (arith, length-drop c.loop-at.at chunk)) in
    let whole = no_end (drop c.loop-at.at chunk) (sym (rw left at c.find_end.ensures) ∙ c.in-None.is) in
    c.loop-at.invariant.owed ∙ no_ends (drop c.loop-at.at chunk) whole
