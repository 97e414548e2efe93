use Rattle.std.proofs.Common.{◌∙◌, ◌<◌, ◌≤◌, ◌-◌, ◌+◌, arith, drop, inl, inr, length, length-drop, length-set, length-take}
use Rattle.std.proofs.lemmas.List.{length-map}
use Rattle.mgn_wire.proofs.SpaceFacts.{clear_before, clear_to, in_line, lowest, lowest_is, others_left, spaces_left}
use Rattle.mgn_wire.proofs.WordFacts.{cut_at, cut_last, empty_found, last_word, more_filled, more_words, seventh_left}
use Rattle.mgn_wire.proofs.words.split_words.Goals as goal
use Rattle.mgn_wire.proofs.words.split_words.Goals.{Else-count, then-i-start-via-then-i-start, then-i-start-via-else-i-start+then-count}

pub returns-then-i-start : goal.returns-then-i-start
returns-then-i-start c =
    let line = c.args.line.now in
    let at = c.loop-at.at in
    let start = c.loop-spaces.start in
    let spaces = c.loop-spaces.spaces in
    let was = c.loop-spaces.invariant in
    let low = lowest_is spaces c.loop-spaces-test.true (omega (arith, c.loop-spaces.auto.spaces-fits)) in
    let mark = was.marks (lowest spaces) low.0 low.1 in
    let cut = cut_at line start (at + lowest spaces) mark.0 (in_line line (at + lowest spaces) mark.1) (clear_before line at start spaces (lowest spaces) was.clear was.others low.0 low.2) mark.1 in
    let words = rw cut at was.so_far in
    elim c.then-i-start.branch [
      | then-i-start-via-then-i-start w ↦ inl (empty_found _ _ _ _ words (omega (arith, w.if-i-start.true, length-take (at + lowest spaces - start) (drop start line))))
      | then-i-start-via-else-i-start+then-count w ↦
          inr (seventh_left _ _ _ (drop (at + lowest spaces + 1) line) words (simp length-map (omega (arith, w.if-count.true, length-take c.loop-spaces.count c.loop-spaces.items, was.room))))
    ]

-- the next word ends behind its start, within the line
ends : (c : Else-count) → (c.loop-spaces.start ≤ c.loop-at.at + lowest c.loop-spaces.spaces) × (c.loop-at.at + lowest c.loop-spaces.spaces < length c.args.line.now)
ends c =
    let low = lowest_is c.loop-spaces.spaces c.loop-spaces-test.true (omega (arith, c.loop-spaces.auto.spaces-fits)) in
    let mark = c.loop-spaces.invariant.marks (lowest c.loop-spaces.spaces) low.0 low.1 in
    (mark.0, in_line c.args.line.now (c.loop-at.at + lowest c.loop-spaces.spaces) mark.1)

pub slice_bounds-items-count : goal.slice_bounds-items-count
slice_bounds-items-count c = (ends c).0

pub slice_bounds-items-start : goal.slice_bounds-items-start
slice_bounds-items-start c = omega (arith, ends c)

pub slice_bounds-items-end : goal.slice_bounds-items-end
slice_bounds-items-end c = omega (arith, ends c)

pub loop-spaces-smaller : goal.loop-spaces-smaller
loop-spaces-smaller c =
    let low = lowest_is c.loop-spaces.spaces c.loop-spaces-test.true (omega (arith, c.loop-spaces.auto.spaces-fits)) in
    let mark = c.loop-spaces.invariant.marks (lowest c.loop-spaces.spaces) low.0 low.1 in
    omega (arith, mark.0, in_line c.args.line.now (c.loop-at.at + lowest c.loop-spaces.spaces) mark.1)

pub loop-spaces-preserved : goal.loop-spaces-preserved
loop-spaces-preserved c =
    let line = c.args.line.now in
    let at = c.loop-at.at in
    let start = c.loop-spaces.start in
    let spaces = c.loop-spaces.spaces in
    let was = c.loop-spaces.invariant in
    let p = lowest spaces in
    let low = lowest_is spaces c.loop-spaces-test.true (omega (arith, c.loop-spaces.auto.spaces-fits)) in
    let mark = was.marks p low.0 low.1 in
    let within = in_line line (at + p) mark.1 in
    let left = drop start line in
    let inside : c.loop-spaces.count < length c.loop-spaces.items = omega (arith, was.few, was.room) in
    let cut = cut_at line start (at + p) mark.0 within (clear_before line at start spaces p was.clear was.others low.0 low.2) mark.1 in
    record {
      room = length-set c.loop-spaces.items c.loop-spaces.count _ ∙ was.room;
      few = omega (arith, was.few, c.if-count.false);
      begun = omega (arith, within);
      within = omega (arith, low.0);
      clear = λ k from below. absurd (omega (arith, from, below));
      marks = spaces_left line at start spaces p was.marks low.0 low.2;
      others = others_left line at start spaces p was.others low.0 mark.0;
      so_far = more_words _ _ _ _ _ _ inside was.so_far cut;
      filled = more_filled _ _ _ inside was.filled (omega (arith, mark.0, within, c.if-i-start.false, length-take (at + p - start) left, length-drop start line));
    }

pub loop-at-preserved : goal.loop-at-preserved
loop-at-preserved c =
    let was = c.loop-spaces.invariant in
    record {
      room = was.room;
      few = was.few;
      begun = was.begun;
      within = was.within;
      clear = clear_to c.args.line.now c.loop-at.at c.loop-spaces.start c.loop-spaces.spaces was.clear was.others c.loop-spaces-test.false;
      so_far = was.so_far;
      filled = was.filled;
    }

pub returns : goal.returns
returns c =
    let line = c.args.line.now in
    let was = c.loop-at.invariant in
    let inside : c.loop-at.count < length c.loop-at.items = omega (arith, was.few, was.room) in
    let last = cut_last line c.loop-at.start was.begun (λ k from below. was.clear k from (omega (arith, below, c.loop-at-test.false))) in
    last_word _ _ _ _ _ was.few inside was.so_far last was.filled
    (omega (arith, was.begun, c.if-start-line.false, length-take (length line - c.loop-at.start) (drop c.loop-at.start line), length-drop c.loop-at.start line))
