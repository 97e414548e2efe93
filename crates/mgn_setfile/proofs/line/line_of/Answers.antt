use Rattle.std.proofs.Common.{arith, ◌∙◌, ◌+◌, ◌≤◌, ℕ, List, length, option_map, Bor, ap, sym}
use Rattle.mgn_setfile.specs.File.{line_of_record}
use Rattle.mgn_setfile.proofs.FileLemmas.{after_next, left_of, less, line_is, numbers_left}
use Rattle.mgn_setfile.proofs.NumberLemmas.{has_number, no_number, passes_blank}
use Rattle.mgn_setfile.proofs.line.line_of.Goals as goal

pub loop-rest-preserved-then-is_blank : goal.loop-rest-preserved-then-is_blank
loop-rest-preserved-then-is_blank c =
    let i = rw c.in-Some.is at c.loop-rest.invariant in
    let h : left_of c.cut_line.result.1 ≤ length c.in-Some.left.now = less c.cut_line.result.1 (length c.in-Some.left.now) c.cut_line.ensures.shorter in
    record {
      room = omega (arith, i.room);
      few = omega (arith, i.few);
      less = i.less;
      numbers = i.numbers ∙ passes_blank c.loop-rest.lines c.cut_line.result.0.now c.in-Some.left.now (option_map (λ (t : Bor (List ℕ)). t.now) c.cut_line.result.1) c.cut_line.ensures.parts (sym c.if-is_blank.ensures);
    }

pub returns-then-count-number : goal.returns-then-count-number
returns-then-count-number c =
    let i = rw c.in-Some.is at c.loop-rest.invariant in
    let more = option_map (λ (t : Bor (List ℕ)). t.now) c.cut_line.result.1 in
    line_is c.args.text.now (numbers_left (c.loop-rest.lines + 1) more) c.loop-rest.count (c.loop-rest.lines + 1) (i.numbers ∙ has_number c.loop-rest.lines c.cut_line.result.0.now c.in-Some.left.now more c.cut_line.ensures.parts (sym c.if-is_blank.ensures))
    ∙ ap (λ (k : ℕ). line_of_record c.args.text.now k) c.if-count-number.true

pub loop-rest-preserved : goal.loop-rest-preserved
loop-rest-preserved c =
    let i = rw c.in-Some.is at c.loop-rest.invariant in
    let h : left_of c.cut_line.result.1 ≤ length c.in-Some.left.now = less c.cut_line.result.1 (length c.in-Some.left.now) c.cut_line.ensures.shorter in
    let more = option_map (λ (t : Bor (List ℕ)). t.now) c.cut_line.result.1 in
    record {
      room = omega (arith, i.room);
      few = omega (arith, i.few);
      less = omega (arith, i.less);
      numbers = after_next c.loop-rest.count _ _ (c.loop-rest.lines + 1) (i.numbers ∙ has_number c.loop-rest.lines c.cut_line.result.0.now c.in-Some.left.now more c.cut_line.ensures.parts (sym c.if-is_blank.ensures));
    }

pub returns : goal.returns
returns c =
    let i = rw c.in_default.is at c.loop-rest.invariant in
    no_number c.args.text.now c.loop-rest.count c.args.number i.less i.numbers
