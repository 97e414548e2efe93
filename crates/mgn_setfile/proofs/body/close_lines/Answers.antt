use Rattle.std.proofs.Common.{ℕ, List, Bor, option_map}
use Rattle.mgn_setfile.proofs.BodyLemmas.{body_cut, body_ends, line_added}
use Rattle.mgn_setfile.proofs.body.close_lines.Goals as goal

pub returns-then-not-branch : goal.returns-then-not-branch
returns-then-not-branch c =
    let so_far = rw c.in-Some.is at c.loop-rest.invariant in
    let cut = rw c.if-not-branch.true at c.in_ok-add_line.ensures in
    rw cut.1 (body_cut c.args.text.now c.loop-rest.bytes.items c.cut_line.result.0.now c.in-Some.left.now (option_map (λ (t : Bor (List ℕ)). t.now) c.cut_line.result.1) c.cut_line.ensures.parts so_far cut.0)

pub loop-rest-preserved : goal.loop-rest-preserved
loop-rest-preserved c =
    let so_far = rw c.in-Some.is at c.loop-rest.invariant in
    let added = rw c.if-not-branch.false at c.in_ok-add_line.ensures in
    line_added c.args.text.now c.loop-rest.bytes.items c.add_line.new.bytes.items c.cut_line.result.0.now c.in-Some.left.now (option_map (λ (t : Bor (List ℕ)). t.now) c.cut_line.result.1) c.cut_line.ensures.parts so_far added

pub returns : goal.returns
returns c =
    let so_far = rw c.in_default.is at c.loop-rest.invariant in
    body_ends c.args.text.now c.loop-rest.bytes.items so_far
