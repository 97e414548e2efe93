use Rattle.std.proofs.Common.{arith, ◌≡◌, ◌-◌, ◌∙◌, sym, take, drop, length, length-drop}
use Rattle.std.proofs.lemmas.List.{take_all}
use Rattle.mgn_session.proofs.LineFacts.{no_end, no_ends, splits_at}
use Rattle.mgn_session.proofs.ends.count_ends.Goals as goal

pub loop-at-preserved : goal.loop-at-preserved
loop-at-preserved c =
    let text = c.args.text.now in
    let left : take (length text - c.loop-at.at) (drop c.loop-at.at text) ≡ drop c.loop-at.at text =
    take_all (length text - c.loop-at.at) (drop c.loop-at.at text) (omega (arith, length-drop c.loop-at.at text)) in
    let cut = splits_at text c.loop-at.at c.in-Some.end c.loop-at.invariant.within (sym (rw left at c.find_end.ensures) ∙ c.in-Some.is) in
    record {
      within = cut.0;
      few = omega (arith, c.loop-at.invariant.few);
      count = omega (arith, c.loop-at.invariant.count, cut.3);
    }

pub returns-in-None : goal.returns-in-None
returns-in-None c =
    let text = c.args.text.now in
    let left : take (length text - c.loop-at.at) (drop c.loop-at.at text) ≡ drop c.loop-at.at text =
    take_all (length text - c.loop-at.at) (drop c.loop-at.at text) (omega (arith, length-drop c.loop-at.at text)) in
    let whole = no_end (drop c.loop-at.at text) (sym (rw left at c.find_end.ensures) ∙ c.in-None.is) in
    omega (arith, c.loop-at.invariant.count, no_ends (drop c.loop-at.at text) whole)
