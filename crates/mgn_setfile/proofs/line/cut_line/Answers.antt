use Rattle.std.proofs.Common.{arith, sym, ◌∙◌, ◌+◌, ◌-◌, drop, length, length-drop}
use Rattle.std.specs.Prelude.{◌==◌}
use Rattle.std.proofs.lemmas.List.{take_all}
use Rattle.mgn_setfile.proofs.LineLemmas.{cut_first}
use Rattle.mgn_setfile.proofs.line.cut_line.Goals as goal

pub returns-in-None-clause-parts : goal.returns-in-None-clause-parts
returns-in-None-clause-parts c = rw (sym c.end_of_line.ensures.place ∙ c.in-None.is) at (cut_first (λ b. b == 10) c.args.text.now)

pub returns-in-Some-clause-parts : goal.returns-in-Some-clause-parts
returns-in-Some-clause-parts c =
    let text = c.args.text.now in
    let next = c.in-Some.at + 1 in
    let cut = rw (sym c.end_of_line.ensures.place ∙ c.in-Some.is) at (cut_first (λ b. b == 10) text) in
    rw (take_all (length text - next) (drop next text) (omega (arith, length-drop next text))) cut
