use Rattle.std.proofs.Common.{List, ap, arith, pos, rules, ℤ}
use Rattle.std.proofs.lemmas.Bool.{true_from_ne_false}
use Rattle.std.proofs.lemmas.List.{ext_get_or}
use Rattle.mgn_span.specs.Scan.{value_at}
use Rattle.mgn_nets.proofs.pages.are_same_cells.Goals as goal

pub returns : goal.returns
returns c = (
  λ same.
      ext_get_or (pos 0) c.args.cells.now c.args.others.now (search rules)
      (λ k inside. c.loop-i.invariant.same same k (omega (arith, inside, c.loop-i-test.false))),
  λ one.
      true_from_ne_false c.loop-i.same
      (λ no.
      let other = c.loop-i.invariant.other no in
      other.1 (ap (λ (xs : List ℤ). value_at xs other.0) one)),
)
