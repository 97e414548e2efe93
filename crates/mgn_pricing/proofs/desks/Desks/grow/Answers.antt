use Rattle.std.proofs.Common.{◌≡◌, ◌∙◌, ◌++◌, ◌∷◌, [], None, ap, refl, rules, arith, length, length-append, List, subst, sym}
use Rattle.mgn_desk.specs.Desks.{DeskRows}
use Rattle.mgn_pricing.specs.Desks.{AreNumbered, marked_at}
use Rattle.mgn_pricing.proofs.Moved.{marked-pushed}
use Rattle.mgn_pricing.proofs.Numbered.{pushed_numbered}
use Rattle.mgn_pricing.proofs.desks.Desks.grow.Goals as goal

pub loop-number-preserved : goal.loop-number-preserved
loop-number-preserved c =
    let before : List DeskRows = c.loop-number.self-inside.desks.items in
    let pushed : c.push.new.self.items ≡ before ++ c.empty.result ∷ [] = search rules in
    let long = ap length pushed ∙ length-append before (c.empty.result ∷ []) in
    record {
      long = omega (arith, long, c.loop-number.invariant.long);
      numbered = subst AreNumbered (sym pushed) (pushed_numbered before c.empty.result c.loop-number.invariant.numbered (ap (λ (d : DeskRows). d.unit) c.empty.ensures ∙ sym c.loop-number.invariant.long));
      same = λ k. ap (λ (xs : List DeskRows). marked_at xs k) pushed ∙ marked-pushed before c.empty.result record { unit = k; marked = None } k (ap (λ (d : DeskRows). d.marked) c.empty.ensures) refl ∙ c.loop-number.invariant.same k;
      few = λ n old units. omega (arith, long, units, c.loop-number.invariant.long, c.loop-number-test.true);
    }
