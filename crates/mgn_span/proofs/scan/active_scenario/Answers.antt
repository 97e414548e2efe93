use Rattle.std.proofs.Common.{arith, ◌≡◌, refl}
use Rattle.mgn_span.specs.Scan.{value_at}
use Rattle.mgn_span.proofs.ActiveLemmas.{active_along}
use Rattle.mgn_span.proofs.scan.active_scenario.Goals as goal

pub returns-clause-active : goal.returns-clause-active
returns-clause-active c =
    let all : c.loop-s.s ≡ 16 = omega arith in
    active_along (value_at c.args.totals.now) (value_at c.args.totals.now) c.loop-s.best (λ s h. refl) record {
      scenario = omega arith;
      largest = λ k h. c.loop-s.invariant.largest k (omega arith);
      lowest = c.loop-s.invariant.lowest;
    }
