use Rattle.std.proofs.Common.{◌≡◌, ◌≢◌, ◌<◌, ◌≤◌, ◌-◌, ℕ, length}
use Rattle.mgn_span.specs.Scan.{value_at}
use Rattle.mgn_desk.specs.declared.figures.Figures.{Figures}
use Rattle.mgn_desk.specs.declared.portfolio.Portfolio.{Portfolio}
use Rattle.mgn_desk.specs.UnitLists.{AreLists, IsTogether, nets_in}
use Rattle.mgn_desk.specs.WorkedPortfolios.{AreFigures, IsBehind, worked}
use Rattle.mgn_desk.proofs.bringing.bring_branch.Given as goal

abbrev pub invariant-loop-i : goal.invariant-loop-i
invariant-loop-i l = record {
  lists : AreLists l.set l.lists;
  commodity : l.behind < length l.set.commodities;
  behind : IsBehind l.set l.behind (worked l.portfolio l.lists l.figures);
  rows : AreFigures l.set l.figures;
  others : (w : Portfolio) → w ≢ l.portfolio → (f : Figures) → worked w l.lists f ≡ worked w l.initial.lists f;
  together : (w : Portfolio) → w ≢ l.portfolio → IsTogether w l.initial.lists → IsTogether w l.lists;
  done : (k : ℕ) → k < l.from → value_at (nets_in l.portfolio l.lists) k ≡ value_at l.nets k;
  rest : (k : ℕ) → l.from ≤ k → value_at (nets_in l.portfolio l.lists) k ≡ value_at l.lots k;
}

abbrev pub decreases-loop-i : goal.decreases-loop-i
decreases-loop-i l = length l.nets - l.from
