use Rattle.std.proofs.Common.{◌≡◌, ◌<◌, ◌≤◌, ◌-◌, ℕ, length, pos}
use Rattle.mgn_span.specs.Scan.{value_at}
use Rattle.mgn_desk.specs.declared.portfolio.Portfolio.{Portfolio}
use Rattle.mgn_desk.specs.declared.portfolio.Portfolio.TheVariants.{Lots}
use Rattle.mgn_desk.specs.UnitLists.{AreLists, IsTogether, nets_in}
use Rattle.mgn_desk.specs.WorkedPortfolios.{AreFigures, IsBehind, worked}
use Rattle.mgn_desk.proofs.bringing.bring_lots.Given as goal

abbrev pub invariant-loop-i : goal.invariant-loop-i
invariant-loop-i l = record {
  lists : AreLists l.set l.lists;
  commodity : l.behind < length l.set.commodities;
  behind : IsBehind l.set l.behind (worked Lots l.lists l.figures);
  rows : AreFigures l.set l.figures;
  together : (w : Portfolio) → IsTogether w l.lists;
  done : (k : ℕ) → k < l.from → value_at (nets_in Lots l.lists) k ≡ value_at l.nets k;
  rest : (k : ℕ) → l.from ≤ k → value_at (nets_in Lots l.lists) k ≡ pos 0;
}

abbrev pub decreases-loop-i : goal.decreases-loop-i
decreases-loop-i l = length l.nets - l.from
