use Rattle.std.proofs.Common.{◌≡◌, ◌<◌, ◌++◌, ℕ, List, All, length}
use Rattle.std.specs.Prelude.{if◌then◌else◌}
use Rattle.mgn_span.specs.Scan.{value_at}
use Rattle.mgn_inter.specs.Rows.{named}
use Rattle.mgn_desk.specs.WorkedPortfolios.{worked, worked_risk}
use Rattle.mgn_desk.proofs.figures.Figures.mend_spreads.Given as goal

abbrev pub invariant-loop-place : goal.invariant-loop-place
invariant-loop-place l = record {
  kept : l.self ≡ record l.initial.self { risks = l.self.risks };
  long : length l.self.risks ≡ length l.initial.self.risks;
  places : All (λ i. i < length l.set.credits) l.left;
  risks : (done : List ℕ) × (done ++ l.left ≡ l.initial.left) × ((k : ℕ) → k < length l.initial.self.risks → value_at l.self.risks k ≡ (if named k l.set.credits done then worked_risk (worked l.portfolio l.lists l.initial.self) k else value_at l.initial.self.risks k));
}

abbrev pub decreases-loop-place : goal.decreases-loop-place
decreases-loop-place l = length l.left
