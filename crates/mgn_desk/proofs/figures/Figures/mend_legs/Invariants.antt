use Rattle.std.proofs.Common.{◌≡◌, ◌<◌, ℕ, length, take}
use Rattle.std.specs.Prelude.{if◌then◌else◌}
use Rattle.mgn_inter.specs.Rows.{names}
use Rattle.mgn_span.specs.Scan.{value_at}
use Rattle.mgn_desk.specs.WorkedPortfolios.{worked, worked_risk}
use Rattle.mgn_desk.proofs.figures.Figures.mend_legs.Given as goal

abbrev pub invariant-loop-leg : goal.invariant-loop-leg
invariant-loop-leg l = record {
  kept : l.self ≡ record l.initial.self { risks = l.self.risks };
  long : length l.self.risks ≡ length l.initial.self.risks;
  risks : (k : ℕ) → k < length l.initial.self.risks → value_at l.self.risks k ≡ (if names k (take l.leg-index l.legs) then worked_risk (worked l.portfolio l.lists l.initial.self) k else value_at l.initial.self.risks k);
}
