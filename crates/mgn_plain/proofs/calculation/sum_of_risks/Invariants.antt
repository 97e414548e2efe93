use Rattle.std.proofs.Common.{◌≡◌, ℤ, List, ◌≤◌, ◌*◌, ◌^◌, unsigned_abs}
use Rattle.mgn_num.specs.Signed.{signed_sum_below}
use Rattle.mgn_span.specs.Positions.{positions}
use Rattle.mgn_span.specs.Requirement.{risk}
use Rattle.mgn_plain.specs.Parts.{AreFigureRows}
use Rattle.mgn_plain.proofs.calculation.sum_of_risks.Given as goal

abbrev pub invariant-loop-g : goal.invariant-loop-g
invariant-loop-g l = record {
  so_far : (nets : List ℤ) → AreFigureRows l.set nets l.rows → l.total ≡ signed_sum_below (risk l.set (positions l.set.contracts nets)) l.g;
  size : unsigned_abs l.total ≤ l.g * (3 * 10 ^ 27);
}
