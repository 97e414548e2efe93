use Rattle.std.proofs.Common.{◌≡◌, ℕ, ◌<◌, ◌≤◌, length, unsigned_abs, slice_index}
use Rattle.mgn_span.specs.Scan.{price_risk2}
use Rattle.mgn_span.specs.Words.{total_of}
use Rattle.mgn_plain.proofs.scan.fill_price_risks.Given as goal

abbrev pub invariant-loop-g : goal.invariant-loop-g
invariant-loop-g l = record {
  done : (k : ℕ) → k < l.g → slice_index l.risks k ≡ unsigned_abs (price_risk2 (total_of l.totals k));
  rest : (k : ℕ) → l.g ≤ k → k < length l.totals → slice_index l.risks k ≡ 0;
}
