use Rattle.std.proofs.Common.{◌≡◌, ◌<◌, ℕ, length, slice_index}
use Rattle.mgn_span.specs.Scan.{value_at}
use Rattle.mgn_inter.specs.Columns.{deltas_in, risks_in}
use Rattle.mgn_span.specs.Words.{leg_at}
use Rattle.mgn_inter.proofs.rows.gather.Given as goal

abbrev pub invariant-loop-k : goal.invariant-loop-k
invariant-loop-k l = record {
  legs_long : length l.legs ≡ length l.spread.legs;
  deltas_long : length l.deltas ≡ 4;
  risks_long : length l.risks ≡ 4;
  places : (j : ℕ) → j < l.k → (leg_at l.legs j).commodity ≡ j;
  ratios : (j : ℕ) → (leg_at l.legs j).ratio ≡ (leg_at l.spread.legs j).ratio;
  deltas_are : (j : ℕ) → j < l.k → value_at l.deltas j ≡ value_at (deltas_in l.numbers) (leg_at l.spread.legs j).commodity;
  risks_are : (j : ℕ) → j < l.k → slice_index l.risks j ≡ slice_index (risks_in l.numbers) (leg_at l.spread.legs j).commodity;
}
