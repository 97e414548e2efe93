use Rattle.std.proofs.Common.{◌≡◌, ℤ, List, map, vec_len}
use Rattle.std.specs.Vec.{vec_capacity}
use Rattle.std.specs.List.{range_with_len}
use Rattle.mgn_span.specs.Positions.{positions}
use Rattle.mgn_plain.specs.Figures.{commodity_figures}
use Rattle.mgn_plain.specs.Parts.{AreFigureRows}
use Rattle.mgn_plain.proofs.calculation.list_figures.Given as goal

abbrev pub invariant-loop-g : goal.invariant-loop-g
invariant-loop-g l = record {
  so_far : (nets : List ℤ) → AreFigureRows l.set nets l.rows → l.list.items ≡ map (commodity_figures l.set (positions l.set.contracts nets)) (range_with_len 0 l.g);
  len : vec_len l.list ≡ l.g;
  room : vec_capacity l.list ≡ l.count;
}
