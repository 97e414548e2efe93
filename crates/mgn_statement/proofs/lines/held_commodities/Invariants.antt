use Rattle.std.proofs.Common.{◌≡◌, ◌-◌, ◌≤◌, ℕ, false, length, slice_index_or, take}
use Rattle.mgn_span.specs.Positions.{positions}
use Rattle.mgn_machine.specs.Statements.{is_held}
use Rattle.mgn_statement.proofs.lines.held_commodities.Given as goal

-- the marks so far are those of the first positions
abbrev pub invariant-loop-i : goal.invariant-loop-i
invariant-loop-i l = record {
  within : l.from ≤ length l.nets;
  long : length l.held ≡ 256;
  marked : (g : ℕ) → slice_index_or l.held g false ≡ is_held (take l.from (positions l.set.contracts l.nets)) g;
}

abbrev pub decreases-loop-i : goal.decreases-loop-i
decreases-loop-i l = length l.nets - l.from
