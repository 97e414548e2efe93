use Rattle.std.proofs.Common.{◌≡◌, Bool, count_by, filter, length, map, take}
use Rattle.std.specs.List.{range_with_len}
use Rattle.mgn_span.specs.Positions.{positions}
use Rattle.mgn_machine.specs.Statements.{commodity_line, is_held}
use Rattle.mgn_statement.proofs.lines.commodity_lines.Given as goal

abbrev pub invariant-loop-commodity : goal.invariant-loop-commodity
invariant-loop-commodity l =
    let held = positions l.set.contracts l.nets in
    record {
      so_far : l.lines ≡ map (commodity_line l.set held) (filter (is_held held) (range_with_len 0 l.commodity));
      len : length l.lines ≡ count_by (λ (mark : Bool). mark) (take l.commodity l.held);
    }
