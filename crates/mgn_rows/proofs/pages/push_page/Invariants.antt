use Rattle.std.proofs.Common.{◌≡◌, ◌+◌, ◌≤◌, ◌++◌, replicate, vec_len}
use Rattle.std.specs.Vec.{vec_capacity}
use Rattle.mgn_rows.proofs.pages.push_page.Given as goal

abbrev pub invariant-loop : goal.invariant-loop
invariant-loop g l = record {
  items : l.cells.items ≡ l.fn.cells.items ++ replicate l.counter l.value;
  room : vec_len l.cells + 16 ≤ vec_capacity l.cells + l.counter;
  same : vec_capacity l.cells ≡ vec_capacity l.fn.cells;
}
