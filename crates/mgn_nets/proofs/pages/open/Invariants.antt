use Rattle.std.proofs.Common.{◌≡◌, ◌+◌, ◌≤◌, ◌++◌, pos, replicate, vec_len}
use Rattle.std.specs.Vec.{vec_capacity}
use Rattle.mgn_nets.proofs.pages.open.Given as goal

abbrev pub invariant-loop : goal.invariant-loop
invariant-loop l = record {
  items : l.cells.items ≡ l.fn.cells.items ++ replicate l.counter (pos 0);
  room : vec_len l.cells + 16 ≤ vec_capacity l.cells + l.counter;
  same : vec_capacity l.cells ≡ vec_capacity l.fn.cells;
}
