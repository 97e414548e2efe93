use Rattle.std.proofs.Common.{◌≡◌, All, length}
use Rattle.mgn_span.specs.Positions.{IsNet}
use Rattle.bench_calls.proofs.nets.mixed_nets.Given as goal

abbrev pub invariant-loop-i : goal.invariant-loop-i
invariant-loop-i l = record {
  one_each : length l.nets.items ≡ length l.set.contracts;
  small : All IsNet l.nets.items;
}
