use Rattle.std.proofs.Common.{◌≡◌, ◌≤◌, ◌++◌, ◌-◌, None, length, replicate}
use Rattle.mgn_world.proofs.state.more_locks.Given as goal

abbrev pub invariant-loop : goal.invariant-loop
invariant-loop l = record {
  so_far : l.locks.items ≡ l.initial.locks.items ++ replicate (l.counter - length l.initial.locks.items) None;
  stays : l.units ≤ length l.initial.locks.items → l.counter ≡ length l.initial.locks.items;
  from : length l.initial.locks.items ≤ l.counter;
}
