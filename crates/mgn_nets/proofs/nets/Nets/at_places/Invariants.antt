use Rattle.std.proofs.Common.{◌≡◌, ◌<◌, ◌≤◌, ℕ, get_or, length, pos}
use Rattle.std.specs.Prelude.{None}
use Rattle.mgn_span.specs.Scan.{value_at}
use Rattle.mgn_nets.specs.Numbers.{number_at}
use Rattle.mgn_nets.proofs.nets.Nets.at_places.Given as goal

abbrev pub invariant-loop-i : goal.invariant-loop-i
invariant-loop-i l = record {
  long : length l.nets ≡ length l.places;
  done : (k : ℕ) → k < l.i → value_at l.nets k ≡ number_at l.self (get_or l.places k None);
  rest : (k : ℕ) → l.i ≤ k → value_at l.nets k ≡ pos 0;
}
