use Rattle.std.proofs.Common.{◌≡◌, ◌<◌, ℕ, get_or}
use Rattle.std.specs.Prelude.{None}
use Rattle.mgn_span.specs.Scan.{value_at}
use Rattle.mgn_nets.specs.Numbers.{number_at}
use Rattle.mgn_nets.proofs.nets.Nets.are_at_places.Given as goal

abbrev pub invariant-loop-i : goal.invariant-loop-i
invariant-loop-i l = (k : ℕ) → k < l.i → value_at l.self k ≡ number_at l.other (get_or l.places k None)
