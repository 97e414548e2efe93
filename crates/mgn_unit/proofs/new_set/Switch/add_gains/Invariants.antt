use Rattle.std.proofs.Common.{◌≡◌, ◌<◌, ◌≤◌, ◌*◌, ◌^◌, ℕ, length, take, unsigned_abs}
use Rattle.mgn_span.specs.Scan.{value_at}
use Rattle.mgn_unit.specs.NewSets.{unit_gain}
use Rattle.mgn_unit.proofs.new_set.Switch.add_gains.Given as goal

abbrev pub invariant-loop-account : goal.invariant-loop-account
invariant-loop-account l = record {
  long : length l.gains ≡ length l.initial.gains;
  so_far : (u : ℕ) → u < length l.initial.gains → value_at l.gains u ≡ unit_gain l.self.old l.self.new (take l.account-index l.accounts) u;
  size : (u : ℕ) → u < length l.initial.gains → unsigned_abs (value_at l.gains u) ≤ l.account-index * (2 * 10 ^ 18);
}
