use Rattle.std.proofs.Common.{◌≡◌, ◌≤◌, ℕ, length}
use Rattle.mgn_pricing.specs.Desks.{AreNumbered, marked_at}
use Rattle.mgn_pricing.proofs.desks.Desks.grow.Given as goal

abbrev pub invariant-loop-number : goal.invariant-loop-number
invariant-loop-number l = record {
  long : length l.self-inside.desks.items ≡ l.number;
  numbered : AreNumbered l.self-inside.desks.items;
  same : (k : ℕ) → marked_at l.self-inside.desks.items k ≡ marked_at l.fn.self k;
  few : (n : ℕ) → length l.fn.self ≤ n → l.units ≤ n → length l.self-inside.desks.items ≤ n;
}
