use Rattle.std.proofs.Common.{◌≡◌, ◌<◌, ℕ, false, get_or, length, true}
use Rattle.mgn_day.specs.Gathering.{IsUnchanged}
use Rattle.mgn_ledger.proofs.ledger.Ledger.note.Given as goal

abbrev pub invariant-loop-unit : goal.invariant-loop-unit
invariant-loop-unit g l = record {
  long : length l.current.items ≡ length l.initial.current.items;
  so_far : (k : ℕ) → k < l.unit → get_or l.current.items k false ≡ true → IsUnchanged g.T.Shows.shown l.self l.since k;
}
