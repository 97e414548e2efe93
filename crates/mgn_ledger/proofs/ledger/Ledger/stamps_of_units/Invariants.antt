use Rattle.std.proofs.Common.{◌≡◌, ◌<◌, ℕ, get_or, length, vec_len}
use Rattle.std.specs.Vec.{vec_capacity}
use Rattle.mgn_day.specs.Changes.{SameUnit}
use Rattle.mgn_ledger.proofs.ledger.Ledger.stamps_of_units.Given as goal

abbrev pub invariant-loop-unit : goal.invariant-loop-unit
invariant-loop-unit g l = record {
  len : vec_len l.since ≡ l.unit;
  room : vec_capacity l.since ≡ length l.self.book.book.rows;
  so_far : (u : ℕ) → (s : _) → u < l.unit → SameUnit (g.T.Shows.shown (get_or l.since.items u s).1) l.self u;
}
