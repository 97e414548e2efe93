use Rattle.std.proofs.Common.{◌≡◌, ◌<◌, ◌≤◌, ℕ, length}
use Rattle.std.specs.Prelude.{slice_index_or, vec_capacity}
use Rattle.mgn_day.proofs.places.extend.Given as goal

abbrev pub invariant-loop-unit : goal.invariant-loop-unit
invariant-loop-unit l = record {
  long : length l.places.items ≡ l._unit;
  old : (u : ℕ) → u < length l.initial.places.items → slice_index_or l.places.items u 0 ≡ slice_index_or l.initial.places.items u 0;
  new : (u : ℕ) → length l.initial.places.items ≤ u → u < l._unit → slice_index_or l.places.items u 0 ≡ l.place;
  room : vec_capacity l.places ≡ vec_capacity l.initial.places;
}
