use Rattle.std.proofs.Common.{◌≡◌, ◌<◌, ℕ, length}
use Rattle.std.specs.Prelude.{slice_index_or, vec_capacity}
use Rattle.mgn_day.proofs.places.fill.Given as goal

abbrev pub invariant-loop-unit : goal.invariant-loop-unit
invariant-loop-unit l = record {
  long : length l.places.items ≡ length l.initial.places.items;
  all : (u : ℕ) → u < l.unit → slice_index_or l.places.items u 0 ≡ l.place;
  room : vec_capacity l.places ≡ vec_capacity l.initial.places;
}
