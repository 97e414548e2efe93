use Rattle.std.proofs.Common.{◌≡◌, ◌≤◌, ◌*◌, ◌^◌, ℕ, take, length, slice_index}
use Rattle.std.specs.List.{fold}
use Rattle.mgn_span.specs.Credits.{formed}
use Rattle.mgn_span.specs.Words.{AreRests}
use Rattle.mgn_plain.proofs.credits.add_credits.Given as goal

abbrev pub invariant-loop-spread : goal.invariant-loop-spread
invariant-loop-spread l = record {
  so_far : (l.rests, l.credits) ≡ fold (formed l.deltas l.risks) (l.initial.rests, l.initial.credits) (take l.spread-index l.spreads);
  rests : AreRests l.deltas l.rests;
  credit_each : length l.credits ≡ length l.deltas;
  small : (g : ℕ) → slice_index l.credits g ≤ l.spread-index * (4 * 10 ^ 33);
}
