use Rattle.std.proofs.Common.{◌≡◌, ◌≢◌, ℕ, false, true, slice_index, take}
use Rattle.std.specs.Int.{bit_at}
use Rattle.mgn_params.specs.Naming.{names}
use Rattle.mgn_params.proofs.naming.name_legs.Given as goal

abbrev pub invariant-loop-leg : goal.invariant-loop-leg
invariant-loop-leg l = record {
  others : (g i : ℕ) → i ≢ l.place → bit_at (slice_index l.naming g) i ≡ bit_at (slice_index l.initial.naming g) i;
  named : (g : ℕ) → names g (take l.leg-index l.legs) ≡ true → bit_at (slice_index l.naming g) l.place ≡ 1;
  unnamed : (g : ℕ) → names g (take l.leg-index l.legs) ≡ false → slice_index l.naming g ≡ slice_index l.initial.naming g;
}
