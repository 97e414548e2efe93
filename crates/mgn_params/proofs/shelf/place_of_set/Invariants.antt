use Rattle.std.proofs.Common.{◌≡◌, ◌<◌, ℕ}
use Rattle.mgn_params.specs.Shelves.{set_at}
use Rattle.mgn_params.proofs.shelf.place_of_set.Given as goal

-- none of the sets so far is the one
abbrev pub invariant-loop-place : goal.invariant-loop-place
invariant-loop-place l = (i : ℕ) → i < l.place → set_at l.fn.sets i ≡ l.fn.set → ⊥
