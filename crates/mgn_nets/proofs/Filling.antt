-- A list of 0 that is filled from its start.
use Rattle.std.proofs.Common.{◌≡◌, ◌≢◌, ◌∙◌, ◌<◌, ℕ, ℤ, pos, List, length, set, ap, get_or-set_other, get_or-set_same}
use Rattle.mgn_span.specs.Scan.{value_at}

pub filled-here : (nets new : List ℤ) (i : ℕ) (q : ℤ) → new ≡ set nets i q → i < length nets → value_at new i ≡ q
filled-here nets new i q is inside = ap (λ (xs : List ℤ). value_at xs i) is ∙ get_or-set_same nets i q (pos 0) inside

pub filled-other : (nets new : List ℤ) (i k : ℕ) (q : ℤ) → new ≡ set nets i q → k ≢ i → value_at new k ≡ value_at nets k
filled-other nets new i k q is apart = ap (λ (xs : List ℤ). value_at xs k) is ∙ get_or-set_other nets i k q (pos 0) apart
