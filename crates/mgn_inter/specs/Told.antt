-- The places of the spreads that credit something else after a change.
use Rattle.std.specs.Prelude.{ℕ, zero, suc, ◌==◌, Bool, not, if◌then◌else◌, List, [], ◌∷◌, ◌++◌}
use Rattle.std.specs.Int.{bit_at}
use Rattle.std.specs.Str.{bytes_eq}
use Rattle.mgn_inter.specs.declared.spread_state.SpreadState.{SpreadState}
use Rattle.mgn_inter.specs.Rows.{kept_at}

-- what the spread at a place credits by what is kept, leg by leg
abbrev pub credits_at : List SpreadState → ℕ → List ℕ
credits_at kept i = (kept_at kept i).credits

-- whether the spread at a place credits something else by what is kept now than by what was
abbrev pub credits_else : List SpreadState → List SpreadState → ℕ → Bool
credits_else was now i = not (bytes_eq (credits_at was i) (credits_at now i))

-- the numbers below one that pass a test, in order
abbrev pub places_where : (ℕ → Bool) → ℕ → List ℕ
places_where test zero = []
places_where test (suc n) = if test n then places_where test n ++ n ∷ [] else places_where test n

-- the places of a number's bits that are 1, in order
unfoldable pub places_of : ℕ → List ℕ
places_of bits = places_where (λ i. bit_at bits i == 1) 64

-- the places of those of the first spreads that credit something else, in file order
abbrev pub told_of : List SpreadState → List SpreadState → ℕ → List ℕ
told_of was now count = places_where (credits_else was now) count
