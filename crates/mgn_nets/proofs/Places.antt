-- Lists of the quantities at places, for `at_places` and `are_at_places`.
use Rattle.std.proofs.Common.{◌≡◌, ◌<◌, ◌∙◌, ℕ, List, length, map, get_or, sym, arith}
use Rattle.std.specs.Prelude.{ℤ, pos, Option, None}
use Rattle.std.proofs.lemmas.List.{ext_get_or, get_or-map, length-map}
use Rattle.mgn_nets.specs.Numbers.{number_at}

-- there is one for each place, and the list is known by them
pub at-places-long : (other : List ℤ) (places : List (Option ℕ)) → length (map (number_at other) places) ≡ length places
at-places-long other places = length-map places (number_at other)

pub at-place : (other : List ℤ) (places : List (Option ℕ)) (i : ℕ) → i < length places → get_or (map (number_at other) places) i (pos 0) ≡ number_at other (get_or places i None)
at-place other places i inside = get_or-map (number_at other) places i None (pos 0) inside

pub at-places-all : (row other : List ℤ) (places : List (Option ℕ)) → length row ≡ length places → ((k : ℕ) → k < length places → get_or row k (pos 0) ≡ number_at other (get_or places k None)) → row ≡ map (number_at other) places
at-places-all row other places long each =
    ext_get_or (pos 0) row (map (number_at other) places) (long ∙ sym (at-places-long other places))
    (λ i inside. each i (omega (arith, long, inside)) ∙ sym (at-place other places i (omega (arith, long, inside))))
