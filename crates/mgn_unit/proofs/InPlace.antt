-- Contracts that stand in the new set where they stood in the old one: for `are_own_places` and `carry`.
use Rattle.std.proofs.Common.{◌≡◌, position, ℕ, ◌<◌, List, length, map, get_or, refl, sym, ◌∙◌, ap, arith}
use Rattle.std.specs.Prelude.{ℤ, pos, Option, None, Some}
use Rattle.std.specs.List.{range_with_len}
use Rattle.std.proofs.lemmas.List.{length-map}
use Rattle.std.proofs.lemmas.List.FromFn.{fill_by_all, get_or-map-range_with_len, length-map-range_with_len}
use Rattle.std.proofs.lemmas.Simd.{map-map}
use Rattle.std.specs.Str.{bytes_eq}
use Rattle.mgn_params.specs.declared.tables.Contract.{Contract}
use Rattle.mgn_params.specs.Limits.{contract_names}
use Rattle.mgn_params.specs.Tables.{Tables}
use Rattle.mgn_nets.specs.Numbers.{number_at}
use Rattle.mgn_unit.specs.NewSets.{carried, own_places, places_in}

-- a list of which each place is its own has all places
pub own-all : (places : List (Option ℕ)) (count : ℕ) → length places ≡ count → ((k : ℕ) → k < count → get_or places k None ≡ Some k) → places ≡ own_places count
own-all places count long each = fill_by_all Some places count None long each

pub own-length : (places : List (Option ℕ)) (count : ℕ) → places ≡ own_places count → length places ≡ count
own-length places count own = ap length own ∙ length-map-range_with_len Some 0 count

pub own-at : (places : List (Option ℕ)) (count k : ℕ) → places ≡ own_places count → k < count → get_or places k None ≡ Some k
own-at places count k own less = ap (λ (all : List (Option ℕ)). get_or all k None) own ∙ get_or-map-range_with_len Some 0 count k k None less (omega arith)

-- a row at these places is the row
pub row-in_place : (row : List ℤ) (count : ℕ) → length row ≡ count → map (number_at row) (own_places count) ≡ row
row-in_place row count long =
    map-map (number_at row) Some (range_with_len 0 count)
    ∙ sym (fill_by_all (λ (i : ℕ). get_or row i (pos 0)) row count (pos 0) long (λ k less. refl))

pub carried-in_place : (old new : Tables) (places : List (Option ℕ)) (row : List ℤ) → places ≡ places_in old new → places ≡ own_places (length old.contracts) → length row ≡ length old.contracts → carried old new row ≡ row
carried-in_place old new places row are own long =
    ap (λ (all : List (Option ℕ)). map (number_at row) all) (sym are ∙ own) ∙ row-in_place row (length old.contracts) long

pub carried-length : (old new : Tables) (row : List ℤ) → length (carried old new row) ≡ length new.contracts
carried-length old new row =
    length-map (places_in old new) (number_at row) ∙ length-map new.contracts (λ (c : Contract). position (bytes_eq c.name) (contract_names old.contracts))
