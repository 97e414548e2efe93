-- Rows of one number for each commodity, of which `settle` writes one.
use Rattle.std.proofs.Common.{◌≡◌, ◌≢◌, ℕ, ◌<◌, length, set, get_or, map, ap, ◌∙◌, sym, arith, ⊎_elim, length-set, get_or-set_same, get_or-set_other}
use Rattle.std.specs.List.{range_with_len}
use Rattle.std.proofs.lemmas.Bool.{cases_eq}
use Rattle.std.proofs.lemmas.List.FromFn.{fill_by_all, get_or-map-range_with_len, length-map-range_with_len}

-- a row of numbers by `f`, with one by `h` written, is one by `h` where the others are equal
pub row-set : {X : Type 0} (d : X) (f h : ℕ → X) (n g : ℕ) → g < n → ((k : ℕ) → k < n → k ≢ g → h k ≡ f k) → set (map f (range_with_len 0 n)) g (h g) ≡ map h (range_with_len 0 n)
row-set d f h n g low others =
    let row = map f (range_with_len 0 n) in
    let long : length row ≡ n = length-map-range_with_len f 0 n in
    fill_by_all h (set row g (h g)) n d (length-set row g (h g) ∙ long) (λ k inside.
    ⊎_elim
    (λ (here : k ≡ g). ap (λ (j : ℕ). get_or (set row g (h g)) j d) here ∙ get_or-set_same row g (h g) d (omega (arith, long, low)) ∙ ap h (sym here))
    (λ (other : k ≢ g). get_or-set_other row g k (h g) d other ∙ get_or-map-range_with_len f 0 n k k d inside (omega arith) ∙ sym (others k inside other))
    (cases_eq k g))
