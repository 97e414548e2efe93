-- The rows of each commodity, kept by pushes of commodities, spreads and spot charges.
use Rattle.std.proofs.Common.{◌≡◌, ◌≢◌, ℕ, ◌+◌, ◌<◌, ◌++◌, ◌∷◌, [], Bool, true, false, List, ap, ◌∙◌, sym, ⊎_elim, arith, length-append, length-set, get_or-set_same, get_or-set_other, count_by, refl, All, Option, Some, None, zero, suc, eq-eqb, ne_eqb}
use Rattle.std.specs.Prelude.{◌==◌, slice_set, if◌then◌else◌}
use Rattle.std.specs.List.{filter, find}
use Rattle.std.specs.Option.{option_or}
use Rattle.std.proofs.Math.ListN.{get_or-append}
use Rattle.std.proofs.Math.Seq.{get_or-append_seam}
use Rattle.std.proofs.lemmas.Bool.{cases_eq}
use Rattle.std.proofs.lemmas.List.{append-nil}
use Rattle.std.proofs.lemmas.List.Elements.{filter-append}
use Rattle.std.proofs.lemmas.List.Folds.{find-append}
use Rattle.std.proofs.lemmas.List.Sums.{sum_by-cons}
use Rattle.mgn_params.specs.declared.tables.SpotCharge.{SpotCharge}
use Rattle.mgn_params.specs.declared.tables.Spread.{Spread}
use Rattle.mgn_params.specs.CommodityRows.{AreRowsOf, Rows, no_rows, rows_at, rows_in}
use Rattle.mgn_params.specs.Limits.{IsSpotCharge, IsSpread}

-- where no row passes a test
filter_none : {X : Type 0} (p : X → Bool) (xs : List X) → All (λ x. p x ≡ false) xs → filter p xs ≡ []
filter_none p [] none = refl
filter_none p (x ∷ xs) none =
    rw (none zero x (omega arith)) (filter_none p xs (λ i d h. none (suc i) d (omega (arith, h))))

find_none : {X : Type 0} (p : X → Bool) (xs : List X) → All (λ x. p x ≡ false) xs → find p xs ≡ None
find_none p [] none = refl
find_none p (x ∷ xs) none =
    rw (none zero x (omega arith)) (find_none p xs (λ i d h. none (suc i) d (omega (arith, h))))

find_uncounted : {X : Type 0} (p : X → Bool) (xs : List X) → count_by p xs < 1 → find p xs ≡ None
find_uncounted {X} p [] few = refl
find_uncounted {X} p (x ∷ xs) few =
    let rest = find_uncounted p xs in
    let counted = sum_by-cons (λ (y : X). if p y then 1 else 0) x xs in
    (elim (p x) as (λ b. (if b then 1 else 0) + count_by p xs < 1 → (if b then Some x else find p xs) ≡ None) [ true ↦ λ h. absurd (omega (arith, h)) | false ↦ λ h. rest (omega (arith, h)) ]) (omega (arith, counted, few))

-- one row more of a commodity, or of another
filter_own : {X : Type 0} (p : X → Bool) (xs : List X) (x : X) → p x ≡ true → filter p (xs ++ x ∷ []) ≡ filter p xs ++ x ∷ []
filter_own p xs x own = filter-append p xs (x ∷ []) ∙ rw own refl

filter_other : {X : Type 0} (p : X → Bool) (xs : List X) (x : X) → p x ≡ false → filter p (xs ++ x ∷ []) ≡ filter p xs
filter_other p xs x other = filter-append p xs (x ∷ []) ∙ rw other (append-nil (filter p xs))

find_own : {X : Type 0} (p : X → Bool) (xs : List X) (x : X) → p x ≡ true → find p xs ≡ None → find p (xs ++ x ∷ []) ≡ Some x
find_own p xs x own none = find-append p xs (x ∷ []) ∙ rw (none, own) refl

or_none : {X : Type 0} (o : Option X) → option_or o None ≡ o
or_none None = refl
or_none (Some x) = refl

find_other : {X : Type 0} (p : X → Bool) (xs : List X) (x : X) → p x ≡ false → find p (xs ++ x ∷ []) ≡ find p xs
find_other p xs x other = find-append p xs (x ∷ []) ∙ rw other (or_none (find p xs))

-- a commodity more, of which no row is there yet
pub rows_commodity : (n : ℕ) (spreads : List Spread) (spots : List SpotCharge) (rows : List Rows) → All (IsSpread n) spreads → All (IsSpotCharge n) spots → AreRowsOf n spreads spots rows → AreRowsOf (n + 1) spreads spots (rows ++ no_rows ∷ [])
rows_commodity n spreads spots rows spread_limits spot_limits are = record {
  one_each = length-append rows (no_rows ∷ []) ∙ ap (λ (k : ℕ). k + 1) are.one_each;
  each = λ g low.
      ⊎_elim
      (λ (last : g ≡ n).
      let no_spreads = filter_none (λ (s : Spread). s.commodity == n) spreads (λ i d h. let limit = spread_limits i d h in ne_eqb _ n (omega (arith, limit.commodity))) in
      let no_spot = find_none (λ (s : SpotCharge). s.commodity == n) spots (λ i d h. let limit = spot_limits i d h in ne_eqb _ n (omega (arith, limit.commodity))) in
      rw (last, no_spreads, no_spot, ← are.one_each) (get_or-append_seam rows no_rows [] no_rows))
      (λ (other : g ≢ n).
      get_or-append rows (no_rows ∷ []) no_rows g (omega (arith, are.one_each)) ∙ are.each g (omega arith))
      (cases_eq g n);
}

-- other rows of one commodity
rows_moved : (n at : ℕ) (spreads spreads' : List Spread) (spots spots' : List SpotCharge) (rows : List Rows) (own : Rows) → at < n → AreRowsOf n spreads spots rows → own ≡ rows_in spreads' spots' at → ((g : ℕ) → at ≢ g → rows_in spreads spots g ≡ rows_in spreads' spots' g) → AreRowsOf n spreads' spots' (slice_set rows at own)
rows_moved n at spreads spreads' spots spots' rows own there are own_is others = record {
  one_each = length-set rows at own ∙ are.one_each;
  each = λ g low.
      ⊎_elim
      (λ (here : at ≡ g).
      rw (← here) (get_or-set_same rows at own no_rows (omega (arith, are.one_each)) ∙ own_is))
      (λ (other : at ≢ g).
      get_or-set_other rows at g own no_rows (λ e. other (sym e)) ∙ are.each g low ∙ others g other)
      (cases_eq at g);
}

-- a spread more
pub rows_spread : (n : ℕ) (spreads : List Spread) (spots : List SpotCharge) (rows : List Rows) (spread : Spread) (own : Rows) → spread.commodity < n → AreRowsOf n spreads spots rows → let was : Rows = rows_at rows spread.commodity in own ≡ record was { spreads = was.spreads ++ spread ∷ [] } → AreRowsOf n (spreads ++ spread ∷ []) spots (slice_set rows spread.commodity own)
rows_spread n spreads spots rows spread own there are own_is =
    let at = spread.commodity in
    let more = filter_own (λ (s : Spread). s.commodity == at) spreads spread (eq-eqb at at refl) in
    rows_moved n at spreads (spreads ++ spread ∷ []) spots spots rows own there are
    (own_is ∙ rw (are.each at there, more) refl)
    (λ g other. rw (filter_other (λ (s : Spread). s.commodity == g) spreads spread (ne_eqb at g other)) refl)

-- the spot month charge of a commodity that has none
pub rows_spot : (n : ℕ) (spreads : List Spread) (spots : List SpotCharge) (rows : List Rows) (spot : SpotCharge) (own : Rows) → spot.commodity < n → count_by (λ s. s.commodity == spot.commodity) spots < 1 → AreRowsOf n spreads spots rows → let was : Rows = rows_at rows spot.commodity in own ≡ record was { spot = Some spot } → AreRowsOf n spreads (spots ++ spot ∷ []) (slice_set rows spot.commodity own)
rows_spot n spreads spots rows spot own there few are own_is =
    let at = spot.commodity in
    let none = find_uncounted (λ (s : SpotCharge). s.commodity == at) spots few in
    let found = find_own (λ (s : SpotCharge). s.commodity == at) spots spot (eq-eqb at at refl) none in
    rows_moved n at spreads spreads spots (spots ++ spot ∷ []) rows own there are
    (own_is ∙ rw (are.each at there, found) refl)
    (λ g other. rw (find_other (λ (s : SpotCharge). s.commodity == g) spots spot (ne_eqb at g other)) refl)
