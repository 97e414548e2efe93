-- A commodity without a net delta is in no spread that forms, and so gets no credit.
use Rattle.std.proofs.Common.{◌≡◌, ◌≢◌, ℕ, ◌<◌, ◌≤◌, Bool, true, false, List, [], ◌∷◌, length, get_or, ⊎_elim, inl, inr, ap, ◌∙◌, refl, arith, replicate}
use Rattle.std.specs.Prelude.{ℤ, pos, ◌||◌, ◌⊎◌, if◌then◌else◌, slice_index}
use Rattle.std.specs.List.{AllByRecursion, fold, list_all}
use Rattle.std.proofs.lemmas.Grind.{common_steps}
use Rattle.std.proofs.lemmas.Int.{ints}
use Rattle.std.proofs.lemmas.List.{get_or-replicate, get_or_past, length-replicate}
use Rattle.std.proofs.lemmas.List.Elements.{recursion_from_All}
use Rattle.std.proofs.lemmas.List.Sums.{AllPass-from_list_all}
use Rattle.std.proofs.lemmas.Bool.{cases_lt}
use Rattle.mgn_params.specs.declared.tables.CreditSpread.{CreditSpread}
use Rattle.mgn_params.specs.declared.tables.Leg.{Leg}
use Rattle.mgn_span.specs.Credits.{credits_after, credits_of, fits, formed, forms, rests_after, spread_amount}
use Rattle.mgn_span.specs.Scan.{value_at}
use Rattle.mgn_params.specs.Tables.{legs_of}

-- no leg that fits is of a commodity without a rest
fits_other : (a_long : Bool) (rests : List ℤ) (g : ℕ) (leg : Leg) → value_at rests g ≡ pos 0 → fits a_long rests leg ≡ true → leg.commodity ≢ g
fits_other a_long rests g leg none fit = λ same. let here = ap (value_at rests) same ∙ none in grind (arith, ints, here)

all_other : (a_long : Bool) (rests : List ℤ) (g : ℕ) (legs : List Leg) → value_at rests g ≡ pos 0 → list_all (fits a_long rests) legs ≡ true → AllByRecursion (λ leg. leg.commodity ≢ g) legs
all_other a_long rests g legs none fit =
    recursion_from_All (λ leg. leg.commodity ≢ g) legs (λ k d h. fits_other a_long rests g (get_or legs k d) none (AllPass-from_list_all (fits a_long rests) legs fit k d h))

either : (a b : Bool) → (a || b) ≡ true → (a ≡ true) ⊎ (b ≡ true)
either true b e = inl refl
either false b e = inr e

pub others : (rests : List ℤ) (g : ℕ) (legs : List Leg) → value_at rests g ≡ pos 0 → forms rests legs ≡ true → AllByRecursion (λ leg. leg.commodity ≢ g) legs
others rests g legs none form =
    ⊎_elim (all_other true rests g legs none) (all_other false rests g legs none) (either (list_all (fits true rests) legs) (list_all (fits false rests) legs) form)

-- legs of other commodities leave its rest and its credit as they are

rest_kept : (amount g : ℕ) (legs : List Leg) (rests : List ℤ) → AllByRecursion (λ leg. leg.commodity ≢ g) legs → value_at (rests_after rests amount legs) g ≡ value_at rests g
rest_kept amount g [] rests apart = refl
rest_kept amount g (leg ∷ legs) rests apart =
    let other = apart.0 in
    rest_kept amount g legs _ apart.1 ∙ grind (arith, common_steps)

credit_kept : (deltas : List ℤ) (risks : List ℕ) (rate amount g : ℕ) (legs : List Leg) (credits : List ℕ) → AllByRecursion (λ leg. leg.commodity ≢ g) legs → slice_index (credits_after deltas risks rate amount credits legs) g ≡ slice_index credits g
credit_kept deltas risks rate amount g [] credits apart = refl
credit_kept deltas risks rate amount g (leg ∷ legs) credits apart =
    let other = apart.0 in
    credit_kept deltas risks rate amount g legs _ apart.1 ∙ grind (arith, common_steps)

-- neither rest nor credit so far
pub record HasNothing (now : List ℤ × List ℕ) (g : ℕ) : Type 0 where
  pub rest : value_at now.0 g ≡ pos 0
  pub credit : slice_index now.1 g ≡ 0

formed_or : (b : Bool) (after now : List ℤ × List ℕ) (g : ℕ) → (b ≡ true → HasNothing after g) → HasNothing now g → HasNothing (if b then after else now) g
formed_or true after now g p q = p refl
formed_or false after now g p q = q

pub nothing_more : (deltas : List ℤ) (risks : List ℕ) (now : List ℤ × List ℕ) (g : ℕ) (spread : CreditSpread) → HasNothing now g → HasNothing (formed deltas risks now spread) g
nothing_more deltas risks now g spread has =
    let legs = legs_of spread in
    let amount = spread_amount now.0 legs in
    let after : List ℤ × List ℕ = (rests_after now.0 amount legs, credits_after deltas risks spread.rate amount now.1 legs) in
    let grown : forms now.0 legs ≡ true → HasNothing after g = λ form.
    let apart = others now.0 g legs has.rest form in
    record { rest = rest_kept amount g legs now.0 apart ∙ has.rest; credit = credit_kept deltas risks spread.rate amount g legs now.1 apart ∙ has.credit } in
    formed_or (forms now.0 legs) after now g grown has

nothing_along : (deltas : List ℤ) (risks : List ℕ) (spreads : List CreditSpread) (now : List ℤ × List ℕ) (g : ℕ) → HasNothing now g → HasNothing (fold (formed deltas risks) now spreads) g
nothing_along deltas risks [] now g has = has
nothing_along deltas risks (s ∷ spreads) now g has =
    nothing_along deltas risks spreads (formed deltas risks now s) g (nothing_more deltas risks now g s has)

pub no_credits : (n g : ℕ) → slice_index (replicate n 0) g ≡ 0
no_credits n g =
    ⊎_elim (λ (there : g < n). get_or-replicate n g 0 0 there) (λ (past : n ≤ g). get_or_past (replicate n 0) g 0 (omega (arith, length-replicate {A = ℕ} n 0))) (cases_lt g n)

pub nothing_credited : (deltas : List ℤ) (risks : List ℕ) (spreads : List CreditSpread) (g : ℕ) → value_at deltas g ≡ pos 0 → slice_index (credits_of deltas risks spreads) g ≡ 0
nothing_credited deltas risks spreads g none =
    (nothing_along deltas risks spreads (deltas, replicate (length deltas) 0) g (record { rest = none; credit = no_credits (length deltas) g })).credit
