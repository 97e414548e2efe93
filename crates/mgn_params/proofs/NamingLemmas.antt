-- The intercommodity spreads that name each commodity, kept by pushes of commodities and spreads.
use Rattle.std.proofs.Common.{◌≡◌, ◌≢◌, ℕ, ◌+◌, ◌<◌, ◌≤◌, ◌++◌, ◌∷◌, [], true, false, List, length, slice_index, ap, ◌∙◌, refl, ⊎_elim, arith, All, length-append, ne_eqb}
use Rattle.std.specs.Prelude.{◌==◌}
use Rattle.std.specs.Int.{bit_at}
use Rattle.std.proofs.Math.ListN.{get_or-append}
use Rattle.std.proofs.Math.Seq.{get_or-append_seam}
use Rattle.std.proofs.lemmas.Bool.{cases_Bool, cases_eq, cases_lt}
use Rattle.std.proofs.lemmas.List.{get_or_past}
use Rattle.std.proofs.lemmas.List.Folds.{list_any_none}
use Rattle.std.proofs.lemmas.Nat.Bits.{bit_at-zero}
use Rattle.mgn_params.specs.declared.tables.CreditSpread.{CreditSpread}
use Rattle.mgn_params.specs.declared.tables.Leg.{Leg}
use Rattle.mgn_params.specs.Limits.{IsCreditSpread}
use Rattle.mgn_params.specs.Naming.{AreNamings, names}
use Rattle.mgn_params.specs.Tables.{credit_spread_at, legs_of, no_credit_spread}

-- no spread stands past the last one
past : (spreads : List CreditSpread) (g i : ℕ) → length spreads ≤ i → names g (legs_of (credit_spread_at spreads i)) ≡ false
past spreads g i h = rw (get_or_past spreads i no_credit_spread h) refl

-- no spread names a commodity that is not there
unnamed : (n : ℕ) (spreads : List CreditSpread) (g i : ℕ) → All (IsCreditSpread n) spreads → n ≤ g → names g (legs_of (credit_spread_at spreads i)) ≡ false
unnamed n spreads g i limits out =
    ⊎_elim
    (λ (inside : i < length spreads).
    let limit = limits i no_credit_spread inside in
    list_any_none (λ (leg : Leg). leg.commodity == g) (legs_of (credit_spread_at spreads i)) (λ j d low. ne_eqb _ g (omega (arith, out, (limit.legs j d low).commodity))))
    (λ (h : length spreads ≤ i). past spreads g i h)
    (cases_lt i (length spreads))

-- a commodity more, which no spread names yet
pub naming_commodity : (n : ℕ) (spreads : List CreditSpread) (naming : List ℕ) → All (IsCreditSpread n) spreads → AreNamings n spreads naming → AreNamings (n + 1) spreads (naming ++ 0 ∷ [])
naming_commodity n spreads naming limits are = record {
  one_each = length-append naming (0 ∷ []) ∙ ap (λ (k : ℕ). k + 1) are.one_each;
  each = λ g low i.
      ⊎_elim
      (λ (last : g ≡ n).
      let none : slice_index (naming ++ 0 ∷ []) g ≡ 0 = rw (last, ← are.one_each) (get_or-append_seam naming 0 [] 0) in
      rw (none, unnamed n spreads g i limits (omega (arith, last))) (bit_at-zero i))
      (λ (other : g ≢ n).
      rw (get_or-append naming (0 ∷ []) 0 g (omega (arith, other, low, are.one_each))) (are.each g (omega (arith, other, low)) i))
      (cases_eq g n);
}

-- a spread more
pub naming_spread : (n : ℕ) (spreads : List CreditSpread) (naming new : List ℕ) (s : CreditSpread) → AreNamings n spreads naming → length new ≡ length naming → let p = length spreads in ((g i : ℕ) → i ≢ p → bit_at (slice_index new g) i ≡ bit_at (slice_index naming g) i) → ((g : ℕ) → names g (legs_of s) ≡ true → bit_at (slice_index new g) p ≡ 1) → ((g : ℕ) → names g (legs_of s) ≡ false → slice_index new g ≡ slice_index naming g) → AreNamings n (spreads ++ s ∷ []) new
naming_spread n spreads naming new s are long others own out =
    let more : List CreditSpread = spreads ++ s ∷ [] in
    let p = length spreads in
    record {
      one_each = long ∙ are.one_each;
      each = λ g low i.
          ⊎_elim
          (λ (before : i < p).
          rw (get_or-append spreads (s ∷ []) no_credit_spread i before) (others g i (omega (arith, before)) ∙ are.each g low i))
          (λ (from : p ≤ i).
          let none : bit_at (slice_index naming g) i ≡ 0 = are.each g low i ∙ rw (past spreads g i from) refl in
          ⊎_elim
          (λ (here : i ≡ p).
          let seam : credit_spread_at more p ≡ s = get_or-append_seam spreads s [] no_credit_spread in
          let row : credit_spread_at more i ≡ s = ap (λ (k : ℕ). credit_spread_at more k) here ∙ seam in
          ⊎_elim
          (λ (named : names g (legs_of s) ≡ true). rw (row, named, here) (own g named))
          (λ (no : names g (legs_of s) ≡ false). rw (row, no, out g no) none)
          (cases_Bool (names g (legs_of s))))
          (λ (other : i ≢ p).
          let behind : length more ≤ i = omega (arith, from, other, length-append spreads (s ∷ [])) in
          rw (past more g i behind) (others g i other ∙ none))
          (cases_eq i p))
          (cases_lt i p);
    }
