-- The places of the spreads that were formed again, when one more may have been: for `rework_reached`.
use Rattle.std.proofs.Common.{◌≡◌, ℕ, ◌<◌, Bool, true, false, inl, inr, List, [], ◌∷◌, ◌++◌, ap, ◌∙◌, sym, subst, ⊎_elim, All}
use Rattle.std.specs.Prelude.{if◌then◌else◌}
use Rattle.std.proofs.lemmas.Bool.{or_parts}
use Rattle.std.proofs.lemmas.List.Elements.{All-push}
use Rattle.std.proofs.lemmas.List.Folds.{list_any-append}
use Rattle.mgn_params.specs.declared.tables.CreditSpread.{CreditSpread}
use Rattle.mgn_params.specs.Tables.{credit_spread_at, legs_of}
use Rattle.mgn_inter.specs.Rows.{IsNextOf, named, names}

pub places_next : (count : ℕ) (old new : List ℕ) (i : ℕ) → i < count → All (λ n. n < count) old → IsNextOf old i new → All (λ n. n < count) new
places_next count old new i inside all next =
    ⊎_elim
    (λ (same : new ≡ old). subst (λ (xs : List ℕ). All (λ n. n < count) xs) (sym same) all)
    (λ (more : new ≡ old ++ i ∷ []).
    subst (λ (xs : List ℕ). All (λ n. n < count) xs) (sym more) (All-push (λ (n : ℕ). n < count) old i all inside))
    next

-- what no place names now, none named before
pub others_next : (k : ℕ) (spreads : List CreditSpread) (old new : List ℕ) (i : ℕ) → IsNextOf old i new → named k spreads new ≡ false → named k spreads old ≡ false
others_next k spreads old new i next h =
    let p = λ (n : ℕ). names k (legs_of (credit_spread_at spreads n)) in
    ⊎_elim
    (λ (same : new ≡ old). ap (λ (xs : List ℕ). named k spreads xs) (sym same) ∙ h)
    (λ (more : new ≡ old ++ i ∷ []).
    (or_parts (named k spreads old) (named k spreads (i ∷ [])) (sym (list_any-append p old (i ∷ [])) ∙ ap (λ (xs : List ℕ). named k spreads xs) (sym more) ∙ h)).0)
    next

-- A place that may be told.
pub told_next : (told : Bool) (old new : List ℕ) (i : ℕ) → new ≡ (if told then old ++ i ∷ [] else old) → IsNextOf old i new
told_next true old new i is = inr is
told_next false old new i is = inl is

pub told_out : (k : ℕ) (spreads : List CreditSpread) (old new : List ℕ) (i : ℕ) → new ≡ old ++ i ∷ [] → named k spreads new ≡ false → names k (legs_of (credit_spread_at spreads i)) ≡ false
told_out k spreads old new i is h =
    let p = λ (n : ℕ). names k (legs_of (credit_spread_at spreads n)) in
    let last = (or_parts (named k spreads old) (named k spreads (i ∷ [])) (sym (list_any-append p old (i ∷ [])) ∙ ap (λ (xs : List ℕ). named k spreads xs) (sym is) ∙ h)).1 in
    (or_parts (names k (legs_of (credit_spread_at spreads i))) false last).0
