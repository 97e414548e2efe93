use Rattle.std.proofs.Common.{◌≡◌, ◌∙◌, ◌<◌, ◌++◌, ◌∷◌, [], ℕ, ℤ, Bool, List, All, ap, append_assoc, arith, false, length, refl, subst, sym, true, ⊎_elim}
use Rattle.std.specs.Prelude.{if◌then◌else◌}
use Rattle.std.specs.List.{list_any}
use Rattle.std.proofs.lemmas.Bool.{cases_Bool}
use Rattle.std.proofs.lemmas.List.Elements.{All-tail}
use Rattle.std.proofs.lemmas.List.Folds.{list_any-append}
use Rattle.mgn_inter.specs.Rows.{names}
use Rattle.mgn_params.specs.Tables.{credit_spread_at, legs_of}
use Rattle.mgn_span.specs.Scan.{value_at}
use Rattle.mgn_desk.specs.declared.figures.Figures.{Figures}
use Rattle.mgn_desk.specs.WorkedPortfolios.{worked, worked_risk}
use Rattle.mgn_desk.proofs.figures.Figures.mend_spreads.Goals as goal

-- a choice by some places, and then by one more
one_more : (p : ℕ → Bool) (done : List ℕ) (i : ℕ) (x y : ℤ) → (if p i then x else (if list_any p done then x else y)) ≡ (if list_any p (done ++ i ∷ []) then x else y)
one_more p done i x y =
    rw (list_any-append p done (i ∷ [])) (
    ⊎_elim
    (λ (own : p i ≡ true).
    ⊎_elim
    (λ (before : list_any p done ≡ true). rw (own, before) refl)
    (λ (none : list_any p done ≡ false). rw (own, none) refl)
    (cases_Bool (list_any p done)))
    (λ (other : p i ≡ false).
    ⊎_elim
    (λ (before : list_any p done ≡ true). rw (other, before) refl)
    (λ (none : list_any p done ≡ false). rw (other, none) refl)
    (cases_Bool (list_any p done)))
    (cases_Bool (p i)))

pub loop-place-preserved : goal.loop-place-preserved
loop-place-preserved c =
    let set' = c.args.set.now in
    let first = c.args.self.now in
    let now = c.loop-place.invariant in
    let place = c.in-Some.place in
    let left = c.pop_first.new.self in
    let done = now.risks.0 in
    let is : c.loop-place.left ≡ place ∷ left = c.in-Some.ensures.some in
    let work = λ (f : Figures). worked c.args.portfolio c.args.lists.now f in
    let named_by = λ (k i : ℕ). names k (legs_of (credit_spread_at set'.credits i)) in
    record {
      kept = c.mend_spread.ensures.kept
          ∙ ap (λ (x : Figures). let f : Figures = record x { risks = c.mend_spread.new.self.risks } in f) now.kept;
      long = c.mend_spread.ensures.long ∙ now.long;
      places = All-tail (λ (i : ℕ). i < length set'.credits) place left (subst (λ (xs : List ℕ). All (λ i. i < length set'.credits) xs) is now.places);
      risks = (
        done ++ place ∷ [],
        append_assoc done (place ∷ []) left ∙ ap (λ (xs : List ℕ). done ++ xs) (sym is) ∙ now.risks.1,
        λ k low.
            let low_now : k < length c.loop-place.self.risks = omega (arith, low, now.long) in
            let mended = c.mend_spread.ensures.risks k low_now in
            let worked : worked_risk (work c.loop-place.self) k ≡ worked_risk (work first) k = ap (λ (x : Figures). worked_risk (work x) k) now.kept in
            mended
            ∙ ap (λ (r : ℤ). if named_by k place then r else value_at c.loop-place.self.risks k) worked
            ∙ ap (λ (r : ℤ). if named_by k place then worked_risk (work first) k else r) (now.risks.2 k low)
            ∙ one_more (named_by k) done place (worked_risk (work first) k) (value_at first.risks k),
      );
    }
