use Rattle.std.proofs.Common.{◌≡◌, ◌≢◌, ◌<◌, ◌∙◌, ◌||◌, ◌+◌, ℕ, ℤ, Bool, List, ap, arith, false, get_or, get_or-set_other, get_or-set_same, length, pos, refl, rules, set, sym, take, true}
use Rattle.std.proofs.Math.Seq.{take-length}
use Rattle.std.specs.Prelude.{◌==◌, if◌then◌else◌}
use Rattle.std.proofs.lemmas.Bool.{eqb-false, eqb-true}
use Rattle.std.proofs.lemmas.List.{get_or_default}
use Rattle.std.proofs.lemmas.List.Folds.{list_any_more}
use Rattle.mgn_inter.specs.Rows.{names}
use Rattle.mgn_params.specs.declared.tables.Leg.{Leg}
use Rattle.mgn_params.specs.Tables.{no_leg}
use Rattle.mgn_span.specs.Scan.{value_at}
use Rattle.mgn_desk.specs.declared.figures.Figures.{Figures}
use Rattle.mgn_desk.specs.WorkedPortfolios.{worked, worked_risk}
use Rattle.mgn_desk.proofs.figures.Figures.mend_legs.Goals as goal

-- a choice by some legs, and then by one more
one_more : (before own : Bool) (written mine other : ℤ) → (own ≡ true → written ≡ mine) → (own ≡ false → written ≡ (if before then mine else other)) → written ≡ (if before || own then mine else other)
one_more true true written mine other here there = here refl
one_more true false written mine other here there = there refl
one_more false true written mine other here there = here refl
one_more false false written mine other here there = there refl

one_leg : (legs : List Leg) (j g k : ℕ) (leg : Leg) (risk : ℕ → ℤ) (now : List ℤ) (other : ℤ) → j < length legs → g ≡ (get_or legs j leg).commodity → k < length now → value_at now k ≡ (if names k (take j legs) then risk k else other) → value_at (set now g (risk g)) k ≡ (if names k (take (j + 1) legs) then risk k else other)
one_leg legs j g k leg risk now other inside is low before =
    let own = (get_or legs j leg).commodity == k in
    rw (list_any_more (λ (x : Leg). x.commodity == k) legs j leg inside)
    (one_more (names k (take j legs)) own (value_at (set now g (risk g)) k) (risk k) other
    (λ here.
    let at : g ≡ k = is ∙ eqb-true (get_or legs j leg).commodity k here in
    ap (λ (x : ℕ). value_at (set now x (risk x)) k) at ∙ get_or-set_same now k (risk k) (pos 0) low)
    (λ there.
    let at : k ≢ g = λ e. eqb-false (get_or legs j leg).commodity k there (sym (e ∙ is)) in
    get_or-set_other now g k (risk g) (pos 0) at ∙ before))

pub loop-leg-preserved : goal.loop-leg-preserved
loop-leg-preserved c = record {
  kept = search rules;
  long = search rules;
  risks = λ k low.
      let first = c.args.self.now in
      let now = c.loop-leg.self in
      let legs = c.args.legs.now in
      let j = c.loop-leg.leg-index in
      let risk = λ (f : Figures) (n : ℕ). worked_risk (worked c.args.portfolio c.args.lists.now f) n in
      let inside = c.loop-leg-test.true in
      let low_now : k < length now.risks = omega (arith, low, c.loop-leg.invariant.long) in
      let other = value_at first.risks k in
      let written = ap (λ (f : Figures). f.risks) c.mend.ensures in
      let same : risk now ≡ risk first = ap (λ (f : Figures). risk f) c.loop-leg.invariant.kept in
      let is = ap (λ (x : Leg). x.commodity) (get_or_default legs j _ no_leg inside) in
      let before = c.loop-leg.invariant.risks k low ∙ ap (λ (r : ℕ → ℤ). if names k (take j legs) then r k else other) (sym same) in
      ap (λ (rs : List ℤ). value_at rs k) written
      ∙ one_leg legs j _ k no_leg (risk now) now.risks other inside is low_now before
      ∙ ap (λ (r : ℕ → ℤ). if names k (take (j + 1) legs) then r k else other) same;
}

pub returns-clause-risks : goal.returns-clause-risks
returns-clause-risks c =
    λ k low.
    let legs = c.args.legs.now in
    let end : c.loop-leg.leg-index ≡ length legs = omega (arith, c.loop-leg.auto.leg-index-end, c.loop-leg-test.false) in
    let all : take c.loop-leg.leg-index legs ≡ legs = ap (λ (n : ℕ). take n legs) end ∙ take-length legs in
    c.loop-leg.invariant.risks k low ∙ ap (λ (ls : List Leg). if names k ls then worked_risk (worked c.args.portfolio c.args.lists.now c.args.self.now) k else value_at c.args.self.now.risks k) all
