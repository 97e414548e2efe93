use Rattle.std.proofs.Common.{◌≡◌, ◌≢◌, ◌+◌, ◌<◌, ◌≤◌, ◌∙◌, ℕ, ℤ, List, ap, arith, below_more, get_or-set_other, get_or-set_same, length, set, sym, unsigned_abs}
use Rattle.std.specs.Prelude.{slice_index}
use Rattle.std.proofs.lemmas.List.{length-replicate}
use Rattle.mgn_span.specs.Scan.{price_risk2, value_at}
use Rattle.mgn_span.specs.Words.{total_of}
use Rattle.mgn_plain.proofs.FlatLemmas.{price_risk_none}
use Rattle.mgn_plain.proofs.scan.fill_price_risks.Goals as goal
use Rattle.mgn_plain.proofs.scan.fill_price_risks.Goals.{then-mark_at, else-mark_at}

-- a row with one number more written
written : (row : List ℕ) (f : ℕ → ℕ) (g v : ℕ) → g < length row → v ≡ f g → ((k : ℕ) → k < g → slice_index row k ≡ f k) → (k : ℕ) → k < g + 1 → slice_index (set row g v) k ≡ f k
written row f g v inside is before =
    below_more (λ (k : ℕ). slice_index (set row g v) k ≡ f k) g
    (λ k low. let other : k ≢ g = omega (arith, low) in get_or-set_other row g k v 0 other ∙ before k low)
    (get_or-set_same row g v 0 inside ∙ is)

beyond : (row : List ℕ) (g v k : ℕ) → g + 1 ≤ k → slice_index (set row g v) k ≡ slice_index row k
beyond row g v k high = let other : k ≢ g = omega (arith, high) in get_or-set_other row g k v 0 other

pub loop-g-preserved : goal.loop-g-preserved
loop-g-preserved c =
    let within : c.loop-g.g < length c.args.totals.now = omega (arith, c.loop-g-test.true, c.len-g-end.ensures) in
    elim c.if-mark_at.branch [
      | then-mark_at w ↦
          let inside : c.loop-g.g < length c.loop-g.risks = omega (arith, within, c.loop-g.auto.risks, ap (λ (xs : List ℕ). length xs) c.requires.zeros, length-replicate {A = ℕ} (length c.args.totals.now) 0) in
          let is = w.size.ensures.value ∙ ap unsigned_abs w.doubled_risk.ensures.value ∙ ap (λ (row : List ℤ). unsigned_abs (price_risk2 (value_at row))) w.totals_row.ensures in
          record {
            done = rw w.risks-is (written c.loop-g.risks (λ (k : ℕ). unsigned_abs (price_risk2 (total_of c.args.totals.now k))) c.loop-g.g w.size.result inside is c.loop-g.invariant.done);
            rest = rw w.risks-is (λ k from low. beyond c.loop-g.risks c.loop-g.g w.size.result k from ∙ c.loop-g.invariant.rest k (omega (arith, from)) low);
          }
      | else-mark_at w ↦
          let none = price_risk_none (total_of c.args.totals.now c.loop-g.g) (λ s low. c.requires.flat c.loop-g.g s (sym c.mark_at.ensures ∙ w.if-mark_at.false) within low) in
          record {
            done = rw w.risks-is (below_more (λ (k : ℕ). slice_index c.loop-g.risks k ≡ unsigned_abs (price_risk2 (total_of c.args.totals.now k))) c.loop-g.g c.loop-g.invariant.done (c.loop-g.invariant.rest c.loop-g.g (omega arith) within ∙ sym none));
            rest = rw w.risks-is (λ k from low. c.loop-g.invariant.rest k (omega (arith, from)) low);
          }
    ]
