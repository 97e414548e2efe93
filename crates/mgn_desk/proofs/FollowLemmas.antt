-- What is kept of nets of which nothing more is held.
use Rattle.std.proofs.Common.{◌≡◌, ◌∙◌, ℕ, ℤ, ap, arith, pos, set, sym}
use Rattle.std.specs.Prelude.{◌+ℤ◌}
use Rattle.std.proofs.lemmas.Int.{ints}
use Rattle.std.proofs.lemmas.List.{set-get_or}
use Rattle.mgn_params.specs.Tables.{Tables, contract_at}
use Rattle.mgn_span.specs.Scan.{value_at}
use Rattle.mgn_desk.specs.declared.figures.Figures.{Figures}
use Rattle.mgn_desk.specs.declared.portfolio.Portfolio.{Portfolio}
use Rattle.mgn_desk.specs.declared.unit_lists.UnitLists.{UnitLists}
use Rattle.mgn_desk.specs.KeptRows.{KeptRow, delta_of, no_row, sums_by, tiers_by, totals_by}
use Rattle.mgn_desk.specs.Moved.{more_of}
use Rattle.mgn_desk.specs.UnitLists.{IsFollowed, deltas_in, nets_in, rows_in}
use Rattle.mgn_desk.specs.WorkedPortfolios.{worked}
use Rattle.mgn_desk.proofs.MovedLemmas.{more_of_none}

nets_still : (t : Tables) (w : Portfolio) (old new : UnitLists) (i : ℕ) (q : ℤ) → IsFollowed t i q w old new → q ≡ pos 0 → nets_in w new ≡ nets_in w old
nets_still t w old new i q followed none =
    followed.nets ∙ ap (λ (x : ℤ). more_of (nets_in w old) i x) none ∙ sym (more_of_none (nets_in w old) i)

no_delta : (t : Tables) (i : ℕ) (q was : ℤ) → q ≡ pos 0 → was +ℤ delta_of t i q ≡ was
no_delta t i q was none =
    let is : delta_of t i q ≡ pos 0 = rw none (omega (arith, ints)) in
    omega (arith, ints, is)

deltas_still : (t : Tables) (w : Portfolio) (old new : UnitLists) (i : ℕ) (q : ℤ) → IsFollowed t i q w old new → q ≡ pos 0 → deltas_in w new ≡ deltas_in w old
deltas_still t w old new i q followed none =
    let m = (contract_at t.contracts i).month in
    let deltas = deltas_in w old in
    followed.deltas ∙ ap (λ (x : ℤ). set deltas m x) (no_delta t i q (value_at deltas m) none) ∙ set-get_or deltas m (pos 0)

rows_still : (t : Tables) (w : Portfolio) (old new : UnitLists) (i : ℕ) (q : ℤ) → IsFollowed t i q w old new → q ≡ pos 0 → rows_in w new ≡ rows_in w old
rows_still t w old new i q followed none =
    let g = (contract_at t.contracts i).commodity in
    let rows = rows_in w old in
    followed.rows ∙ ap (λ (r : KeptRow). set rows g r) (followed.stepped.still none) ∙ set-get_or rows g no_row

-- it is what it was
pub followed_none : (t : Tables) (w : Portfolio) (old new : UnitLists) (f : Figures) (i : ℕ) (q : ℤ) → IsFollowed t i q w old new → q ≡ pos 0 → worked w new f ≡ worked w old f
followed_none t w old new f i q followed none =
    let nets = nets_still t w old new i q followed none in
    let deltas = deltas_still t w old new i q followed none in
    let rows = rows_still t w old new i q followed none in
    λ j. record {
      nets = nets j;
      totals = totals_by (rows j);
      sums = sums_by (rows j) f.value;
      tiers = tiers_by (rows j) (deltas j);
      credits = f.credits;
      risks = f.risks;
    }
