-- Desks that move as a plan says, and back: for `follow` and `take_back`.
use Rattle.std.proofs.Common.{◌≡◌, ◌≢◌, ◌≤◌, ◌∙◌, ⊎_elim, ℕ, Bool, true, false, List, length, Option, Some, None, sym, ap, subst, refl, arith, eq-eqb, true≢false}
use Rattle.std.proofs.lemmas.Bool.{cases_eq}
use Rattle.std.proofs.lemmas.Bool.Decides.{Decides-eqb}
use Rattle.std.specs.Prelude.{◌||◌, ◌==◌}
use Rattle.mgn_params.specs.Tables.{Tables}
use Rattle.mgn_nets.specs.Portfolios.{UnitNets}
use Rattle.mgn_desk.specs.declared.desk.Marked.{Marked}
use Rattle.mgn_desk.specs.Desks.{DeskRows}
use Rattle.mgn_unit.specs.declared.row.Row.{Row}
use Rattle.mgn_unit.specs.Rows.{nets_in}
use Rattle.mgn_plan.specs.declared.plans.Plan.TheVariants.{Nothing, One, Two}
use Rattle.mgn_plan.specs.declared.plans.UnitChange.{UnitChange}
use Rattle.mgn_plan.specs.Plans.{moved_nets, nets_by, planned_nets, row_at}
use Rattle.mgn_pricing.specs.Desks.{AreDesks, IsMovedBy, IsReady, KeepsMarked, KeepsOthers, KeepsUnplanned, Rests, is_of, marked_at}
use Rattle.mgn_plan.proofs.Nets.{nets_by-same, nets_by-other}

-- a desk that is ready rests
pub rests : (set' : Tables) (version : ℕ) (nets : UnitNets) (now : Option Marked) → IsReady set' version nets now → Rests set' version nets now
rests set' version nets None ready = tt
rests set' version nets (Some m) ready = (omega (arith, ready.under), λ same. ready)

-- the nets of a plan of two, of the second unit
second-nets : (u v : UnitChange) (nets : UnitNets) → v.unit ≢ u.unit → planned_nets (Two u v) v.unit nets ≡ moved_nets v.change nets
second-nets u v nets apart = nets_by-same v v.unit (nets_by u v.unit nets) refl ∙ ap (moved_nets v.change) (nets_by-other u v.unit nets (λ e. apart (sym e)))

-- Moved.

pub one-moved : (set' : Tables) (version : ℕ) (rows : List Row) (u : UnitChange) (old new : List DeskRows) → AreDesks set' version Nothing rows old → IsMovedBy set' version rows new u → KeepsOthers u.unit old new → length new ≤ length rows → AreDesks set' version (One u) rows new
one-moved set' version rows u old new at_rest moved others few = record {
  few = few;
  each = λ k. ⊎_elim
      (λ (same : u.unit ≡ k). subst (λ (j : ℕ). Rests set' version (nets_by u j (nets_in (row_at set' rows j))) (marked_at new j)) same
      (subst (λ (nets : UnitNets). Rests set' version nets (marked_at new u.unit)) (sym (nets_by-same u u.unit (nets_in (row_at set' rows u.unit)) refl)) (rests set' version _ (marked_at new u.unit) moved)))
      (λ (apart : u.unit ≢ k). subst (λ (nets : UnitNets). Rests set' version nets (marked_at new k)) (sym (nets_by-other u k (nets_in (row_at set' rows k)) apart))
      (subst (λ (m : Option Marked). Rests set' version (nets_in (row_at set' rows k)) m) (sym (others k (λ e. apart (sym e)))) (at_rest.each k)))
      (cases_eq u.unit k);
}

pub two-moved : (set' : Tables) (version : ℕ) (rows : List Row) (u v : UnitChange) (old new : List DeskRows) → v.unit ≢ u.unit → AreDesks set' version (One u) rows old → IsMovedBy set' version rows new v → KeepsOthers v.unit old new → length new ≤ length rows → AreDesks set' version (Two u v) rows new
two-moved set' version rows u v old new units at_one moved others few = record {
  few = few;
  each = λ k. ⊎_elim
      (λ (same : v.unit ≡ k). subst (λ (j : ℕ). Rests set' version (planned_nets (Two u v) j (nets_in (row_at set' rows j))) (marked_at new j)) same
      (subst (λ (nets : UnitNets). Rests set' version nets (marked_at new v.unit)) (sym (second-nets u v (nets_in (row_at set' rows v.unit)) units)) (rests set' version _ (marked_at new v.unit) moved)))
      (λ (apart : v.unit ≢ k). subst (λ (nets : UnitNets). Rests set' version nets (marked_at new k)) (sym (nets_by-other v k (nets_by u k (nets_in (row_at set' rows k))) apart))
      (subst (λ (m : Option Marked). Rests set' version (nets_by u k (nets_in (row_at set' rows k))) m) (sym (others k (λ e. apart (sym e)))) (at_one.each k)))
      (cases_eq v.unit k);
}

-- Units of a plan.

apart-of : (i k : ℕ) → (i == k) ≡ false → k ≢ i
apart-of i k is e = true≢false (sym ((Decides-eqb i k).1 (sym e)) ∙ is)

either-false : (a b : Bool) → (a || b) ≡ false → (a ≡ false) × (b ≡ false)
either-false true b e = absurd (true≢false e)
either-false false b e = (refl, e)

pub two-keeps : (u v : UnitChange) (old between new : List DeskRows) → KeepsOthers u.unit old between → KeepsOthers v.unit between new → KeepsUnplanned (Two u v) old new
two-keeps u v old between new first second k is =
    let not_planned = either-false (u.unit == k) (v.unit == k) is in
    second k (apart-of v.unit k not_planned.1) ∙ first k (apart-of u.unit k not_planned.0)

pub one-keeps : (u : UnitChange) (old new : List DeskRows) → KeepsOthers u.unit old new → KeepsUnplanned (One u) old new
one-keeps u old new others k is = others k (apart-of u.unit k is)

pub two-keeps-back : (u v : UnitChange) (old between new : List DeskRows) → KeepsOthers v.unit old between → KeepsOthers u.unit between new → KeepsUnplanned (Two u v) old new
two-keeps-back u v old between new first second k is =
    let not_planned = either-false (u.unit == k) (v.unit == k) is in
    second k (apart-of u.unit k not_planned.0) ∙ first k (apart-of v.unit k not_planned.1)

-- Moved back.

pub one-back : (set' : Tables) (version : ℕ) (rows : List Row) (u : UnitChange) (old new : List DeskRows) → AreDesks set' version (One u) rows old → Rests set' version (nets_in (row_at set' rows u.unit)) (marked_at new u.unit) → KeepsOthers u.unit old new → length new ≡ length old → AreDesks set' version Nothing rows new
one-back set' version rows u old new at_one rest others long = record {
  few = omega (arith, long, at_one.few);
  each = λ k. ⊎_elim
      (λ (same : u.unit ≡ k). subst (λ (j : ℕ). Rests set' version (nets_in (row_at set' rows j)) (marked_at new j)) same rest)
      (λ (apart : u.unit ≢ k). subst (λ (m : Option Marked). Rests set' version (nets_in (row_at set' rows k)) m) (sym (others k (λ e. apart (sym e))))
      (subst (λ (nets : UnitNets). Rests set' version nets (marked_at old k)) (nets_by-other u k (nets_in (row_at set' rows k)) apart) (at_one.each k)))
      (cases_eq u.unit k);
}

pub second-back : (set' : Tables) (version : ℕ) (rows : List Row) (u v : UnitChange) (old new : List DeskRows) → v.unit ≢ u.unit → AreDesks set' version (Two u v) rows old → Rests set' version (nets_in (row_at set' rows v.unit)) (marked_at new v.unit) → KeepsOthers v.unit old new → length new ≡ length old → AreDesks set' version (One u) rows new
second-back set' version rows u v old new units at_two rest others long = record {
  few = omega (arith, long, at_two.few);
  each = λ k. ⊎_elim
      (λ (same : v.unit ≡ k). subst (λ (j : ℕ). Rests set' version (nets_by u j (nets_in (row_at set' rows j))) (marked_at new j)) same
      (subst (λ (nets : UnitNets). Rests set' version nets (marked_at new v.unit)) (sym (nets_by-other u v.unit (nets_in (row_at set' rows v.unit)) (λ e. units (sym e)))) rest))
      (λ (apart : v.unit ≢ k). subst (λ (m : Option Marked). Rests set' version (nets_by u k (nets_in (row_at set' rows k))) m) (sym (others k (λ e. apart (sym e))))
      (subst (λ (nets : UnitNets). Rests set' version nets (marked_at old k)) (nets_by-other v k (nets_by u k (nets_in (row_at set' rows k))) apart) (at_two.each k)))
      (cases_eq v.unit k);
}

-- Still marked.

pub ready-of : (set' : Tables) (version : ℕ) (nets : UnitNets) (now : Option Marked) → IsReady set' version nets now → is_of version now ≡ true
ready-of set' version nets None ready = absurd ready
ready-of set' version nets (Some m) ready = eq-eqb m.version version ready.under

pub one-marked : (version : ℕ) (u : UnitChange) (old new : List DeskRows) → (is_of version (marked_at old u.unit) ≡ true → is_of version (marked_at new u.unit) ≡ true) → KeepsOthers u.unit old new → KeepsMarked version old new
one-marked version u old new own others k is =
    ⊎_elim
    (λ (same : k ≡ u.unit). subst (λ (j : ℕ). is_of version (marked_at new j) ≡ true) (sym same) (own (subst (λ (j : ℕ). is_of version (marked_at old j) ≡ true) same is)))
    (λ (apart : k ≢ u.unit). ap (is_of version) (others k apart) ∙ is)
    (cases_eq k u.unit)
