-- What was gathered and prepared, as the phases of a switch keep it.
use Rattle.std.proofs.Common.{◌≡◌, ◌≢◌, ◌<◌, ◌∙◌, arith, ap, All, length, List, ◌∷◌, Option, map, None, Some, replicate, take, ℕ, zero, suc, sym, subst, refl, Bool, false, true, ⊎_elim}
use Rattle.std.specs.Prelude.{◌&&◌, if◌then◌else◌, is_some, nat_lt, slice_index_or, slice_set}
use Rattle.std.proofs.lemmas.Bool.{cases_eq}
use Rattle.std.proofs.lemmas.Bool.Decides.{nat_tests}
use Rattle.std.proofs.lemmas.List.{get_or-set_same, get_or-set_other, get_or_default, length-map, length-replicate, length-set, map-set}
use Rattle.std.proofs.Math.Seq.{take-length}
use Rattle.mgn_params.specs.Tables.{Tables}
use Rattle.mgn_nets.specs.Portfolios.{AreUnitNets, UnitNets}
use Rattle.mgn_unit.specs.declared.row.Row.{Row}
use Rattle.mgn_unit.specs.NewSets.{IsPrepared, PreparedUnit, is_unit_covered}
use Rattle.mgn_unit.specs.Rows.{nets_in}
use Rattle.mgn_world.specs.Phases.{Gathering, IsGathering}
use Rattle.mgn_world.specs.World.{no_nets, prepared_more}

-- Gather

abbrev no_unit : Option PreparedUnit
no_unit = None

nothing : (n u : ℕ) → slice_index_or (replicate n no_unit) u None ≡ None
nothing zero u = refl
nothing (suc n) zero = refl
nothing (suc n) (suc u) = nothing n u

is_none : (n u : ℕ) (prepared : List (Option PreparedUnit)) (one : PreparedUnit) → prepared ≡ replicate n no_unit → slice_index_or prepared u None ≡ Some one → ⊥
is_none n u prepared one none is = let e : slice_index_or prepared u None ≡ no_unit = ap (λ (xs : List (Option PreparedUnit)). slice_index_or xs u None) none ∙ nothing n u in cc

abbrev IsAllCopied : List Row → ℕ → List UnitNets → Type 0
IsAllCopied rows i nets = nets ≡ map nets_in (take i rows)

pub all_copied : (rows : List Row) (i : ℕ) (nets : List UnitNets) → i ≡ length rows → IsAllCopied rows i nets → nets ≡ map nets_in rows
all_copied rows i nets n copies = copies ∙ ap (λ (k : ℕ). map nets_in (take k rows)) n ∙ ap (map nets_in) (take-length rows)

pub none_prepared : (t : Tables) (rows : List Row) (i : ℕ) (nets : List UnitNets) (prepared : List (Option PreparedUnit)) → i ≡ length rows → IsAllCopied rows i nets → prepared ≡ replicate i None → IsGathering t nets prepared
none_prepared t rows i nets prepared n copies none = record {
  prepared_are = λ u one is. absurd (is_none i u prepared one none is);
  long = ap (λ (xs : List (Option PreparedUnit)). length xs) none ∙ length-replicate i no_unit ∙ n ∙ sym (ap (λ (xs : List UnitNets). length xs) (all_copied rows i nets n copies) ∙ length-map rows nets_in);
}

flags : (n : ℕ) → map is_some (replicate n no_unit) ≡ replicate n false
flags zero = refl
flags (suc n) = ap (λ (xs : List Bool). false ∷ xs) (flags n)

pub not_prepared : (m i : ℕ) (prepared : List (Option PreparedUnit)) → i ≡ m → prepared ≡ replicate i None → map is_some prepared ≡ replicate m false
not_prepared m i prepared n none = ap (map is_some) (none ∙ ap (λ (k : ℕ). replicate k no_unit) n) ∙ flags m

-- Prepare

pub one_more : (t : Tables) (nets : List UnitNets) (prepared : List (Option PreparedUnit)) (u : ℕ) (one : PreparedUnit) → IsGathering t nets prepared → IsPrepared t one → u < length nets → IsGathering t nets (slice_set prepared u (Some one))
one_more t nets prepared u one is new inside = record {
  prepared_are = λ v other at. ⊎_elim
      (λ (e : v ≡ u). let x : Some other ≡ Some one = sym at ∙ ap (λ (i : ℕ). slice_index_or (slice_set prepared u (Some one)) i None) e ∙ get_or-set_same prepared u (Some one) None (omega (arith, inside, is.long)) in
      let y : one ≡ other = cc in subst (IsPrepared t) y new)
      (λ (n : v ≢ u). is.prepared_are v other (sym (get_or-set_other prepared u v (Some one) None n) ∙ at))
      (cases_eq v u);
  long = length-set prepared u (Some one) ∙ is.long;
}

pub prepared_is : (old t : Tables) (version u : ℕ) (nets : List UnitNets) (prepared : List (Option PreparedUnit)) (d : UnitNets) (one : PreparedUnit) → true ≡ nat_lt u (length nets) → u < length nets → true ≡ is_unit_covered old t (slice_index_or nets u d)
    → record { set = t; version = version; nets = nets; prepared = map is_some (slice_set prepared u (Some one)) } ≡ prepared_more old u record { set = t; version = version; nets = nets; prepared = map is_some prepared }
prepared_is old t version u nets prepared d one there inside covered =
    (λ j. record { set = t; version = version; nets = nets; prepared = map-set is_some prepared u (Some one) j })
    ∙ sym (ap (λ (b : Bool). if b then more else same) both)
  where
    same : Gathering
    same = record { set = t; version = version; nets = nets; prepared = map is_some prepared }

    more : Gathering
    more = record { set = t; version = version; nets = nets; prepared = slice_set (map is_some prepared) u true }

    both : (nat_lt u (length nets) && is_unit_covered old t (slice_index_or nets u no_nets)) ≡ true
    both = λ j. sym there j && (ap (is_unit_covered old t) (get_or_default nets u no_nets d inside) ∙ sym covered) j

-- the nets of a unit, as the code reads them
pub copied_of : (old : Tables) (read shown : List UnitNets) (u : ℕ) (x : UnitNets) → true ≡ nat_lt u (length read) → x ≡ slice_index_or read u x → read ≡ shown → All (AreUnitNets old) shown → AreUnitNets old x
copied_of old read shown u x there is same all =
    let inside : u < length read = grind (arith, nat_tests) in
    let each : All (AreUnitNets old) read = subst (All (AreUnitNets old)) (sym same) all in
    subst (AreUnitNets old) (sym is) (each u x inside)
