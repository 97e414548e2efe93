-- The nets of units, as a switch is prepared from them: for `gather` of a ledger.
use Rattle.std.proofs.Common.{◌≡◌, ◌+◌, ◌<◌, ◌≤◌, ◌∙◌, ℕ, arith, All, List, [], ◌∷◌, ◌++◌, get_or, length, map, ap, sym, subst, ⊎_elim}
use Rattle.std.specs.Prelude.{None, Option, Some}
use Rattle.std.proofs.lemmas.Bool.{cases_lt}
use Rattle.std.proofs.lemmas.List.{get_or-map, get_or_append_left, get_or_default, get_or_push, length-map}
use Rattle.mgn_params.specs.Tables.{Tables}
use Rattle.mgn_nets.specs.Portfolios.{AreUnitNets, UnitNets}
use Rattle.mgn_unit.specs.Prepared.{AreCarried}
use Rattle.mgn_unit.specs.Rows.{nets_in, no_row}
use Rattle.mgn_unit.specs.declared.row.Row.{Row}
use Rattle.mgn_unit.specs.NewSets.{PreparedUnit}
use Rattle.mgn_unit.proofs.RowNets.{row-nets}
use Rattle.mgn_register.specs.BookStates.{BookState, IsKept}
use Rattle.mgn_day.specs.Changes.{SameUnit}
use Rattle.mgn_day.specs.Days.{Day, nets_of, set_of}
use Rattle.mgn_day.specs.Gathering.{AreReady, AreSeen, IsUnchanged}

-- each row has one net for each contract, within its limit
pub rows-copied : (t : Tables) (f : BookState) → IsKept t f → All (AreUnitNets t) (map nets_in f.rows)
rows-copied t f kept = λ u d inside.
    let small : u < length f.rows = omega (arith, inside, length-map f.rows nets_in) in
    subst (AreUnitNets t) (sym (get_or-map nets_in f.rows u (no_row t) d small)) (row-nets t _ (kept.rows u (no_row t) small).limits)

-- a unit that is there has on a day the nets of its row
day-nets : (day : Day) (u : ℕ) (d : Row) → u < length day.book.book.rows → nets_of day u ≡ nets_in (get_or day.book.book.rows u d)
day-nets day u d inside = ap nets_in (get_or_default day.book.book.rows u _ d inside)

-- what holds of each element, and of one more at the end
pub each-pushed : {X : Type 0} (P : ℕ → X → Type 0) (xs : List X) (x : X) (n : ℕ) → length xs ≡ n → ((u : ℕ) (d : X) → u < n → P u (get_or xs u d)) → P n x → (u : ℕ) (d : X) → u < n + 1 → P u (get_or (xs ++ x ∷ []) u d)
each-pushed P xs x n long each last u d inside = ⊎_elim before after (cases_lt u n)
  where
    before : u < n → P u (get_or (xs ++ x ∷ []) u d)
    before less = subst (P u) (sym (get_or_append_left xs (x ∷ []) d u (omega (arith, less, long)))) (each u d less)

    after : n ≤ u → P u (get_or (xs ++ x ∷ []) u d)
    after more =
        let here : n ≡ u = omega (arith, more, inside) in
        subst (P u) (sym (get_or_push xs x d u (long ∙ here))) (subst (λ (k : ℕ). P k x) here last)

-- stamps since which units have their nets show the copies that are made of them, under the set in force
pub seen-since : {T : Type 0} (shown : T → Day) (day : Day) (set' : Tables) (nets : List UnitNets) (since : List (ℕ × T)) → set' ≡ set_of day → nets ≡ map nets_in day.book.book.rows → length since ≤ length day.book.book.rows
    → ((u : ℕ) (s : _) → u < length since → SameUnit (shown (get_or since u s).1) day u) → AreSeen shown set' nets since
seen-since shown day set' nets since set_is copies few same u n s less =
    let inside : u < length day.book.book.rows = omega (arith, less, few) in
    let d : Row = no_row set' in
    let copy : get_or nets u n ≡ nets_in (get_or day.book.book.rows u d) = ap (λ (l : List UnitNets). get_or l u n) copies ∙ get_or-map nets_in day.book.book.rows u d n inside in
    record {
      set_is = set_is ∙ sym (same u s less).set_is;
      nets_are = copy ∙ sym (day-nets day u d inside) ∙ sym (same u s less).nets;
    }

-- what was prepared of a unit whose nets have not changed since is for the nets that it has
pub ready-now : {T : Type 0} (shown : T → Day) (day : Day) (new : Tables) (units : List (Option PreparedUnit)) (since : List (ℕ × T)) (u : ℕ) (d : Row) (one : PreparedUnit) → AreReady shown new units since → IsUnchanged shown day since u → u < length day.book.book.rows
    → get_or units u None ≡ Some one → AreCarried (set_of day) new (nets_in (get_or day.book.book.rows u d)) one
ready-now shown day new units [] u d one ready unchanged inside found = absurd (omega (arith, unchanged.0))
ready-now shown day new units (s ∷ since) u d one ready unchanged inside found =
    let before = shown (get_or (s ∷ since) u s).1 in
    let same : SameUnit before day u = unchanged.1 s in
    subst (λ (n : UnitNets). AreCarried (set_of day) new n one) (same.nets ∙ day-nets day u d inside)
    (subst (λ (t : Tables). AreCarried t new (nets_of before u) one) same.set_is (ready u one s unchanged.0 found))
