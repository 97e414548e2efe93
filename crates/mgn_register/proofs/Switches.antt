-- Rows and refusals where another set comes into force: for `rows_anew` and its refusals.
use Rattle.std.proofs.Common.{IfSome, ◌≡◌, ◌+◌, ◌-◌, ◌<◌, ◌≤◌, ◌∙◌, ℕ, Bool, true, false, List, [], ◌∷◌, ◌++◌, length, get_or, sym, ap, arith, subst, filter, ⊎_elim}
use Rattle.std.specs.Prelude.{◌&&◌, ℤ, IsSomeAnd, None, Option, Some}
use Rattle.std.specs.List.{list_all}
use Rattle.std.proofs.lemmas.List.Sums.{length-filter}
use Rattle.std.proofs.lemmas.Bool.{cases_lt}
use Rattle.std.proofs.lemmas.List.{get_or_append_left, get_or-append_right}
use Rattle.mgn_coll.specs.Posted.{is_priced_by}
use Rattle.mgn_params.specs.Limits.{IsWithinLimits}
use Rattle.mgn_params.specs.Tables.{Tables}
use Rattle.mgn_machine.specs.NewSet.{covers, on_call}
use Rattle.mgn_machine.specs.State.{AccountState}
use Rattle.mgn_unit.specs.declared.row.Row.{Row}
use Rattle.mgn_unit.specs.Amounts.{UnitAmounts, no_amounts, row_with_amounts}
use Rattle.mgn_unit.specs.NewSets.{ArePrepared, AreWorths, IsPrepared, PreparedUnit, is_covered, row_on_call, row_under, unit_gain}
use Rattle.mgn_unit.specs.Prepared.{AreCarried, AreCurrent, ArePreparedFor}
use Rattle.mgn_unit.specs.Rows.{IsRow, nets_in, row_with_worth}
use Rattle.mgn_unit.proofs.Carried.{on_call-by_rows, row-under, worths-under}
use Rattle.mgn_unit.proofs.Covered.{AreRowsOf, covers-by_rows}
use Rattle.mgn_register.specs.BookStates.{BookState, IsKept, IsUnitRow}

-- the rows that are kept are those of the accounts' units
are-rows : (set' : Tables) (f : BookState) → IsKept set' f → AreRowsOf set' f.state.accounts f.rows
are-rows set' f kept = record {
  limits = kept.accounts;
  known = kept.known;
  within = kept.within;
  are = λ u d inside. (kept.rows u d inside).is;
}

pub covered-by_parts : (old new : Tables) (f : BookState) (contracts classes : Bool) → IsKept old f → contracts ≡ list_all (λ (row : Row). is_covered old new row.sizes) f.rows
    → classes ≡ list_all (λ (a : AccountState). is_priced_by new.classes a.collateral) f.state.accounts → (contracts && classes) ≡ covers new f.state.accounts
covered-by_parts old new f contracts classes kept has priced =
    ap (λ (b : Bool). b && classes) has
    ∙ ap (λ (b : Bool). list_all (λ (row : Row). is_covered old new row.sizes) f.rows && b) priced
    ∙ sym (covers-by_rows old new f.state.accounts f.rows (are-rows old f kept))

-- what a unit's row may be worth under the new set
pub worths-kept : (old new : Tables) (f : BookState) (u : ℕ) (gain : ℤ) (row : Row) → IsKept old f → IsWithinLimits new → u < length f.rows → row ≡ get_or f.rows u row → gain ≡ unit_gain old new f.state.accounts u → AreWorths (row_with_worth gain row)
worths-kept old new f u gain row kept limits inside is gained =
    worths-under old new f.state.accounts u gain row limits kept.accounts kept.few_accounts (is ∙ (kept.rows u row inside).is) gained

-- the row of a unit under the new set
pub row-kept : (old new : Tables) (f : BookState) (u : ℕ) (gain : ℤ) (row now : Row) → IsKept old f → u < length f.rows → row ≡ get_or f.rows u row → gain ≡ unit_gain old new f.state.accounts u
    → now ≡ row_under old new gain row → IsRow new now → IsUnitRow new f.state.accounts u now
row-kept old new f u gain row now kept inside is gained under limits = record {
  is = under ∙ row-under old new f.state.accounts u gain row kept.known (is ∙ (kept.rows u row inside).is) gained;
  limits = limits;
}

-- rows with one more
pub rows-pushed : (set' : Tables) (accounts : List AccountState) (rows : List Row) (row : Row) (n : ℕ) → length rows ≡ n → ((u : ℕ) → u < n → (d : Row) → IsUnitRow set' accounts u (get_or rows u d)) → IsUnitRow set' accounts n row
    → (u : ℕ) → u < n + 1 → (d : Row) → IsUnitRow set' accounts u (get_or (rows ++ row ∷ []) u d)
rows-pushed set' accounts rows row n long so_far last u inside d = ⊎_elim before after (cases_lt u n)
  where
    before : u < n → IsUnitRow set' accounts u (get_or (rows ++ row ∷ []) u d)
    before less = subst (λ (r : Row). IsUnitRow set' accounts u r) (sym (get_or_append_left rows (row ∷ []) d u (omega (arith, less, long)))) (so_far u less d)

    after : n ≤ u → IsUnitRow set' accounts u (get_or (rows ++ row ∷ []) u d)
    after more =
        let same : n ≡ u = omega (arith, more, inside) in
        let none : u - n ≡ 0 = omega (arith, same) in
        subst (λ (r : Row). IsUnitRow set' accounts u r) (sym (get_or-append_right rows (row ∷ []) n u d long more ∙ ap (λ (k : ℕ). get_or (row ∷ []) k d) none)) (subst (λ (k : ℕ). IsUnitRow set' accounts k row) same last)

-- amounts with those of one unit more
pub amounts-pushed : (set' : Tables) (accounts : List AccountState) (rows : List Row) (all : List UnitAmounts) (it : UnitAmounts) (n : ℕ) → length all ≡ n
    → ((u : ℕ) → u < n → (d : Row) → IsUnitRow set' accounts u (row_with_amounts (get_or all u no_amounts) (get_or rows u d)))
    → ((d : Row) → IsUnitRow set' accounts n (row_with_amounts it (get_or rows n d)))
    → (u : ℕ) → u < n + 1 → (d : Row) → IsUnitRow set' accounts u (row_with_amounts (get_or (all ++ it ∷ []) u no_amounts) (get_or rows u d))
amounts-pushed set' accounts rows all it n long so_far last u inside d = ⊎_elim before after (cases_lt u n)
  where
    before : u < n → IsUnitRow set' accounts u (row_with_amounts (get_or (all ++ it ∷ []) u no_amounts) (get_or rows u d))
    before less =
        subst (λ (x : UnitAmounts). IsUnitRow set' accounts u (row_with_amounts x (get_or rows u d))) (sym (get_or_append_left all (it ∷ []) no_amounts u (omega (arith, less, long)))) (so_far u less d)

    after : n ≤ u → IsUnitRow set' accounts u (row_with_amounts (get_or (all ++ it ∷ []) u no_amounts) (get_or rows u d))
    after more =
        let same : n ≡ u = omega (arith, more, inside) in
        let none : u - n ≡ 0 = omega (arith, same) in
        subst (λ (x : UnitAmounts). IsUnitRow set' accounts u (row_with_amounts x (get_or rows u d))) (sym (get_or-append_right all (it ∷ []) n u no_amounts long more ∙ ap (λ (k : ℕ). get_or (it ∷ []) k no_amounts) none))
        (subst (λ (k : ℕ). IsUnitRow set' accounts k (row_with_amounts it (get_or rows k d))) same (last d))

-- how many units are on call
pub on_call-counted : (set' : Tables) (accounts : List AccountState) (rows : List Row) → ((u : ℕ) (d : Row) → u < length rows → IsUnitRow set' accounts u (get_or rows u d)) → length (filter row_on_call rows) ≡ on_call set' accounts (length rows)
on_call-counted set' accounts rows are = length-filter row_on_call rows ∙ sym (on_call-by_rows set' accounts rows (λ u d inside. (are u d inside).is))

-- what was prepared of a unit, as it is found, is worked out under the set
pub found-prepared : (t : Tables) (units : List (Option PreparedUnit)) (u : ℕ) (r : Option PreparedUnit) → r ≡ get_or units u None → ArePrepared t units → IfSome r (IsPrepared t)
found-prepared t units u None found are = tt
found-prepared t units u (Some one) found are = are u one (sym found)

-- what was prepared of a unit, as it is found for its row under a switch, is for the nets that the row carries over
pub found-carried : (old new s t : Tables) (rows : List Row) (units : List (Option PreparedUnit)) (u : ℕ) (row : Row) (r : Option PreparedUnit) → s ≡ old → t ≡ new → u < length rows → row ≡ get_or rows u row → r ≡ get_or units u None
    → ArePreparedFor old new rows units → IsSomeAnd r (AreCarried s t (nets_in row))
found-carried old new s t rows units u row r s_is t_is inside is found ready =
    subst (λ (x : Option PreparedUnit). IsSomeAnd x (AreCarried s t (nets_in row))) (sym found)
    (subst (λ (x : Tables). IsSomeAnd (get_or units u None) (AreCarried x t (nets_in row))) (sym s_is)
    (subst (λ (x : Tables). IsSomeAnd (get_or units u None) (AreCarried old x (nets_in row))) (sym t_is)
    (subst (λ (x : Row). IsSomeAnd (get_or units u None) (AreCarried old new (nets_in x))) (sym is) (ready u row inside))))

-- and where it is known to be for the nets that the unit has, it is for those that the row carries over
pub found-current : (old new s t : Tables) (rows : List Row) (units : List (Option PreparedUnit)) (current : List Bool) (u : ℕ) (row : Row) (r : Option PreparedUnit) (b : Bool) → s ≡ old → t ≡ new → u < length rows → row ≡ get_or rows u row → r ≡ get_or units u None
    → b ≡ get_or current u false → AreCurrent old new rows units current → b ≡ true → IfSome r (AreCarried s t (nets_in row))
found-current old new s t rows units current u row None b s_is t_is inside is found noted known current_is = tt
found-current old new s t rows units current u row (Some one) b s_is t_is inside is found noted known current_is =
    subst (λ (x : Tables). AreCarried x t (nets_in row) one) (sym s_is)
    (subst (λ (x : Tables). AreCarried old x (nets_in row) one) (sym t_is)
    (subst (λ (x : Row). AreCarried old new (nets_in x) one) (sym is) (known u row one inside (sym noted ∙ current_is) (sym found))))
