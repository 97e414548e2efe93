-- Desks that are marked anew, one after the other: for `mark_all`.
use Rattle.std.proofs.Common.{◌≡◌, ◌≢◌, ◌<◌, ◌≤◌, ◌∙◌, ◌+◌, ◌-◌, ◌++◌, ◌∷◌, [], ⊎_elim, ℕ, zero, suc, List, length, get_or, set, Option, Some, None, sym, ap, subst, refl, arith, true≢false}
use Rattle.std.specs.Prelude.{IfSome, is_some}
use Rattle.std.proofs.lemmas.Bool.{cases_eq, cases_lt}
use Rattle.std.proofs.lemmas.List.{get_or_append_left, get_or-append_right, get_or_past, get_or-set_other, get_or-set_same}
use Rattle.mgn_params.specs.Tables.{Tables}
use Rattle.mgn_desk.specs.declared.desk.Marked.{Marked}
use Rattle.mgn_desk.specs.Desks.{DeskRows, Requires}
use Rattle.mgn_desk.specs.Portfolios.{AreSmall, requirements_of}
use Rattle.mgn_unit.specs.declared.row.Row.{Row}
use Rattle.mgn_unit.specs.Amounts.{AreKnown, AreRequired}
use Rattle.mgn_unit.specs.Rows.{Priced, nets_in}
use Rattle.mgn_plan.specs.declared.plans.Plan.TheVariants.{Nothing}
use Rattle.mgn_plan.specs.Plans.{row_at}
use Rattle.mgn_pricing.specs.Desks.{AreDesks, AreNumbered, AreTold, IsReady, Rests, StayEmpty, is_of, marked_at}

-- what a ready desk requires is what its row does
pub required-by : (set' : Tables) (version : ℕ) (row : Row) (now : Option Marked) (p : Priced) → IsReady set' version (nets_in row) now → Requires set' now p → AreSmall p → AreRequired set' row p
required-by set' version row None p ready told small = absurd ready
required-by set' version row (Some m) p ready told small =
    let all : p ≡ requirements_of set' (nets_in row) = told ∙ ap (requirements_of set') ready.shows in
    record {
      lots = record { is = ap (λ (x : Priced). x.lots) all; small = small.lots };
      buys = record { is = ap (λ (x : Priced). x.buys) all; small = small.buys };
      sales = record { is = ap (λ (x : Priced). x.sales) all; small = small.sales };
      all = record { is = ap (λ (x : Priced). x.all) all; small = small.all };
    }

-- the desks of the first units rest
abbrev pub RestTo : Tables → ℕ → List Row → List DeskRows → ℕ → Type 0
RestTo set' version rows desks n = (k : ℕ) → k < n → Rests set' version (nets_in (row_at set' rows k)) (marked_at desks k)

pub rest-next : (set' : Tables) (version : ℕ) (rows : List Row) (desks : List DeskRows) (n : ℕ) (x : DeskRows) → n < length desks → RestTo set' version rows desks n → Rests set' version (nets_in (row_at set' rows n)) x.marked → RestTo set' version rows (set desks n x) (n + 1)
rest-next set' version rows desks n x inside so_far last k less = ⊎_elim before after (cases_lt k n)
  where
    R : Option Marked → Type 0
    R m = Rests set' version (nets_in (row_at set' rows k)) m

    before : k < n → R (marked_at (set desks n x) k)
    before lower = subst R (sym (ap (λ (d : DeskRows). d.marked) (get_or-set_other desks n k x record { unit = k; marked = None } (λ e. omega (arith, e, lower))))) (so_far k lower)

    after : n ≤ k → R (marked_at (set desks n x) k)
    after higher =
        let same : n ≡ k = omega (arith, higher, less) in
        subst (λ (j : ℕ). Rests set' version (nets_in (row_at set' rows j)) (marked_at (set desks n x) j)) same
        (subst (λ (m : Option Marked). Rests set' version (nets_in (row_at set' rows n)) m) (sym (ap (λ (d : DeskRows). d.marked) (get_or-set_same desks n x record { unit = n; marked = None } inside))) last)

-- those of the first units that are told are those that are marked
abbrev pub ToldTo : ℕ → List DeskRows → List (Option Priced) → ℕ → Type 0
ToldTo version desks known n = (k : ℕ) → k < n → is_some (get_or known k None) ≡ is_of version (marked_at desks k)

pub told-next : (version : ℕ) (desks : List DeskRows) (known : List (Option Priced)) (n : ℕ) (x : DeskRows) (p : Option Priced) → n < length desks → length known ≡ n → ToldTo version desks known n → is_some p ≡ is_of version x.marked
    → ToldTo version (set desks n x) (known ++ p ∷ []) (n + 1)
told-next version desks known n x p inside long so_far last k less = ⊎_elim before after (cases_lt k n)
  where
    d : DeskRows
    d = record { unit = k; marked = None }

    before : k < n → is_some (get_or (known ++ p ∷ []) k None) ≡ is_of version (marked_at (set desks n x) k)
    before lower =
        ap is_some (get_or_append_left known (p ∷ []) None k (omega (arith, lower, long)))
        ∙ so_far k lower
        ∙ sym (ap (λ (e : DeskRows). is_of version e.marked) (get_or-set_other desks n k x d (λ e. omega (arith, e, lower))))

    after : n ≤ k → is_some (get_or (known ++ p ∷ []) k None) ≡ is_of version (marked_at (set desks n x) k)
    after higher =
        let same : k ≡ n = omega (arith, higher, less) in
        let first : k - n ≡ 0 = omega (arith, same) in
        ap is_some (get_or-append_right known (p ∷ []) n k None long higher ∙ ap (λ (i : ℕ). get_or (p ∷ []) i None) first)
        ∙ last
        ∙ sym (ap (λ (e : DeskRows). is_of version e.marked) (ap (λ (i : ℕ). get_or (set desks n x) i d) same ∙ get_or-set_same desks n x d inside))

-- past the last unit nothing is marked, and nothing told
pub told-all : (version : ℕ) (desks : List DeskRows) (known : List (Option Priced)) → length known ≡ length desks → ToldTo version desks known (length desks) → AreTold version desks known
told-all version desks known long to u = ⊎_elim (to u) past (cases_lt u (length desks))
  where
    past : length desks ≤ u → is_some (get_or known u None) ≡ is_of version (marked_at desks u)
    past beyond =
        ap is_some (get_or_past known u None (omega (arith, long, beyond)))
        ∙ sym (ap (λ (e : DeskRows). is_of version e.marked) (get_or_past desks u record { unit = u; marked = None } beyond))

pub empty-next : (old desks : List DeskRows) (n : ℕ) (x : DeskRows) → n < length desks → StayEmpty old desks → (marked_at desks n ≡ None → x.marked ≡ None) → StayEmpty old (set desks n x)
empty-next old desks n x inside so_far last k none = ⊎_elim here there (cases_eq k n)
  where
    d : DeskRows
    d = record { unit = k; marked = None }

    here : k ≡ n → marked_at (set desks n x) k ≡ None
    here same =
        ap (λ (e : DeskRows). e.marked) (ap (λ (i : ℕ). get_or (set desks n x) i d) same ∙ get_or-set_same desks n x d inside)
        ∙ last (sym (ap (marked_at desks) same) ∙ so_far k none)

    there : k ≢ n → marked_at (set desks n x) k ≡ None
    there apart = ap (λ (e : DeskRows). e.marked) (get_or-set_other desks n k x d apart) ∙ so_far k none

pub numbered-set : (desks : List DeskRows) (n : ℕ) (x : DeskRows) → AreNumbered desks → n < length desks → x.unit ≡ n → AreNumbered (set desks n x)
numbered-set desks n x are inside own u = ⊎_elim before (λ more. ⊎_elim after past (cases_lt n u)) (cases_lt u n)
  where
    d : DeskRows
    d = record { unit = u; marked = None }

    other : (u ≡ n → ⊥) → (get_or (set desks n x) u d).unit ≡ u
    other apart = ap (λ (e : DeskRows). e.unit) (get_or-set_other desks n u x d apart) ∙ are u

    before : u < n → (get_or (set desks n x) u d).unit ≡ u
    before lower = other (λ e. omega (arith, e, lower))

    after : n < u → (get_or (set desks n x) u d).unit ≡ u
    after higher = other (λ e. omega (arith, e, higher))

    past : u ≤ n → (get_or (set desks n x) u d).unit ≡ u
    past low = ⊎_elim before
        (λ high. let same : n ≡ u = omega (arith, low, high) in
        subst (λ (j : ℕ). (get_or (set desks n x) j record { unit = j; marked = None }).unit ≡ j) same
        (ap (λ (e : DeskRows). e.unit) (get_or-set_same desks n x record { unit = n; marked = None } inside) ∙ own))
        (cases_lt u n)

-- once all desks do, all are as the rows
pub rest-all : (set' : Tables) (version : ℕ) (rows : List Row) (desks : List DeskRows) (n : ℕ) → length desks ≤ length rows → length desks ≤ n → RestTo set' version rows desks n → AreDesks set' version Nothing rows desks
rest-all set' version rows desks n few reached so_far = record {
  few = few;
  each = λ u. ⊎_elim (λ less. so_far u less) (λ more. past u more) (cases_lt u n);
}
  where
    past : (u : ℕ) → n ≤ u → Rests set' version (nets_in (row_at set' rows u)) (marked_at desks u)
    past u more =
        subst (λ (m : Option Marked). Rests set' version (nets_in (row_at set' rows u)) m)
        (sym (ap (λ (d : DeskRows). d.marked) (get_or_past desks u record { unit = u; marked = None } (omega (arith, more, reached))))) tt

-- what is known, with one unit more
pub known-pushed : (set' : Tables) (rows : List Row) (known : List (Option Priced)) (r : Option Priced) (n : ℕ) → length known ≡ n → AreKnown set' rows known → ((d : Row) → IfSome r (AreRequired set' (get_or rows n d))) → AreKnown set' rows (known ++ r ∷ [])
known-pushed set' rows known r n long so_far last u d priced inside found = ⊎_elim before after (cases_lt u n)
  where
    before : u < n → AreRequired set' (get_or rows u d) priced
    before less = so_far u d priced inside (sym (get_or_append_left known (r ∷ []) None u (omega (arith, less, long))) ∙ found)

    at : (k : ℕ) (r' : Option Priced) → get_or (r' ∷ []) k None ≡ Some priced → (k ≡ 0) × (r' ≡ Some priced)
    at zero r' is = (refl, is)
    at (suc k) r' is = absurd (true≢false (sym (ap is_some is)))

    own : (r' : Option Priced) → r' ≡ Some priced → IfSome r' (AreRequired set' (get_or rows n d)) → AreRequired set' (get_or rows n d) priced
    own r' is told = rw is at told

    after : n ≤ u → AreRequired set' (get_or rows u d) priced
    after more =
        let here = at (u - n) r (sym (get_or-append_right known (r ∷ []) n u None long more) ∙ found) in
        let same : n ≡ u = omega (arith, more, here.0) in
        subst (λ (k : ℕ). AreRequired set' (get_or rows k d) priced) same (own r here.1 (last d))
