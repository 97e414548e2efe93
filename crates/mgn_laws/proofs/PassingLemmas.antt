-- A file is accepted exactly where each record passes against those before it.
use Rattle.std.proofs.Common.{◌≡◌, ◌↔◌, ℕ, zero, suc, ◌+◌, ◌<◌, List, [], ◌∷◌, length, take, Option, Some, None, Result, Ok, Err, refl, ap, sym, ◌∙◌, inl, inr, ⊎_elim, arith}
use Rattle.std.specs.Prelude.{IsOk, IfOk, is_ok, option_map}
use Rattle.std.specs.List.{fold}
use Rattle.std.specs.Result.{result_ok}
use Rattle.std.proofs.lemmas.Bool.{cases_order}
use Rattle.mgn_laws.specs.Passing.{IsAccepted, IsFault, IsRefusedAt, given, given_by, record_at}
use Rattle.mgn_setfile.specs.declared.fault.Cause.TheVariants.{Header}
use Rattle.mgn_setfile.specs.Fields.{Flaw, whole}
use Rattle.mgn_setfile.specs.File.{Record, SoFar, goes_on, judged, outcome, told}
use Rattle.mgn_params.specs.Tables.{Tables}

-- the same from what earlier records gave on

abbrev judgement_at : Option SoFar → List Record → ℕ → Result SoFar Flaw
judgement_at before rs k = judged (fold given before (take k rs)) (record_at rs k)

-- a first record that passes: the later ones go on from what it gave
later : (before : Option SoFar) (r : Record) (rs : List Record) (draft : SoFar) (k : ℕ) → judged before r ≡ Ok draft → judgement_at before (r ∷ rs) (suc k) ≡ judgement_at (Some draft) rs k
later before r rs draft k e = ap (λ (now : Option SoFar). judged (fold given now (take k rs)) (record_at rs k)) (ap result_ok e)

goes : (before : Option SoFar) (r : Record) (rs : List Record) (count : ℕ) (draft : SoFar) → judged before r ≡ Ok draft → told (r ∷ rs) count before ≡ told rs (count + 1) (Some draft)
goes before r rs count draft e = ap (λ (d : Result SoFar Flaw). goes_on d (λ k. told rs (count + 1) (Some k)) (count + 1)) e

halts : (before : Option SoFar) (r : Record) (rs : List Record) (count : ℕ) (fault : Flaw) → judged before r ≡ Err fault → told (r ∷ rs) count before ≡ Err (count + 1, fault)
halts before r rs count fault e = ap (λ (d : Result SoFar Flaw). goes_on d (λ k. told rs (count + 1) (Some k)) (count + 1)) e

-- how a list of records ends: all pass, or the first fault

data Ends (before : Option SoFar) (rs : List Record) (count : ℕ) : Type 0 where
  none : length rs ≡ 0 → before ≡ None → told rs count before ≡ Err (1, whole Header) → Ends before rs count
  all : (draft : SoFar) → ((k : ℕ) → k < length rs → IsOk (judgement_at before rs k)) → fold given before rs ≡ Some draft → told rs count before ≡ Ok draft.set → Ends before rs count
  first : (k : ℕ) (fault : Flaw) → k < length rs → ((j : ℕ) → j < k → IsOk (judgement_at before rs j)) → judgement_at before rs k ≡ Err fault → told rs count before ≡ Err (count + k + 1, fault) → Ends before rs count

is_err : {A B : Type 0} (r : Result A B) (e : B) → r ≡ Err e → IsOk r → ⊥
is_err (Ok x) e q h = cc
is_err (Err x) e q h = cc

some_none : (draft : SoFar) → Some draft ≡ None → ⊥
some_none draft e = cc

from_first : (before : Option SoFar) (r : Record) (rs : List Record) (draft : SoFar) → judged before r ≡ Ok draft → ((k : ℕ) → k < length rs → IsOk (judgement_at (Some draft) rs k)) → (k : ℕ) → k < length (r ∷ rs) → IsOk (judgement_at before (r ∷ rs) k)
from_first before r rs draft e each zero h = ap is_ok e
from_first before r rs draft e each (suc k) h = ap is_ok (later before r rs draft k e) ∙ each k (omega arith)

earlier_ones : (before : Option SoFar) (r : Record) (rs : List Record) (draft : SoFar) (k : ℕ) → judged before r ≡ Ok draft → ((j : ℕ) → j < k → IsOk (judgement_at (Some draft) rs j)) → (j : ℕ) → j < suc k → IsOk (judgement_at before (r ∷ rs) j)
earlier_ones before r rs draft k e earlier zero h = ap is_ok e
earlier_ones before r rs draft k e earlier (suc j) h = ap is_ok (later before r rs draft j e) ∙ earlier j (omega arith)

-- a first record that passes, before an end
passes_first : (before : Option SoFar) (r : Record) (rs : List Record) (count : ℕ) (draft : SoFar) → judged before r ≡ Ok draft → Ends (Some draft) rs (count + 1) → Ends before (r ∷ rs) count
passes_first before r rs count draft e (none empty missing end) = absurd (some_none draft missing)
passes_first before r rs count draft e (all last each gave end) =
    all last (from_first before r rs draft e each) (ap (λ (now : Option SoFar). fold given now rs) (ap result_ok e) ∙ gave) (goes before r rs count draft e ∙ end)
passes_first before r rs count draft e (first k fault there earlier refused end) =
    let place : count + 1 + k + 1 ≡ count + suc k + 1 = omega arith in
    first (suc k) fault (omega arith) (earlier_ones before r rs draft k e earlier) (later before r rs draft k e ∙ refused) (goes before r rs count draft e ∙ end ∙ ap (λ (n : ℕ). Err (n, fault)) place)

ends_after : (before : Option SoFar) (r : Record) (rs : List Record) (count : ℕ) (judgement : Result SoFar Flaw) → judged before r ≡ judgement → ((draft : SoFar) → Ends (Some draft) rs (count + 1)) → Ends before (r ∷ rs) count
ends_after before r rs count (Ok draft) e rest = passes_first before r rs count draft e (rest draft)
ends_after before r rs count (Err fault) e rest =
    first 0 fault (omega arith) (λ j h. absurd (omega arith)) e (halts before r rs count fault e ∙ ap (λ (n : ℕ). Err (n, fault)) (omega arith))

ends : (before : Option SoFar) (rs : List Record) (count : ℕ) → Ends before rs count
ends None [] count = none refl refl refl
ends (Some draft) [] count = all draft (λ k h. absurd (omega arith)) refl refl
ends before (r ∷ rs) count = ends_after before r rs count (judged before r) refl (λ draft. ends (Some draft) rs (count + 1))

-- the laws of a whole list

abbrev Whole : List Record → Type 0
Whole rs = Ends None rs 0

no_record : (rs : List Record) (draft : SoFar) → length rs ≡ 0 → given_by rs ≡ Some draft → ⊥
no_record [] draft empty gave = cc
no_record (r ∷ rs) draft empty gave = omega arith

some_record : (rs : List Record) (draft : SoFar) → given_by rs ≡ Some draft → 0 < length rs
some_record [] draft gave = absurd (no_record [] draft refl gave)
some_record (r ∷ rs) draft gave = omega arith

accepted_from : (rs : List Record) → Whole rs → IsOk (told rs 0 None) → IsAccepted rs
accepted_from rs (none empty missing end) ok = absurd (is_err (told rs 0 None) (1, whole Header) end ok)
accepted_from rs (all draft each gave end) ok = record { some = some_record rs draft gave; each = each }
accepted_from rs (first k fault there earlier refused end) ok = absurd (is_err (told rs 0 None) (0 + k + 1, fault) end ok)

accepted_to : (rs : List Record) → Whole rs → IsAccepted rs → IsOk (told rs 0 None)
accepted_to rs (none empty missing end) is = absurd (omega (arith, is.some))
accepted_to rs (all draft each gave end) is = ap is_ok end
accepted_to rs (first k fault there earlier refused end) is = absurd (is_err (judgement_at None rs k) fault refused (is.each k there))

pub accepted_where : (rs : List Record) → IsOk (outcome rs) ↔ IsAccepted rs
unfolding outcome
accepted_where rs = (accepted_from rs (ends None rs 0), accepted_to rs (ends None rs 0))

-- what an accepted list gives

set_along : (rs : List Record) → Whole rs → IfOk (told rs 0 None) (λ set. option_map (λ (d : SoFar). d.set) (given_by rs) ≡ Some set)
set_along rs (none empty missing end) = rw end tt
set_along rs (all draft each gave end) = rw (end, gave) refl
set_along rs (first k fault there earlier refused end) = rw end tt

pub set_given : (rs : List Record) → IfOk (outcome rs) (λ set. option_map (λ (d : SoFar). d.set) (given_by rs) ≡ Some set)
unfolding outcome
set_given rs = set_along rs (ends None rs 0)

-- the fault of a list that is not accepted

same_fault : (o : Result Tables (ℕ × Flaw)) (m n : ℕ) (a b : Flaw) → o ≡ Err (m, a) → o ≡ Err (n, b) → (m ≡ n) × (a ≡ b)
same_fault o m n a b e f =
    let one : ℕ × Flaw = (m, a) in
    let other : ℕ × Flaw = (n, b) in
    let same : one ≡ other = cc in
    (ap (λ (p : ℕ × Flaw). p.0) same, ap (λ (p : ℕ × Flaw). p.1) same)

one_fault : {A : Type 0} (r : Result A Flaw) (a b : Flaw) → r ≡ Err a → r ≡ Err b → a ≡ b
one_fault r a b e f = cc

fault_from : (rs : List Record) (n : ℕ) (c : Flaw) → Whole rs → told rs 0 None ≡ Err (n, c) → IsFault rs n c
fault_from rs n c (none empty missing end) e =
    let same = same_fault (told rs 0 None) n 1 c (whole Header) e end in
    inl (empty, same.0, same.1)
fault_from rs n c (all draft each gave end) e = absurd (is_err (told rs 0 None) (n, c) e (ap is_ok end))
fault_from rs n c (first k fault there earlier refused end) e =
    let same = same_fault (told rs 0 None) n (0 + k + 1) c fault e end in
    inr (k, omega (arith, same.0), record { there = there; earlier = earlier; refused = refused ∙ ap (λ (x : Flaw). Err x) (sym same.1) })

-- there is one first fault alone
one_place : (rs : List Record) (j k : ℕ) (a b : Flaw) → IsRefusedAt rs j a → IsRefusedAt rs k b → j ≡ k
one_place rs j k a b one two =
    ⊎_elim (λ same. same)
    (⊎_elim (λ (less : j < k). absurd (is_err (judgement_at None rs j) a one.refused (two.earlier j less))) (λ (more : k < j). absurd (is_err (judgement_at None rs k) b two.refused (one.earlier k more))))
    (cases_order j k)

fault_to : (rs : List Record) (n : ℕ) (c : Flaw) → Whole rs → IsFault rs n c → told rs 0 None ≡ Err (n, c)
fault_to rs n c (none empty missing end) (inl is) = end ∙ rw (is.1, is.2) refl
fault_to rs n c (none empty missing end) (inr is) = let there = is.2.there in absurd (omega arith)
fault_to rs n c (all draft each gave end) (inl is) = absurd (no_record rs draft is.0 gave)
fault_to rs n c (all draft each gave end) (inr is) = absurd (is_err (judgement_at None rs is.0) c is.2.refused (each is.0 is.2.there))
fault_to rs n c (first k fault there earlier refused end) (inl is) = let empty = is.0 in absurd (omega arith)
fault_to rs n c (first k fault there earlier refused end) (inr is) =
    let same = one_place rs is.0 k c fault is.2 (record { there = there; earlier = earlier; refused = refused }) in
    let number : 0 + k + 1 ≡ n = omega (arith, same, is.1) in
    let own : fault ≡ c = one_fault (judgement_at None rs k) fault c refused (ap (judgement_at None rs) (sym same) ∙ is.2.refused) in
    end ∙ rw (number, own) refl

pub fault_is : (rs : List Record) (n : ℕ) (c : Flaw) → (outcome rs ≡ Err (n, c)) ↔ IsFault rs n c
unfolding outcome
fault_is rs n c = (fault_from rs n c (ends None rs 0), fault_to rs n c (ends None rs 0))
