-- Counts of rows by commodity, as rows and commodities come: for the limits that `Rows` keeps.
use Rattle.std.proofs.Common.{◌≡◌, ◌≢◌, ℕ, ◌+◌, ◌<◌, ◌≤◌, ◌++◌, ◌∷◌, [], List, length, map, set, get_or, All, ap, sym, subst, ◌∙◌, ⊎_elim, arith, length-append, length-set, count_by, cond, true, false, Bool, refl, suc, Option, Some, None, Result, Ok, Err}
use Rattle.std.specs.Prelude.{◌==◌, ◌&&◌, not, if◌then◌else◌, is_some, nat_lt, position, IfSome, IsOk, OnOk}
use Rattle.std.specs.List.{list_any, position_or_len}
use Rattle.std.proofs.Math.ListN.{get_or-append}
use Rattle.std.proofs.Math.Seq.{get_or-append_seam}
use Rattle.std.proofs.lemmas.Bool.{cases_eq, cases_lt, eqb-true, ne_eqb}
use Rattle.std.proofs.lemmas.Bool.Decides.{nat_tests}
use Rattle.std.proofs.lemmas.List.{get_or-set_other, get_or-set_same, length-map}
use Rattle.std.proofs.lemmas.List.Sums.{fails_before_first, sum_by-le, sum_by_push}
use Rattle.std.proofs.lemmas.List.Quantifiers.{position-Some}
use Rattle.std.proofs.lemmas.List.Recursion.{is_position_or_len}
use Rattle.mgn_params.specs.declared.tables.Month.{Month}
use Rattle.mgn_params.specs.Tables.{is_month, month_at, no_month}
use Rattle.mgn_setfile.specs.declared.rows.MonthKey.{MonthKey}
use Rattle.mgn_setfile.specs.Inside.{IsTally, key_of}

same : (a : ℕ) → (a == a) ≡ true
same a = grind (arith, nat_tests)

own_row : {X : Type 0} (f : X → ℕ) (rows : List X) (x : X) (n : ℕ) (counts : List ℕ) → f x < n → IsTally f rows n counts
    → get_or (set counts (f x) (get_or counts (f x) 0 + 1)) (f x) 0 ≡ count_by (λ y. f y == f x) (rows ++ x ∷ [])
own_row {X} f rows x n counts h t =
    let inside : f x < length counts = omega (arith, t.all) in
    rw (get_or-set_same counts (f x) (get_or counts (f x) 0 + 1) 0 inside, sum_by_push (λ (y : X). cond (f y == f x) 1 0) rows x, same (f x)) (ap (λ (k : ℕ). k + 1) (t.each (f x) h))

other_row : {X : Type 0} (f : X → ℕ) (rows : List X) (x : X) (n v g : ℕ) (counts : List ℕ) → f x ≢ g → g < n → IsTally f rows n counts
    → get_or (set counts (f x) v) g 0 ≡ count_by (λ y. f y == g) (rows ++ x ∷ [])
other_row {X} f rows x n v g counts apart h t =
    let back : g ≢ f x = λ e. apart (sym e) in
    rw (get_or-set_other counts (f x) g v 0 back, sum_by_push (λ (y : X). cond (f y == g) 1 0) rows x, ne_eqb (f x) g apart) (omega (arith, t.each g h))

-- one row more
pub tally_row : {X : Type 0} (f : X → ℕ) (rows : List X) (x : X) (n : ℕ) (counts : List ℕ) → f x < n → IsTally f rows n counts
    → IsTally f (rows ++ x ∷ []) n (set counts (f x) (get_or counts (f x) 0 + 1))
tally_row {X} f rows x n counts h t = record {
  all = length-set counts (f x) (get_or counts (f x) 0 + 1) ∙ t.all;
  each = λ g inside. ⊎_elim
      (λ (e : f x ≡ g). subst (λ (k : ℕ). get_or (set counts (f x) (get_or counts (f x) 0 + 1)) k 0 ≡ count_by (λ (y : X). f y == k) (rows ++ x ∷ [])) e (own_row f rows x n counts h t))
      (λ (e : f x ≢ g). other_row f rows x n (get_or counts (f x) 0 + 1) g counts e inside t)
      (cases_eq (f x) g);
}

none_of : {X : Type 0} (f : X → ℕ) (rows : List X) (n : ℕ) → All (λ x. f x < n) rows → count_by (λ x. f x == n) rows ≡ 0
none_of {X} f rows n below =
    let all : All (λ (x : X). cond (f x == n) 1 0 ≤ 0) rows = λ i d inside. let less = below i d inside in rw (ne_eqb (f (get_or rows i d)) n (omega arith)) (omega arith) in
    omega (arith, sum_by-le (λ (x : X). cond (f x == n) 1 0) 0 rows all)

-- one commodity more, of which no row is
pub tally_commodity : {X : Type 0} (f : X → ℕ) (rows : List X) (n m : ℕ) (counts : List ℕ) → m ≡ n + 1 → All (λ x. f x < n) rows → IsTally f rows n counts → IsTally f rows m (counts ++ 0 ∷ [])
tally_commodity {X} f rows n m counts next below t = record {
  all = omega (arith, length-append counts (0 ∷ []), t.all);
  each = λ g inside. ⊎_elim
      (λ (e : g < n). rw (get_or-append counts (0 ∷ []) 0 g (omega (arith, t.all))) (t.each g e))
      (λ (e : n ≤ g).
      let is : g ≡ n = omega arith in
      rw is (at_end f rows n counts below t))
      (cases_lt g n);
}
  where
    at_end : {X : Type 0} (f : X → ℕ) (rows : List X) (n : ℕ) (counts : List ℕ) → All (λ x. f x < n) rows → IsTally f rows n counts → get_or (counts ++ 0 ∷ []) n 0 ≡ count_by (λ x. f x == n) rows
    at_end f rows n counts below t = rw t.all at (get_or-append_seam counts 0 [] 0) ∙ sym (none_of f rows n below)

-- finding a month by its key

abbrev same_key : MonthKey → MonthKey → Bool
same_key k m = (k.commodity == m.commodity) && (k.number == m.number)

swapped : (a b : ℕ) → (a == b) ≡ (b == a)
swapped a b = grind (arith, nat_tests)

key_test : (k : MonthKey) (m : Month) → same_key k (key_of m) ≡ is_month k.commodity k.number m
key_test k m = rw (swapped k.commodity m.commodity, swapped k.number m.number) refl

turned : (b : Bool) (m n : ℕ) → cond (not b) m n ≡ cond b n m
turned true m n = refl
turned false m n = refl

place_or_len : (k : MonthKey) (ms : List Month) → position_or_len (same_key k) (map key_of ms) ≡ position_or_len (is_month k.commodity k.number) ms
place_or_len k ms =
    is_position_or_len (λ (xs : List Month). position_or_len (same_key k) (map key_of xs)) (is_month k.commodity k.number) refl (λ m xs. rw (key_test k m) (turned (is_month k.commodity k.number m) (1 + position_or_len (same_key k) (map key_of xs)) 0)) ms

pub month_place : (k : MonthKey) (ms : List Month) → position (same_key k) (map key_of ms) ≡ position (is_month k.commodity k.number) ms
month_place k ms = rw (place_or_len k ms, length-map ms key_of) refl

any_none : {X : Type 0} (p : X → Bool) (xs : List X) (d : X) → ((i : ℕ) → i < length xs → p (get_or xs i d) ≡ false) → list_any p xs ≡ false
any_none p [] d none = refl
any_none p (x ∷ xs) d none = rw (none 0 (omega arith), any_none p xs d (λ i h. none (suc i) (omega arith))) refl

past : (a b : ℕ) → is_some (cond (nat_lt a b) (Some a) None) ≡ false → b ≤ a
past a b none = grind (arith, nat_tests, none)

pub month_new : (k : MonthKey) (ms : List Month) → is_some (position (is_month k.commodity k.number) ms) ≡ false → list_any (same_key k) (map key_of ms) ≡ false
month_new k ms none =
    let keys : is_some (position (same_key k) (map key_of ms)) ≡ false = ap is_some (month_place k ms) ∙ none in
    any_none (same_key k) (map key_of ms) (key_of no_month) (λ i h. fails_before_first (same_key k) (map key_of ms) i (key_of no_month) (omega (arith, past (position_or_len (same_key k) (map key_of ms)) (length (map key_of ms)) keys)))

-- the keys after one that is new was put in
pub pushed : {A B : Type 0} (r : Result A B) (new old ks : List MonthKey) (k : MonthKey) → IsOk r → OnOk r (new ≡ (if list_any (same_key k) old then old else old ++ k ∷ [])) → old ≡ ks → list_any (same_key k) ks ≡ false
    → new ≡ ks ++ k ∷ []
pushed (Ok x) new old ks k ok is same none = rw (same, none) at is
pushed (Err e) new old ks k ok is same none = cc

left_true : (a b : Bool) → (a && b) ≡ true → a ≡ true
left_true true b e = refl
left_true false b e = cc

pub month_there : (months : List Month) (commodity number : ℕ) (r : Option ℕ) → r ≡ position (is_month commodity number) months → IfSome r (λ m. (m < length months) × ((month_at months m).commodity ≡ commodity))
month_there months commodity number None e = tt
month_there months commodity number (Some m) e =
    let found = position-Some (is_month commodity number) months m no_month (sym e) in
    (found.0, eqb-true (get_or months m no_month).commodity commodity (left_true ((get_or months m no_month).commodity == commodity) ((get_or months m no_month).number == number) found.1))
