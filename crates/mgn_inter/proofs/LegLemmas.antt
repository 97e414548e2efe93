-- The legs of one spread, one after the other, for the loops of `rows` and for `rework`.
use Rattle.std.proofs.Common.{◌≡◌, ◌≢◌, ℕ, zero, suc, ◌+◌, ◌-◌, ◌<◌, ◌≤◌, Bool, true, false, List, [], ◌∷◌, length, map, take, get_or, slice_index, slice_set, min, pos, ℤ, ap, ◌∙◌, sym, subst, arith, refl, replicate, eq-eqb, ne_eqb, All, ⊎_elim, length-set, get_or-set_same, get_or-set_other}
use Rattle.std.specs.Prelude.{◌==◌, if◌then◌else◌}
use Rattle.std.specs.List.{IsDistinct, fold, list_all, sum_by, zip}
use Rattle.std.proofs.lemmas.Bool.{cases_eq, cases_lt, false≢true, true≢false}
use Rattle.std.proofs.lemmas.List.Folds.{list_any_at}
use Rattle.std.proofs.lemmas.List.{get_or-map, length-map, set_past}
use Rattle.std.proofs.lemmas.Map.Keys.{apart_from_distinct}
use Rattle.std.proofs.lemmas.List.Sums.{sum_by-cons, sum_by-take-le, sum_by_more}
use Rattle.std.proofs.lemmas.Slice.Zip.{get_or-zip, length-zip}
use Rattle.std.proofs.lemmas.List.Elements.{All-head, All-tail}
use Rattle.mgn_num.specs.Amount.{nearer_zero}
use Rattle.mgn_params.specs.declared.tables.Leg.{Leg}
use Rattle.mgn_span.specs.Credits.{credits_after, fits, forms, leg_amount, leg_credit, rests_after, spread_amount}
use Rattle.mgn_span.specs.Scan.{value_at}
use Rattle.mgn_span.specs.Stages.{used}
use Rattle.mgn_params.specs.Tables.{no_leg}
use Rattle.mgn_inter.specs.Rows.{leg_share, names, share_of}
use Rattle.mgn_span.specs.Words.{leg_at}

-- a choice of which both sides are right
pub either_is : {X : Type 0} (b : Bool) (x y right : X) → (b ≡ true → x ≡ right) → (b ≡ false → y ≡ right) → (if b then x else y) ≡ right
either_is true x y right first second = first refl
either_is false x y right first second = second refl

-- a leg that is named, and one that is not
names_other : (g : ℕ) (leg : Leg) (legs : List Leg) → names g (leg ∷ legs) ≡ false → leg.commodity ≢ g
names_other g leg legs h = λ e. let is = eq-eqb leg.commodity g e in cc

names_tail : (g : ℕ) (leg : Leg) (legs : List Leg) → names g (leg ∷ legs) ≡ false → names g legs ≡ false
names_tail g leg legs h = rw (ne_eqb leg.commodity g (names_other g leg legs h)) at h

-- a commodity that no leg names keeps its rest and its credit
pub rests_after_out : (rests : List ℤ) (amount : ℕ) (legs : List Leg) (g : ℕ) → names g legs ≡ false → value_at (rests_after rests amount legs) g ≡ value_at rests g
rests_after_out rests amount [] g h = refl
rests_after_out rests amount (leg ∷ legs) g h =
    let d = nearer_zero (value_at rests leg.commodity) (used amount leg.ratio) in
    rests_after_out (slice_set rests leg.commodity d) amount legs g (names_tail g leg legs h)
    ∙ get_or-set_other rests leg.commodity g d (pos 0) (λ e. names_other g leg legs h (sym e))

pub credits_after_out : (deltas : List ℤ) (risks : List ℕ) (rate amount : ℕ) (credits : List ℕ) (legs : List Leg) (g : ℕ) → names g legs ≡ false → slice_index (credits_after deltas risks rate amount credits legs) g ≡ slice_index credits g
credits_after_out deltas risks rate amount credits [] g h = refl
credits_after_out deltas risks rate amount credits (leg ∷ legs) g h =
    let n = slice_index credits leg.commodity + leg_credit deltas risks rate amount leg in
    credits_after_out deltas risks rate amount (slice_set credits leg.commodity n) legs g (names_tail g leg legs h)
    ∙ get_or-set_other credits leg.commodity g n 0 (λ e. names_other g leg legs h (sym e))

-- Two rows of rests in which the legs' commodities have equal ones.

abbrev pub Agree : List ℤ → List ℤ → List Leg → Type 0
Agree a b legs =
    (j : ℕ) → j < length legs → value_at a (leg_at legs j).commodity ≡ value_at b (leg_at legs j).commodity

set_same : (a b : List ℤ) (c : ℕ) (v : ℤ) (k : ℕ) → length a ≡ length b → value_at a k ≡ value_at b k → value_at (slice_set a c v) k ≡ value_at (slice_set b c v) k
set_same a b c v k long here =
    ⊎_elim
    (λ (own : k ≡ c).
    ⊎_elim
    (λ (low : c < length a). rw (own, get_or-set_same a c v (pos 0) low, get_or-set_same b c v (pos 0) (omega (arith, low, long))) refl)
    (λ (past : length a ≤ c). rw (set_past a c v past, set_past b c v (omega (arith, past, long))) here)
    (cases_lt c (length a)))
    (λ (other : k ≢ c). get_or-set_other a c k v (pos 0) other ∙ here ∙ sym (get_or-set_other b c k v (pos 0) other))
    (cases_eq k c)

pub rests_after_same : (a b : List ℤ) (amount : ℕ) (legs : List Leg) (k : ℕ) → length a ≡ length b → Agree a b legs → value_at a k ≡ value_at b k → value_at (rests_after a amount legs) k ≡ value_at (rests_after b amount legs) k
rests_after_same a b amount [] k long same here = here
rests_after_same a b amount (leg ∷ legs) k long same here =
    let c = leg.commodity in
    let u = used amount leg.ratio in
    let x = nearer_zero (value_at a c) u in
    let head : value_at a c ≡ value_at b c = same 0 (omega arith) in
    rests_after_same (slice_set a c x) (slice_set b c x) amount legs k (length-set a c x ∙ long ∙ sym (length-set b c x)) (λ j h. set_same a b c x (leg_at legs j).commodity long (same (suc j) (omega arith))) (set_same a b c x k long here)
    ∙ ap (λ (z : ℤ). value_at (rests_after (slice_set b c (nearer_zero z u)) amount legs) k) head

fits_same : (a_long : Bool) (a b : List ℤ) (leg : Leg) → value_at a leg.commodity ≡ value_at b leg.commodity → fits a_long a leg ≡ fits a_long b leg
fits_same a_long a b leg h = rw h refl

all_fit_same : (a_long : Bool) (a b : List ℤ) (legs : List Leg) → Agree a b legs → list_all (fits a_long a) legs ≡ list_all (fits a_long b) legs
all_fit_same a_long a b [] same = refl
all_fit_same a_long a b (leg ∷ legs) same =
    let first = fits_same a_long a b leg (same 0 (omega arith)) in
    let others = all_fit_same a_long a b legs (λ j h. same (suc j) (omega arith)) in
    rw (first, others) refl

pub forms_same : (a b : List ℤ) (legs : List Leg) → Agree a b legs → forms a legs ≡ forms b legs
forms_same a b legs same = rw (all_fit_same true a b legs same, all_fit_same false a b legs same) refl

leg_amount_same : (a b : List ℤ) (leg : Leg) → value_at a leg.commodity ≡ value_at b leg.commodity → leg_amount a leg ≡ leg_amount b leg
leg_amount_same a b leg h = rw h refl

least_same : (a b : List ℤ) (least : ℕ) (legs : List Leg) → Agree a b legs → fold (λ n other. min n (leg_amount a other)) least legs ≡ fold (λ n other. min n (leg_amount b other)) least legs
least_same a b least [] same = refl
least_same a b least (leg ∷ legs) same =
    ap (λ (n : ℕ). fold (λ n other. min n (leg_amount a other)) (min least n) legs) (leg_amount_same a b leg (same 0 (omega arith)))
    ∙ least_same a b (min least (leg_amount b leg)) legs (λ j h. same (suc j) (omega arith))

pub spread_amount_same : (a b : List ℤ) (legs : List Leg) → Agree a b legs → spread_amount a legs ≡ spread_amount b legs
spread_amount_same a b [] same = refl
spread_amount_same a b (leg ∷ legs) same =
    ap (λ (n : ℕ). fold (λ n other. min n (leg_amount a other)) n legs) (leg_amount_same a b leg (same 0 (omega arith)))
    ∙ least_same a b (leg_amount b leg) legs (λ j h. same (suc j) (omega arith))

-- The same for credits: net deltas and price risks that are equal for the legs' commodities.

abbrev pub AgreeOn : List ℕ → List ℕ → List Leg → Type 0
AgreeOn a b legs =
    (j : ℕ) → j < length legs → slice_index a (leg_at legs j).commodity ≡ slice_index b (leg_at legs j).commodity

leg_credit_same : (deltas were : List ℤ) (risks was : List ℕ) (rate amount : ℕ) (leg : Leg) → value_at deltas leg.commodity ≡ value_at were leg.commodity → slice_index risks leg.commodity ≡ slice_index was leg.commodity → leg_credit deltas risks rate amount leg ≡ leg_credit were was rate amount leg
leg_credit_same deltas were risks was rate amount leg h k = rw (h, k) refl

pub credits_after_same : (deltas were : List ℤ) (risks was : List ℕ) (rate amount : ℕ) (credits : List ℕ) (legs : List Leg) → Agree deltas were legs → AgreeOn risks was legs → credits_after deltas risks rate amount credits legs ≡ credits_after were was rate amount credits legs
credits_after_same deltas were risks was rate amount credits [] same alike = refl
credits_after_same deltas were risks was rate amount credits (leg ∷ legs) same alike =
    let c = leg.commodity in
    let head = leg_credit_same deltas were risks was rate amount leg (same 0 (omega arith)) (alike 0 (omega arith)) in
    ap (λ (n : ℕ). credits_after deltas risks rate amount (slice_set credits c (slice_index credits c + n)) legs) head
    ∙ credits_after_same deltas were risks was rate amount (slice_set credits c (slice_index credits c + leg_credit were was rate amount leg)) legs (λ j h. same (suc j) (omega arith)) (λ j h. alike (suc j) (omega arith))

-- What the legs of a spread credit to a commodity together.

added : (row : List ℕ) (c n g : ℕ) → c < length row → slice_index (slice_set row c (slice_index row c + n)) g ≡ slice_index row g + (if c == g then n else 0)
added row c n g low =
    ⊎_elim
    (λ (here : c ≡ g). rw (sym here, eq-eqb c c refl) (get_or-set_same row c (slice_index row c + n) 0 low))
    (λ (other : c ≢ g).
    rw (ne_eqb c g other) (get_or-set_other row c g (slice_index row c + n) 0 (λ e. other (sym e)) ∙ omega arith))
    (cases_eq c g)

pub credits_after_shares : (deltas : List ℤ) (risks : List ℕ) (rate amount : ℕ) (credits : List ℕ) (legs : List Leg) (each : List ℕ) (g : ℕ) → length legs ≤ length each → All (λ leg. leg.commodity < length credits) legs → ((j : ℕ) → j < length legs → slice_index each j ≡ leg_credit deltas risks rate amount (leg_at legs j)) → slice_index (credits_after deltas risks rate amount credits legs) g ≡ slice_index credits g + share_of g legs each
credits_after_shares deltas risks rate amount credits [] each g few there are = omega arith
credits_after_shares deltas risks rate amount credits (leg ∷ legs) [] g few there are = absurd (omega arith)
credits_after_shares deltas risks rate amount credits (leg ∷ legs) (n ∷ each) g few there are =
    let c = leg.commodity in
    let x = leg_credit deltas risks rate amount leg in
    let row = slice_set credits c (slice_index credits c + x) in
    let low : c < length credits = All-head (λ (l : Leg). l.commodity < length credits) leg legs there in
    let rows : length row ≡ length credits = length-set credits c (slice_index credits c + x) in
    let tail = All-tail (λ (l : Leg). l.commodity < length credits) leg legs there in
    let others = credits_after_shares deltas risks rate amount row legs each g (omega arith) (λ j d h. omega (arith, tail j d h, rows)) (λ j h. are (suc j) (omega arith)) in
    let own = added credits c x g low in
    let head : n ≡ x = are 0 (omega arith) in
    let sum = sum_by-cons (leg_share g) (leg, n) (zip legs each) in
    rw (sum, head) (omega (arith, others, own))

-- nothing for a commodity that they do not name, and nothing where they credit nothing
pub share_out : (g : ℕ) (legs : List Leg) (each : List ℕ) → names g legs ≡ false → share_of g legs each ≡ 0
share_out g [] each h = refl
share_out g (leg ∷ legs) [] h = refl
share_out g (leg ∷ legs) (n ∷ each) h =
    let others = share_out g legs each (names_tail g leg legs h) in
    rw (sum_by-cons (leg_share g) (leg, n) (zip legs each), ne_eqb leg.commodity g (names_other g leg legs h)) (omega (arith, others))

pub share_none : (g : ℕ) (legs : List Leg) (n : ℕ) → share_of g legs (replicate n 0) ≡ 0
share_none g [] n = refl
share_none g (leg ∷ legs) zero = refl
share_none g (leg ∷ legs) (suc n) =
    let none : ℕ = 0 in
    let own = either_is (leg.commodity == g) none none none (λ e. refl) (λ e. refl) in
    rw (sum_by-cons (leg_share g) (leg, none) (zip legs (replicate n none)), own) (omega (arith, share_none g legs n))

-- what holds of each leg's commodity holds of one that is named
pub named_all : (P : ℕ → Type 0) (g : ℕ) (legs : List Leg) → ((j : ℕ) → j < length legs → P (leg_at legs j).commodity) → names g legs ≡ true → P g
named_all P g [] all h = absurd (false≢true h)
named_all P g (leg ∷ legs) all h =
    ⊎_elim
    (λ (here : leg.commodity ≡ g). subst P here (all 0 (omega arith)))
    (λ (other : leg.commodity ≢ g).
    named_all P g legs (λ j low. all (suc j) (omega arith)) (rw (ne_eqb leg.commodity g other) at h))
    (cases_eq leg.commodity g)

-- One leg more.

share_more : (g : ℕ) (legs : List Leg) (each : List ℕ) (k : ℕ) → k < length legs → k < length each → sum_by (leg_share g) (take (k + 1) (zip legs each)) ≡ sum_by (leg_share g) (take k (zip legs each)) + (if (leg_at legs k).commodity == g then slice_index each k else 0)
share_more g legs each k low there =
    let none : ℕ = 0 in
    let inside : k < length (zip legs each) = omega (arith, length-zip legs each, low, there) in
    sum_by_more (leg_share g) (zip legs each) k (no_leg, none) inside
    ∙ ap (λ (p : Leg × ℕ). sum_by (leg_share g) (take k (zip legs each)) + leg_share g p) (get_or-zip legs each k (no_leg, none) low there)

-- the credit of a leg is within those of its commodity
pub share_within : (legs : List Leg) (each : List ℕ) (k : ℕ) → k < length legs → k < length each → let g = (leg_at legs k).commodity in sum_by (leg_share g) (take k (zip legs each)) + slice_index each k ≤ share_of g legs each
share_within legs each k low there =
    let g = (leg_at legs k).commodity in
    let more = rw (eq-eqb g g refl) at (share_more g legs each k low there) in
    let all = sum_by-take-le (leg_share g) (zip legs each) (k + 1) in
    omega (arith, more, all)

-- one leg's credit is moved
pub credit_moved : (was now : List ℕ) (legs : List Leg) (old new : List ℕ) (k g : ℕ) → k < length legs → k < length old → k < length new → let c = (leg_at legs k).commodity in c < length now → slice_index old k ≤ slice_index now c → slice_index now g + sum_by (leg_share g) (take k (zip legs old)) ≡ slice_index was g + sum_by (leg_share g) (take k (zip legs new)) → slice_index (slice_set now c (slice_index now c - slice_index old k + slice_index new k)) g + sum_by (leg_share g) (take (k + 1) (zip legs old)) ≡ slice_index was g + sum_by (leg_share g) (take (k + 1) (zip legs new))
credit_moved was now legs old new k g low old_there new_there here covered so_far =
    let c = (leg_at legs k).commodity in
    let x = slice_index now c - slice_index old k + slice_index new k in
    let off = share_more g legs old k low old_there in
    let on = share_more g legs new k low new_there in
    ⊎_elim
    (λ (own : c ≡ g).
    let off_own = rw (eq-eqb c g own) at off in
    let on_own = rw (eq-eqb c g own) at on in
    let written : slice_index (slice_set now c x) g ≡ x = rw (sym own) (get_or-set_same now c x 0 here) in
    let row : slice_index now c ≡ slice_index now g = ap (λ (n : ℕ). slice_index now n) own in
    omega (arith, off_own, on_own, written, row, covered, so_far))
    (λ (other : c ≢ g).
    let off_other = rw (ne_eqb c g other) at off in
    let on_other = rw (ne_eqb c g other) at on in
    let written = get_or-set_other now c g x 0 (λ e. other (sym e)) in
    omega (arith, off_other, on_other, written, so_far))
    (cases_eq c g)

-- legs of different commodities
pub legs_apart : (legs : List Leg) (j k : ℕ) → IsDistinct (λ g h. g == h) (map (λ leg. leg.commodity) legs) → j < k → k < length legs → (leg_at legs j).commodity ≢ (leg_at legs k).commodity
legs_apart legs j k apart before low same =
    let f = λ (leg : Leg). leg.commodity in
    let there : k < length (map f legs) = omega (arith, length-map legs f, low) in
    let no = apart_from_distinct (λ (g h : ℕ). g == h) (map f legs) j k 0 apart before there in
    let first = get_or-map f legs j no_leg 0 (omega arith) in
    let second = get_or-map f legs k no_leg 0 low in
    let differ : ((leg_at legs j).commodity == (leg_at legs k).commodity) ≡ false = rw (first, second) at no in
    true≢false (sym (eq-eqb (leg_at legs j).commodity (leg_at legs k).commodity same) ∙ differ)

-- a commodity that no leg names is none of them
pub unnamed : (legs : List Leg) (j k : ℕ) → j < length legs → names k legs ≡ false → (leg_at legs j).commodity ≢ k
unnamed legs j k low out =
    λ e. true≢false (sym (list_any_at (λ (leg : Leg). leg.commodity == k) legs j no_leg low (eq-eqb (leg_at legs j).commodity k e)) ∙ out)

-- one leg's commodity is written to, and no other
pub out_so_far : {X : Type 0} (row : List X) (legs : List Leg) (k c : ℕ) (x d : X) → k < length legs → names c legs ≡ false → get_or (slice_set row (leg_at legs k).commodity x) c d ≡ get_or row c d
out_so_far row legs k c x d low out =
    get_or-set_other row (leg_at legs k).commodity c x d (λ e. unnamed legs k c low out (sym e))

-- what holds of the legs so far, and of one more, which is of another commodity
pub each_so_far : {X : Type 0} (P : ℕ → X → Type 0) (row : List X) (legs : List Leg) (k : ℕ) (x d : X) → IsDistinct (λ g h. g == h) (map (λ leg. leg.commodity) legs) → k < length legs → (leg_at legs k).commodity < length row → ((j : ℕ) → j < k → P j (get_or row (leg_at legs j).commodity d)) → P k x → (j : ℕ) → j < k + 1 → P j (get_or (slice_set row (leg_at legs k).commodity x) (leg_at legs j).commodity d)
each_so_far P row legs k x d apart low there before own j below =
    let g = (leg_at legs k).commodity in
    ⊎_elim
    (λ (earlier : j < k).
    subst (P j) (sym (get_or-set_other row g (leg_at legs j).commodity x d (legs_apart legs j k apart earlier low))) (before j earlier))
    (λ (last : k ≤ j).
    let same : k ≡ j = omega (arith, last, below) in
    subst (λ (n : ℕ). P n (get_or (slice_set row g x) (leg_at legs n).commodity d)) same (subst (P k) (sym (get_or-set_same row g x d there)) own))
    (cases_lt j k)
