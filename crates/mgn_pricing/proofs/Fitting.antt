-- Desks that are given with a command: when one fits, and when one is older.
use Rattle.std.proofs.Common.{pos, ◌≡◌, ◌<◌, ◌∙◌, ℕ, zero, suc, ℤ, Bool, true, false, List, [], ◌∷◌, length, ◌≤◌, get_or, map, sym, ap, refl, arith, cond, Option, Some, None}
use Rattle.std.specs.Prelude.{◌||◌, ◌&&◌, ◌==◌, nat_lt, not}
use Rattle.std.specs.Ordering.{int_eq}
use Rattle.std.specs.Bool.{Decides}
use Rattle.std.specs.List.{find, list_any, position, position_or_len}
use Rattle.std.proofs.lemmas.Bool.Decides.{Decides-eqb, Decides-int_eq}
use Rattle.std.proofs.lemmas.Slice.Eq.{slice_eq-Decides}
use Rattle.std.proofs.lemmas.List.Folds.{find_at}
use Rattle.std.proofs.lemmas.List.Quantifiers.{position-Some}
use Rattle.std.proofs.lemmas.Option.{slice_get_past}
use Rattle.std.proofs.lemmas.Bool.{ltb-false}
use Rattle.std.proofs.lemmas.List.{ext_get_or}
use Rattle.mgn_params.specs.Tables.{Tables}
use Rattle.mgn_nets.specs.Portfolios.{UnitNets}
use Rattle.mgn_desk.specs.declared.desk.Marked.{Marked}
use Rattle.mgn_nets.specs.declared.portfolios.Portfolios.{Portfolios}
use Rattle.mgn_desk.proofs.DeskLemmas.{unit_nets_are}
use Rattle.mgn_desk.specs.Desks.{AreNetsAt, DeskRows, IsMarkedBy, Requires, nets_at}
use Rattle.mgn_desk.specs.Portfolios.{AreSmall, nets_of, requirements_of}
use Rattle.mgn_unit.specs.declared.change.Change.{Change}
use Rattle.mgn_unit.specs.declared.row.Row.{Row}
use Rattle.mgn_unit.specs.Rows.{Priced, Prices, nets_in}
use Rattle.mgn_plan.specs.declared.plans.UnitChange.{UnitChange}
use Rattle.mgn_plan.specs.Plans.{moved_nets, row_at}
use Rattle.mgn_pricing.specs.Desks.{is_of}
use Rattle.mgn_pricing.specs.Given.{IsRight, fits, fits_change, has_nets, marked_in, same_four, same_nets}
use Rattle.mgn_pricing.proofs.Moved.{prices-by}

pub any_map : {A B : Type 0} (f : A → B) (p : B → Bool) (xs : List A) → list_any (λ a. p (f a)) xs ≡ list_any p (map f xs)
any_map f p [] = refl
any_map f p (x ∷ xs) = ap (λ (b : Bool). p (f x) || b) (any_map f p xs)

pub right_marked : (set' : Tables) (version : ℕ) (m : Option Marked) → IsRight set' version m → is_of version m ≡ true → IsMarkedBy set' m
right_marked set' version None right is = cc
right_marked set' version (Some m) right is = right ((Decides-eqb m.version version).0 is)

pub default-is : {A : Type 0} (xs : List A) (i : ℕ) (d e : A) → i < length xs → get_or xs i d ≡ get_or xs i e
default-is [] i d e inside = absurd (omega (arith, inside))
default-is (x ∷ xs) zero d e inside = refl
default-is (x ∷ xs) (suc i) d e inside = default-is xs i d e (omega (arith, inside))

-- Nets with one that is changed.

same-bool : (r s : Bool) {P : Type 0} → Decides r P → Decides s P → r ≡ s
same-bool true true d e = refl
same-bool false false d e = refl
same-bool true false d e = sym (e.1 (d.0 refl))
same-bool false true d e = d.1 (e.0 refl)

decided : (xs ys : List ℤ) → Decides (same_nets xs ys) (xs ≡ ys)
decided xs ys = slice_eq-Decides Decides-int_eq xs ys (same_nets xs ys) refl

-- A desk that fits.

both-true : (a b : Bool) → (a && b) ≡ true → (a ≡ true) × (b ≡ true)
both-true true b e = (refl, e)
both-true false b e = cc

same-is : (m n : UnitNets) → same_four m n ≡ true → m ≡ n
same-is m n e =
    let lots = both-true (same_nets m.lots n.lots) (same_nets m.buys n.buys && (same_nets m.sales n.sales && same_nets m.all n.all)) e in
    let buys = both-true (same_nets m.buys n.buys) (same_nets m.sales n.sales && same_nets m.all n.all) lots.1 in
    let sales = both-true (same_nets m.sales n.sales) (same_nets m.all n.all) buys.1 in
    four-same m n ((decided m.lots n.lots).0 lots.0) ((decided m.buys n.buys).0 buys.0) ((decided m.sales n.sales).0 sales.0) ((decided m.all n.all).0 sales.1)
  where
    four-same : (m n : UnitNets) → m.lots ≡ n.lots → m.buys ≡ n.buys → m.sales ≡ n.sales → m.all ≡ n.all → m ≡ n
    four-same m n a b c d = λ j. record { lots = a j; buys = b j; sales = c j; all = d j }

-- marked nets, contract by contract

abbrev pub AreLong : Tables → UnitNets → Type 0
AreLong t n = (length n.lots ≡ length t.contracts) × (length n.buys ≡ length t.contracts) × (length n.sales ≡ length t.contracts) × (length n.all ≡ length t.contracts)

each-same : (m n : UnitNets) (count : ℕ) → length m.lots ≡ count → length m.buys ≡ count → length m.sales ≡ count → length m.all ≡ count → length n.lots ≡ count → length n.buys ≡ count → length n.sales ≡ count → length n.all ≡ count → ((k : ℕ) → k < count → nets_at n k ≡ nets_at m k) → same_four m n ≡ true
each-same m n count a b c d e f g h each =
    let lots : m.lots ≡ n.lots = ext_get_or (pos 0) m.lots n.lots (a ∙ sym e) (λ k less. sym (ap (λ (four : Portfolios ℤ). four.lots) (each k (omega (arith, less, a))))) in
    let buys : m.buys ≡ n.buys = ext_get_or (pos 0) m.buys n.buys (b ∙ sym f) (λ k less. sym (ap (λ (four : Portfolios ℤ). four.buys) (each k (omega (arith, less, b))))) in
    let sales : m.sales ≡ n.sales = ext_get_or (pos 0) m.sales n.sales (c ∙ sym g) (λ k less. sym (ap (λ (four : Portfolios ℤ). four.sales) (each k (omega (arith, less, c))))) in
    let all : m.all ≡ n.all = ext_get_or (pos 0) m.all n.all (d ∙ sym h) (λ k less. sym (ap (λ (four : Portfolios ℤ). four.all) (each k (omega (arith, less, d))))) in
    rw ((decided m.lots n.lots).1 lots, (decided m.buys n.buys).1 buys, (decided m.sales n.sales).1 sales, (decided m.all n.all).1 all) refl

pub has-each : (t : Tables) (marked : Option Marked) (n : UnitNets) → IsMarkedBy t marked → AreLong t n → ((k : ℕ) → k < length t.contracts → AreNetsAt marked k (nets_at n k)) → true ≡ has_nets n marked
has-each t None n is long each = absurd is
has-each t (Some m) n is long each =
    let are = unit_nets_are t m.portfolios is in
    sym (each-same (nets_of m.portfolios) n (length t.contracts) are.lots.one_each are.buys.one_each are.sales.one_each are.all.one_each long.0 long.1 long.2 long.3 each)

has-same : (n : UnitNets) (marked : Option Marked) (i : ℕ) (four : Portfolios ℤ) → AreNetsAt marked i four → has_nets n marked ≡ true → four ≡ nets_at n i
has-same n None i four at same = absurd at
has-same n (Some m) i four at same = at ∙ ap (λ (x : UnitNets). nets_at x i) (same-is (nets_of m.portfolios) n same)

pub has-not : (n : UnitNets) (marked : Option Marked) (i : ℕ) (four : Portfolios ℤ) → AreNetsAt marked i four → (four ≡ nets_at n i → ⊥) → false ≡ has_nets n marked
has-not n marked i four at other = by (has_nets n marked) refl
  where
    by : (b : Bool) → has_nets n marked ≡ b → false ≡ b
    by false is = refl
    by true is = absurd (other (has-same n marked i four at is))

pub fits-of : (version : ℕ) (nets : UnitNets) (m : Option Marked) → fits version nets m ≡ true → is_of version m ≡ true
fits-of version nets None is = cc
fits-of version nets (Some m) is = (both-true (m.version == version) (same_four (nets_of m.portfolios) nets) is).0

pub priced-fit : (set' : Tables) (version : ℕ) (row : Row) (change : Change) (m : Option Marked) (p : Priced) → fits version (moved_nets change (nets_in row)) m ≡ true → Requires set' m p → AreSmall p → Prices set' change row p
priced-fit set' version row change None p is required small = cc
priced-fit set' version row change (Some m) p is required small =
    let nets : nets_of m.portfolios ≡ moved_nets change (nets_in row) =
    same-is (nets_of m.portfolios) (moved_nets change (nets_in row)) (both-true (m.version == version) (same_four (nets_of m.portfolios) (moved_nets change (nets_in row))) is).1
    in
    prices-by set' row change p (required ∙ ap (requirements_of set') nets) small

-- What tests of `!=` say.

not-true : (b : Bool) → true ≡ not b → b ≡ true → ⊥
not-true true e f = cc
not-true false e f = cc

pub differ-here : (a b : ℤ) → true ≡ not (int_eq a b) → a ≡ b → ⊥
differ-here a b test e = not-true (int_eq a b) test ((Decides-int_eq a b).1 e)

-- The first that passes.

first-place : {A B : Type 0} (f : A → B) (p : B → Bool) (xs : List A) (i : ℕ) (d : A) → i < length xs → p (f (get_or xs i d)) ≡ true → ((k : ℕ) → k < i → p (f (get_or xs k d)) ≡ false) → find p (map f xs) ≡ Some (f (get_or xs i d))
first-place f p [] i d inside here before = absurd (omega (arith, inside))
first-place f p (x ∷ xs) zero d inside here before = ap (λ (b : Bool). cond b (Some (f x)) (find p (map f xs))) here
first-place f p (x ∷ xs) (suc i) d inside here before =
    ap (λ (b : Bool). cond b (Some (f x)) (find p (map f xs))) (before 0 (omega arith)) ∙ first-place f p xs i d (omega (arith, inside)) here (λ k small. before (suc k) (omega (arith, small)))

pub found-at : {A B : Type 0} (f : A → B) (p : B → Bool) (xs : List A) (i : ℕ) (d : A) → position (λ a. p (f a)) xs ≡ Some i → find p (map f xs) ≡ Some (f (get_or xs i d))
found-at f p xs i d at =
    let all = position-Some (λ a. p (f a)) xs i d at in
    first-place f p xs i d all.0 all.1 all.2

some-none : {A : Type 0} {a : A} → Some a ≡ None → ⊥
some-none e = cc

no-place : {A B : Type 0} (f : A → B) (p : B → Bool) (xs : List A) → find (λ a. p (f a)) xs ≡ None → find p (map f xs) ≡ None
no-place f p [] none = refl
no-place f p (x ∷ xs) none = by (λ rest. no-place f p xs rest) (p (f x)) refl
  where
    by : (find (λ a. p (f a)) xs ≡ None → find p (map f xs) ≡ None) → (b : Bool) → p (f x) ≡ b → find p (map f (x ∷ xs)) ≡ None
    by more true is = absurd (some-none (sym (ap (λ (c : Bool). cond c (Some x) (find (λ a. p (f a)) xs)) is) ∙ none))
    by more false is =
        ap (λ (c : Bool). cond c (Some (f x)) (find p (map f xs))) is ∙ more (sym (ap (λ (c : Bool). cond c (Some x) (find (λ a. p (f a)) xs)) is) ∙ none)

not-found : {A : Type 0} (p : A → Bool) (xs : List A) → position p xs ≡ None → find p xs ≡ None
not-found p xs none = find_at p xs ∙ slice_get_past xs (position_or_len p xs) (past (nat_lt (position_or_len p xs) (length xs)) refl)
  where
    past : (b : Bool) → nat_lt (position_or_len p xs) (length xs) ≡ b → length xs ≤ position_or_len p xs
    past true is = absurd (some-none (sym (ap (λ (c : Bool). cond c (Some (position_or_len p xs)) None) is) ∙ none))
    past false is = ltb-false (position_or_len p xs) (length xs) is

pub found-none : {A B : Type 0} (f : A → B) (p : B → Bool) (xs : List A) → position (λ a. p (f a)) xs ≡ None → find p (map f xs) ≡ None
found-none f p xs none = no-place f p xs (not-found (λ a. p (f a)) xs none)

-- A plan's desk among some.

-- no desk of the unit
pub unfit-none : {A : Type 0} (f : A → DeskRows) (set' : Tables) (version : ℕ) (rows : List Row) (u : UnitChange) (desks : List A) → position (λ d. (f d).unit == u.unit) desks ≡ None → fits_change set' version rows (map f desks) u ≡ false
unfit-none f set' version rows u desks none =
    ap (λ (o : Option DeskRows). fits version (moved_nets u.change (nets_in (row_at set' rows u.unit))) (marked_in o)) (found-none f (λ d. d.unit == u.unit) desks none)

-- the desk of the unit, and its row
pub fits-place : {A : Type 0} (f : A → DeskRows) (set' : Tables) (version : ℕ) (rows : List Row) (u : UnitChange) (desks : List A) (i : ℕ) (d : A) (row : Row)
    → u.unit < length rows → row ≡ get_or rows u.unit row → position (λ a. (f a).unit == u.unit) desks ≡ Some i → d ≡ get_or desks i d → fits_change set' version rows (map f desks) u ≡ fits version (moved_nets u.change (nets_in row)) (f d).marked
fits-place {A = A} f set' version rows u desks i d row inside row_is at d_is = λ j. fits version (moved_nets u.change (nets_in (row-same j))) (marked_in (desk-same j))
  where
    row-same : row_at set' rows u.unit ≡ row
    row-same = default-is rows u.unit _ row inside ∙ sym row_is

    desk-same : find (λ (a : DeskRows). a.unit == u.unit) (map f desks) ≡ Some (f d)
    desk-same = found-at f (λ a. a.unit == u.unit) desks i d at ∙ ap (λ (a : A). Some (f a)) (sym d_is)
