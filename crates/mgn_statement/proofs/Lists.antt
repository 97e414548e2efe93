-- Lists of what passes a test, as the loops of a statement grow them.
use Rattle.std.proofs.Common.{◌≡◌, ℕ, zero, suc, ◌+◌, ◌-◌, ◌<◌, ◌≤◌, Bool, true, false, List, [], ◌∷◌, ◌++◌, length, take, map, filter, count_by, set, get_or, cond, replicate, ⊎_elim, refl, ap, sym, ◌∙◌, arith, append-nil, take_all}
use Rattle.std.specs.Prelude.{ℤ, pos, unsigned_abs, nat_lt, ◌==◌, ◌&&◌, ◌||◌}
use Rattle.std.specs.List.{range_with_len}
use Rattle.std.proofs.lemmas.List.{map-append}
use Rattle.std.proofs.lemmas.List.Elements.{filter_more, filter-append}
use Rattle.std.proofs.lemmas.List.Sums.{count_by_more_yes, sum_by-take-le}
use Rattle.std.proofs.Math.Bool.{or-false, or-true, and-false}
use Rattle.std.proofs.lemmas.Bool.{cases_lt, eqb-false, eqb-true}
use Rattle.std.proofs.lemmas.Grind.{get_or-set_at}
use Rattle.std.proofs.lemmas.List.{get_or-replicate, get_or-set_other, length-replicate}
use Rattle.std.proofs.Math.ListN.{get_or-eq_default}
use Rattle.std.proofs.lemmas.List.Folds.{list_any_more}
use Rattle.mgn_lots.specs.declared.lot.Lot.{Lot}
use Rattle.mgn_holds.specs.declared.held.Held.{Held}
use Rattle.mgn_machine.specs.declared.statement.ClassLine.{ClassLine}
use Rattle.mgn_machine.specs.declared.statement.CommodityLine.{CommodityLine}
use Rattle.mgn_machine.specs.declared.statement.Heading.{Heading}
use Rattle.mgn_machine.specs.Statements.{Told, is_held}
use Rattle.mgn_params.specs.declared.tables.Contract.{Contract}
use Rattle.mgn_params.specs.Tables.{contract_at, no_contract}
use Rattle.mgn_span.proofs.PositionLemmas.{length_positions, position_at}
use Rattle.mgn_span.specs.Positions.{Position, positions}
use Rattle.mgn_span.specs.Scan.{value_at}

-- one element more, which passes, or does not

pub kept_more : {X Y : Type 0} (f : X → Y) (p : X → Bool) (xs : List X) (i : ℕ) (d : X) → i < length xs → p (get_or xs i d) ≡ true
    → map f (filter p (take (i + 1) xs)) ≡ map f (filter p (take i xs)) ++ f (get_or xs i d) ∷ []
kept_more {X = X} f p xs i d h e =
    ap (λ (ys : List X). map f ys) (filter_more p xs i d h ∙ ap (λ (b : Bool). filter p (take i xs) ++ cond b (get_or xs i d ∷ []) []) e)
    ∙ map-append f (filter p (take i xs)) (get_or xs i d ∷ [])

pub left_more : {X Y : Type 0} (f : X → Y) (p : X → Bool) (xs : List X) (i : ℕ) (d : X) → i < length xs → p (get_or xs i d) ≡ false
    → map f (filter p (take (i + 1) xs)) ≡ map f (filter p (take i xs))
left_more {X = X} f p xs i d h e =
    ap (λ (ys : List X). map f ys) (filter_more p xs i d h ∙ ap (λ (b : Bool). filter p (take i xs) ++ cond b (get_or xs i d ∷ []) []) e ∙ append-nil (filter p (take i xs)))

-- before an element that passes fewer pass than of all
pub count_room : {X : Type 0} (p : X → Bool) (xs : List X) (i : ℕ) (d : X) → i < length xs → p (get_or xs i d) ≡ true → count_by p (take i xs) < count_by p xs
count_room {X = X} p xs i d h e =
    let most : count_by p (take (i + 1) xs) ≤ count_by p xs = sum_by-take-le (λ (x : X). cond (p x) 1 0) xs (i + 1) in
    omega (arith, count_by_more_yes p xs i d h e, most)

-- the same of the first numbers

range_suc : (a n : ℕ) → range_with_len a (suc n) ≡ range_with_len a n ++ (a + n) ∷ []
range_suc a zero = ap (λ (k : ℕ). k ∷ []) (omega arith)
range_suc a (suc n) =
    let first : range_with_len a (suc (suc n)) ≡ a ∷ (range_with_len (a + 1) n ++ (a + 1 + n) ∷ []) = ap (λ (ks : List ℕ). a ∷ ks) (range_suc (a + 1) n) in
    first ∙ ap (λ (k : ℕ). a ∷ (range_with_len (a + 1) n ++ k ∷ [])) (omega arith)

range_more : (n : ℕ) → range_with_len 0 (n + 1) ≡ range_with_len 0 n ++ n ∷ []
range_more n =
    let one : n + 1 ≡ suc n = omega arith in
    let last : 0 + n ≡ n = omega arith in
    ap (λ (k : ℕ). range_with_len 0 k) one ∙ range_suc 0 n ∙ ap (λ (k : ℕ). range_with_len 0 n ++ k ∷ []) last

pub kept_number : {Y : Type 0} (f : ℕ → Y) (p : ℕ → Bool) (n : ℕ) → p n ≡ true
    → map f (filter p (range_with_len 0 (n + 1))) ≡ map f (filter p (range_with_len 0 n)) ++ f n ∷ []
kept_number f p n e =
    ap (λ (ks : List ℕ). map f (filter p ks)) (range_more n)
    ∙ ap (λ (ks : List ℕ). map f ks) (filter-append p (range_with_len 0 n) (n ∷ []) ∙ ap (λ (b : Bool). filter p (range_with_len 0 n) ++ cond b (n ∷ []) []) e)
    ∙ map-append f (filter p (range_with_len 0 n)) (n ∷ [])

pub left_number : {Y : Type 0} (f : ℕ → Y) (p : ℕ → Bool) (n : ℕ) → p n ≡ false
    → map f (filter p (range_with_len 0 (n + 1))) ≡ map f (filter p (range_with_len 0 n))
left_number f p n e =
    ap (λ (ks : List ℕ). map f (filter p ks)) (range_more n)
    ∙ ap (λ (ks : List ℕ). map f ks) (filter-append p (range_with_len 0 n) (n ∷ []) ∙ ap (λ (b : Bool). filter p (range_with_len 0 n) ++ cond b (n ∷ []) []) e ∙ append-nil (filter p (range_with_len 0 n)))

-- the marks of held commodities, one position further, which is not 0, or is; and all of them

held_more : (cs : List Contract) (ns : List ℤ) (i g : ℕ) → i < length cs → length ns ≡ length cs
    → is_held (take (i + 1) (positions cs ns)) g ≡ (is_held (take i (positions cs ns)) g || (((contract_at cs i).commodity == g) && nat_lt 0 (unsigned_abs (value_at ns i))))
held_more cs ns i g h e =
    let one : Position → Bool = λ p. (p.0.commodity == g) && nat_lt 0 (unsigned_abs p.1) in
    list_any_more one (positions cs ns) i (no_contract, pos 0) (omega (arith, length_positions cs ns e))
    ∙ ap (λ (p : Position). is_held (take i (positions cs ns)) g || one p) (position_at cs ns i h e)

-- no marks, and a place that is marked
pub none_marked : (n g : ℕ) → get_or (replicate n false) g false ≡ false
none_marked n g =
    ⊎_elim
    (λ (inside : g < n). get_or-replicate n g false false inside)
    (λ (beyond : n ≤ g). get_or-eq_default (replicate n false) false (omega (arith, length-replicate n false)))
    (cases_lt g n)

marked_at : (marks : List Bool) (c g : ℕ) → c < length marks → get_or (set marks c true) g false ≡ (get_or marks g false || ((c == g) && true))
marked_at marks c g inside = by (c == g) refl
  where
    by : (same : Bool) → (c == g) ≡ same → get_or (set marks c true) g false ≡ (get_or marks g false || ((c == g) && true))
    by true e = rw e (get_or-set_at marks c g true false (sym (eqb-true c g e)) inside ∙ sym (or-true (get_or marks g false)))
    by false e = rw e (get_or-set_other marks c g true false (λ (same : g ≡ c). eqb-false c g e (sym same)) ∙ sym (or-false (get_or marks g false)))

pub marked_more : (marks : List Bool) (cs : List Contract) (ns : List ℤ) (i : ℕ) → i < length cs → length ns ≡ length cs → (contract_at cs i).commodity < length marks → nat_lt 0 (unsigned_abs (value_at ns i)) ≡ true
    → ((g : ℕ) → get_or marks g false ≡ is_held (take i (positions cs ns)) g) → (g : ℕ) → get_or (set marks (contract_at cs i).commodity true) g false ≡ is_held (take (i + 1) (positions cs ns)) g
marked_more marks cs ns i h e inside some before g =
    let c = (contract_at cs i).commodity in
    marked_at marks c g inside
    ∙ ap (λ (b : Bool). b || ((c == g) && true)) (before g)
    ∙ ap (λ (b : Bool). is_held (take i (positions cs ns)) g || ((c == g) && b)) (sym some)
    ∙ sym (held_more cs ns i g h e)

pub unmarked_more : (marks : List Bool) (cs : List Contract) (ns : List ℤ) (i : ℕ) → i < length cs → length ns ≡ length cs → nat_lt 0 (unsigned_abs (value_at ns i)) ≡ false
    → ((g : ℕ) → get_or marks g false ≡ is_held (take i (positions cs ns)) g) → (g : ℕ) → get_or marks g false ≡ is_held (take (i + 1) (positions cs ns)) g
unmarked_more marks cs ns i h e none before g =
    let c = (contract_at cs i).commodity in
    before g
    ∙ sym (or-false (is_held (take i (positions cs ns)) g))
    ∙ ap (λ (b : Bool). is_held (take i (positions cs ns)) g || b) (sym (and-false (c == g)) ∙ ap (λ (b : Bool). (c == g) && b) (sym none))
    ∙ sym (held_more cs ns i g h e)

-- several that are 0

unmarked_run : (marks : List Bool) (cs : List Contract) (ns : List ℤ) (i n : ℕ) → i + n ≤ length cs → length ns ≡ length cs → ((k : ℕ) → i ≤ k → k < i + n → value_at ns k ≡ pos 0)
    → ((g : ℕ) → get_or marks g false ≡ is_held (take i (positions cs ns)) g) → (g : ℕ) → get_or marks g false ≡ is_held (take (i + n) (positions cs ns)) g
unmarked_run marks cs ns i zero h e flat before g = let none : i + 0 ≡ i = omega arith in rw none (before g)
unmarked_run marks cs ns i (suc n) h e flat before g =
    let last : i + suc n ≡ (i + n) + 1 = omega arith in
    let none : nat_lt 0 (unsigned_abs (value_at ns (i + n))) ≡ false = ap (λ (z : ℤ). nat_lt 0 (unsigned_abs z)) (flat (i + n) (omega arith) (omega arith)) in
    rw last (unmarked_more marks cs ns (i + n) (omega (arith, h)) e none (unmarked_run marks cs ns i n (omega (arith, h)) e (λ k low high. flat k low (omega (arith, high))) before) g)

pub unmarked_to : (marks : List Bool) (cs : List Contract) (ns : List ℤ) (i j : ℕ) → i ≤ j → j ≤ length cs → length ns ≡ length cs → ((k : ℕ) → i ≤ k → k < j → value_at ns k ≡ pos 0)
    → ((g : ℕ) → get_or marks g false ≡ is_held (take i (positions cs ns)) g) → (g : ℕ) → get_or marks g false ≡ is_held (take j (positions cs ns)) g
unmarked_to marks cs ns i j low h e flat before g =
    let all : i + (j - i) ≡ j = omega arith in
    rw all at (unmarked_run marks cs ns i (j - i) (omega (arith, h, low)) e (λ k from to. flat k from (omega (arith, to, low))) before g)

pub all_marked : (marks : List Bool) (cs : List Contract) (ns : List ℤ) (i : ℕ) → length cs ≤ i → length ns ≡ length cs
    → ((g : ℕ) → get_or marks g false ≡ is_held (take i (positions cs ns)) g) → (g : ℕ) → get_or marks g false ≡ is_held (positions cs ns) g
all_marked marks cs ns i h e before g =
    before g ∙ ap (λ (ps : List Position). is_held ps g) (take_all i (positions cs ns) (omega (arith, length_positions cs ns e)))

-- statements of the same parts

abbrev told : Heading → List CommodityLine → List Lot → List Held → List ClassLine → Told
told h gs ls os cs = record { heading = h; commodities = gs; lots = ls; holds = os; classes = cs }

pub same_told : {h k : Heading} {gs hs : List CommodityLine} {ls ms : List Lot} {os ps : List Held} {cs ds : List ClassLine}
    → h ≡ k → gs ≡ hs → ls ≡ ms → os ≡ ps → cs ≡ ds → told h gs ls os cs ≡ told k hs ms ps ds
same_told headings commodities lots holds classes =
    λ i. told (headings i) (commodities i) (lots i) (holds i) (classes i)
