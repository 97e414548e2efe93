-- Pages that are kept from now on, and quantities written in them: why each call of `Nets` is the list's.
use Rattle.std.proofs.Common.{◌≡◌, ◌≢◌, ◌∙◌, ◌+◌, ◌*◌, ◌/◌, ◌%◌, ◌-◌, ◌<◌, ◌≤◌, ◌++◌, ℕ, zero, suc, ℤ, pos, List, length, length-append, set, take, get_or, replicate, ap, sym, refl, subst, arith, ⊎_elim, length-set, get_or-set_same, get_or-set_other}
use Rattle.std.specs.Prelude.{IfSome, Option, None, Some}
use Rattle.std.specs.List.{sum_by}
use Rattle.std.proofs.Math.Nat.{div-eq_of_lt-le, mod-lt}
use Rattle.std.proofs.lemmas.Bool.{cases_eq, cases_lt}
use Rattle.std.proofs.lemmas.Grind.{div_ceil_times}
use Rattle.std.specs.Int.{div_ceil}
use Rattle.std.proofs.lemmas.Nat.{div-add-mod', div-mul-add, mod-mul-add}
use Rattle.std.proofs.lemmas.List.{ext_get_or, get_or-take, length-take-le, get_or-append-add, get_or_append_left, get_or-replicate, get_or_past, length-replicate}
use Rattle.std.proofs.lemmas.List.Folds.{sum_by-replicate}
use Rattle.std.proofs.lemmas.List.FromFn.{get_or-map-range_with_len, length-map-range_with_len}
use Rattle.std.proofs.lemmas.List.Sums.{sum_by-set}
use Rattle.mgn_span.specs.Scan.{value_at}
use Rattle.mgn_nets.specs.Pages.{ArePages, cell, listed, one_closed}

-- Places.

pub offset : (contract : ℕ) → contract % 16 < 16
offset contract = mod-lt contract (omega arith)

-- two contracts of one page at one place are one
pub one-place : (c d : ℕ) → c / 16 ≡ d / 16 → c % 16 ≡ d % 16 → c ≡ d
one-place c d page place =
    sym (div-add-mod' c 16) ∙ (λ i. page i * 16 + place i) ∙ div-add-mod' d 16

-- the contracts of a page
pub page-of : (page c : ℕ) → page * 16 ≤ c → c < page * 16 + 16 → c / 16 ≡ page
page-of page c from to = div-eq_of_lt-le 16 (omega (arith, from)) (omega (arith, to))

pub page-from : (c : ℕ) → c / 16 * 16 ≤ c
page-from c = omega (arith, div-add-mod' c 16)

-- a contract of the list has a page
pub page-inside : (count : ℕ) (starts : List ℕ) → length starts ≡ div_ceil count 16 → (c : ℕ) → c < count → c / 16 < length starts
page-inside count starts pages c inside = omega (arith, pages, inside, page-from c, (div_ceil_times count 16 (omega arith)).0)

-- A page that is not kept is all 0.

pub closed-cell : (count : ℕ) (starts : List ℕ) (cells : List ℤ) (room : ℕ) → ArePages count starts cells room → (c : ℕ) → get_or starts (c / 16) 0 ≡ 0 → cell starts cells c ≡ pos 0
closed-cell count starts cells room are c closed =
    ap (value_at cells) (omega (arith, closed)) ∙ are.zero (c % 16) (offset c)

-- A page is kept from now on.

opened-start : (starts : List ℕ) (page other new : ℕ) → other ≢ page → get_or (set starts page new) other 0 ≡ get_or starts other 0
opened-start starts page other new apart = get_or-set_other starts page other new 0 apart

kept-cell : (starts : List ℕ) (cells : List ℤ) (start i : ℕ) → start + 16 ≤ length cells → i < 16 → value_at (cells ++ replicate 16 (pos 0)) (start + i) ≡ value_at cells (start + i)
kept-cell starts cells start i inside small = get_or_append_left cells (replicate 16 (pos 0)) (pos 0) (start + i) (omega (arith, inside, small))

new-cell : (cells : List ℤ) (i : ℕ) → i < 16 → value_at (cells ++ replicate 16 (pos 0)) (length cells + i) ≡ pos 0
new-cell cells i small = get_or-append-add cells (replicate 16 (pos 0)) i (pos 0) ∙ get_or-replicate 16 i (pos 0) (pos 0) small

pub opened-cell : (count : ℕ) (starts : List ℕ) (cells : List ℤ) (room page : ℕ) → ArePages count starts cells room → page < length starts → get_or starts page 0 ≡ 0
    → (c : ℕ) → cell (set starts page (length cells)) (cells ++ replicate 16 (pos 0)) c ≡ cell starts cells c
opened-cell count starts cells room page are inside closed c =
    ⊎_elim
    (λ (same : c / 16 ≡ page).
    ap (λ (start : ℕ). value_at (cells ++ replicate 16 (pos 0)) (start + c % 16)) (ap (λ (p : ℕ). get_or (set starts page (length cells)) p 0) same ∙ get_or-set_same starts page (length cells) 0 inside)
    ∙ new-cell cells (c % 16) (offset c)
    ∙ sym (closed-cell count starts cells room are c (ap (λ (p : ℕ). get_or starts p 0) same ∙ closed)))
    (λ (other : c / 16 ≢ page).
    ap (λ (start : ℕ). value_at (cells ++ replicate 16 (pos 0)) (start + c % 16)) (opened-start starts page (c / 16) (length cells) other)
    ∙ kept-cell starts cells (get_or starts (c / 16) 0) (c % 16) (are.inside (c / 16)) (offset c))
    (cases_eq (c / 16) page)

one-open : (start : ℕ) → 0 < start → one_closed start ≡ 0
one-open zero some = absurd (omega (arith, some))
one-open (suc start) some = refl

opened-inside : (starts : List ℕ) (cells : List ℤ) (page other : ℕ) → page < length starts → get_or starts other 0 + 16 ≤ length cells
    → get_or (set starts page (length cells)) other 0 + 16 ≤ length (cells ++ replicate 16 (pos 0))
opened-inside starts cells page other inside was =
    ⊎_elim
    (λ (same : other ≡ page).
    omega (arith, ap (λ (p : ℕ). get_or (set starts page (length cells)) p 0) same ∙ get_or-set_same starts page (length cells) 0 inside, long))
    (λ (apart : other ≢ page). omega (arith, opened-start starts page other (length cells) apart, was, long))
    (cases_eq other page)
  where
    long : length (cells ++ replicate 16 (pos 0)) ≡ length cells + 16
    long = length-append cells (replicate 16 (pos 0))

opened-past : (starts : List ℕ) (cells : List ℤ) (page other : ℕ) → page < length starts → 16 ≤ length cells → (0 < get_or starts other 0 → 16 ≤ get_or starts other 0)
    → 0 < get_or (set starts page (length cells)) other 0 → 16 ≤ get_or (set starts page (length cells)) other 0
opened-past starts cells page other inside some was now =
    ⊎_elim
    (λ (same : other ≡ page).
    omega (arith, ap (λ (p : ℕ). get_or (set starts page (length cells)) p 0) same ∙ get_or-set_same starts page (length cells) 0 inside, some))
    (λ (apart : other ≢ page).
    let start = opened-start starts page other (length cells) apart in
    omega (arith, start, was (omega (arith, start, now))))
    (cases_eq other page)

opened-apart : (count : ℕ) (starts : List ℕ) (cells : List ℤ) (room page : ℕ) → ArePages count starts cells room → page < length starts → (p q i j : ℕ) → 0 < get_or (set starts page (length cells)) p 0 → i < 16 → j < 16
    → get_or (set starts page (length cells)) p 0 + i ≡ get_or (set starts page (length cells)) q 0 + j → p ≡ q
opened-apart count starts cells room page are inside p q i j some small other_small same =
    ⊎_elim
    (λ (p_new : p ≡ page).
    ⊎_elim
    (λ (q_new : q ≡ page). p_new ∙ sym q_new)
    (λ (q_old : q ≢ page).
    absurd (omega (arith, here p p_new, opened-start starts page q (length cells) q_old, are.inside q, same, small, other_small)))
    (cases_eq q page))
    (λ (p_old : p ≢ page).
    ⊎_elim
    (λ (q_new : q ≡ page).
    absurd (omega (arith, here q q_new, opened-start starts page p (length cells) p_old, are.inside p, same, small, other_small)))
    (λ (q_old : q ≢ page).
    let p_start = opened-start starts page p (length cells) p_old in
    let q_start = opened-start starts page q (length cells) q_old in
    are.apart p q i j (omega (arith, some, p_start)) small other_small (omega (arith, same, p_start, q_start)))
    (cases_eq q page))
    (cases_eq p page)
  where
    here : (k : ℕ) → k ≡ page → get_or (set starts page (length cells)) k 0 ≡ length cells
    here k new = ap (λ (n : ℕ). get_or (set starts page (length cells)) n 0) new ∙ get_or-set_same starts page (length cells) 0 inside

opened-owned : (count : ℕ) (starts : List ℕ) (cells : List ℤ) (room page : ℕ) → ArePages count starts cells room → page < length starts → get_or starts page 0 ≡ 0
    → (i : ℕ) → 16 ≤ i → i < length (cells ++ replicate 16 (pos 0))
    → (p : ℕ) × (get_or (set starts page (length cells)) p 0 ≤ i) × (i < get_or (set starts page (length cells)) p 0 + 16)
opened-owned count starts cells room page are inside closed i past within =
    ⊎_elim
    (λ (old : i < length cells).
    let it = are.owned i past old in
    let apart : it.0 ≢ page = λ same. absurd (omega (arith, past, it.2, ap (λ (p : ℕ). get_or starts p 0) same, closed)) in
    let start = opened-start starts page it.0 (length cells) apart in
    (it.0, omega (arith, start, it.1), omega (arith, start, it.2)))
    (λ (new : length cells ≤ i).
    let start = get_or-set_same starts page (length cells) 0 inside in
    (page, omega (arith, start, new), omega (arith, start, within, length-append cells (replicate 16 (pos 0)))))
    (cases_lt i (length cells))

-- the zeros that stand first
pub zeros-first : (count : ℕ) (starts : List ℕ) (cells : List ℤ) (room : ℕ) → ArePages count starts cells room → 16 ≤ length cells
zeros-first count starts cells room are = omega (arith, are.inside (length starts))

pub opened-pages : (count : ℕ) (starts : List ℕ) (cells : List ℤ) (room page : ℕ) → ArePages count starts cells room → page < length starts → get_or starts page 0 ≡ 0
    → ArePages count (set starts page (length cells)) (cells ++ replicate 16 (pos 0)) room
opened-pages count starts cells room page are inside closed = record {
  pages = length-set starts page (length cells) ∙ are.pages;
  few = omega (arith, are.few, length-set starts page (length cells));
  fill = omega (arith, are.fill, length-append cells (replicate 16 (pos 0)), length-set starts page (length cells), sum_by-set one_closed starts page (length cells) 0 inside, ap one_closed closed, one-open (length cells) (omega (arith, some)));
  room = omega (arith, are.room, length-set starts page (length cells));
  inside = λ other. opened-inside starts cells page other inside (are.inside other);
  past = λ other. opened-past starts cells page other inside some (are.past other);
  apart = opened-apart count starts cells room page are inside;
  owned = opened-owned count starts cells room page are inside closed;
  zero = λ i small. get_or_append_left cells (replicate 16 (pos 0)) (pos 0) i (omega (arith, some, small)) ∙ are.zero i small;
  beyond = λ c past. opened-cell count starts cells room page are inside closed c ∙ are.beyond c past;
}
  where
    some : 16 ≤ length cells
    some = zeros-first count starts cells room are

-- the page of zeros
pub first-page : (count : ℕ) (starts : List ℕ) (cells : List ℤ) (room : ℕ) → ArePages count starts cells room → take 16 cells ≡ replicate 16 (pos 0)
first-page count starts cells room are =
    let long : length (take 16 cells) ≡ 16 = length-take-le 16 cells (zeros-first count starts cells room are) in
    ext_get_or (pos 0) (take 16 cells) (replicate 16 (pos 0)) (long ∙ sym (length-replicate 16 (pos 0)))
    (λ i inside.
    let small : i < 16 = omega (arith, inside, long) in
    get_or-take 16 cells i (pos 0) small ∙ are.zero i small ∙ sym (get_or-replicate 16 i (pos 0) (pos 0) small))

-- there is room for one page more
pub page-room : (count : ℕ) (starts : List ℕ) (cells : List ℤ) (room page : ℕ) → ArePages count starts cells room → page < length starts → get_or starts page 0 ≡ 0 → length cells + 16 ≤ room
page-room count starts cells room page are inside closed =
    omega (arith, are.fill, are.room, sum_by-set one_closed starts page 1 0 inside, ap one_closed closed)

-- A quantity is written in a page that is kept.

abbrev pub place_of : List ℕ → ℕ → ℕ
place_of starts c = get_or starts (c / 16) 0 + c % 16

pub place-inside : (count : ℕ) (starts : List ℕ) (cells : List ℤ) (room : ℕ) → ArePages count starts cells room → (c : ℕ) → place_of starts c < length cells
place-inside count starts cells room are c = omega (arith, are.inside (c / 16), offset c)

pub written-here : (count : ℕ) (starts : List ℕ) (cells : List ℤ) (room : ℕ) → ArePages count starts cells room → (c : ℕ) (v : ℤ) → cell starts (set cells (place_of starts c) v) c ≡ v
written-here count starts cells room are c v =
    get_or-set_same cells (place_of starts c) v (pos 0) (place-inside count starts cells room are c)

pub written-other : (count : ℕ) (starts : List ℕ) (cells : List ℤ) (room : ℕ) → ArePages count starts cells room → (c : ℕ) (v : ℤ) → 0 < get_or starts (c / 16) 0
    → (d : ℕ) → d ≢ c → cell starts (set cells (place_of starts c) v) d ≡ cell starts cells d
written-other count starts cells room are c v kept d other =
    get_or-set_other cells (place_of starts c) (place_of starts d) v (pos 0) (λ same. other (one d same))
  where
    one : (d : ℕ) → place_of starts d ≡ place_of starts c → d ≡ c
    one d same =
        let page : c / 16 ≡ d / 16 = are.apart (c / 16) (d / 16) (c % 16) (d % 16) kept (offset c) (offset d) (sym same) in
        sym (one-place c d page (omega (arith, same, ap (λ (p : ℕ). get_or starts p 0) page)))

pub written-pages : (count : ℕ) (starts : List ℕ) (cells : List ℤ) (room : ℕ) → ArePages count starts cells room → (c : ℕ) (v : ℤ) → c < count → 0 < get_or starts (c / 16) 0
    → ArePages count starts (set cells (place_of starts c) v) room
written-pages count starts cells room are c v within kept = record {
  pages = are.pages;
  few = are.few;
  fill = omega (arith, are.fill, long);
  room = are.room;
  inside = λ page. omega (arith, are.inside page, long);
  past = are.past;
  apart = are.apart;
  owned = λ i past within. are.owned i past (omega (arith, within, long));
  zero = λ i small.
      get_or-set_other cells (place_of starts c) i v (pos 0) (λ same. absurd (omega (arith, same, small, are.past (c / 16) kept))) ∙ are.zero i small;
  beyond = λ d past.
      written-other count starts cells room are c v kept d (λ same. absurd (omega (arith, same, past, within))) ∙ are.beyond d past;
}
  where
    long : length (set cells (place_of starts c) v) ≡ length cells
    long = length-set cells (place_of starts c) v

-- The list.

pub listed-long : (count : ℕ) (starts : List ℕ) (cells : List ℤ) → length (listed count starts cells) ≡ count
listed-long count starts cells = length-map-range_with_len (cell starts cells) 0 count

pub listed-at : (count : ℕ) (starts : List ℕ) (cells : List ℤ) (c : ℕ) → c < count → get_or (listed count starts cells) c (pos 0) ≡ cell starts cells c
listed-at count starts cells c within = get_or-map-range_with_len (cell starts cells) 0 count c c (pos 0) within (omega arith)

-- a list is known by its quantities
pub listed-is : (count : ℕ) (starts : List ℕ) (cells list : List ℤ) → length list ≡ count → ((c : ℕ) → c < count → get_or list c (pos 0) ≡ cell starts cells c) → list ≡ listed count starts cells
listed-is count starts cells list long each =
    ext_get_or (pos 0) list (listed count starts cells) (long ∙ sym (listed-long count starts cells))
    (λ c within. each c (omega (arith, within, long)) ∙ sym (listed-at count starts cells c (omega (arith, within, long))))

pub listed-set : (count : ℕ) (starts : List ℕ) (cells : List ℤ) (new_starts : List ℕ) (new_cells : List ℤ) (c : ℕ) (v : ℤ) → c < count → cell new_starts new_cells c ≡ v
    → ((d : ℕ) → d ≢ c → cell new_starts new_cells d ≡ cell starts cells d) → listed count new_starts new_cells ≡ set (listed count starts cells) c v
listed-set count starts cells new_starts new_cells c v within here others =
    sym (listed-is count new_starts new_cells (set (listed count starts cells) c v) (length-set (listed count starts cells) c v ∙ listed-long count starts cells) at)
  where
    at : (d : ℕ) → d < count → get_or (set (listed count starts cells) c v) d (pos 0) ≡ cell new_starts new_cells d
    at d inside =
        ⊎_elim
        (λ (same : d ≡ c).
        ap (λ (k : ℕ). get_or (set (listed count starts cells) c v) k (pos 0)) same
        ∙ get_or-set_same (listed count starts cells) c v (pos 0) (omega (arith, within, listed-long count starts cells))
        ∙ sym here
        ∙ ap (cell new_starts new_cells) (sym same))
        (λ (other : d ≢ c).
        get_or-set_other (listed count starts cells) c d v (pos 0) other ∙ listed-at count starts cells d inside ∙ sym (others d other))
        (cases_eq d c)

-- No page is kept.

pub flat-start : (pages page : ℕ) → get_or (replicate pages zero) page 0 ≡ 0
flat-start pages page =
    ⊎_elim
    (λ (inside : page < pages). get_or-replicate pages page 0 0 inside)
    (λ (past : pages ≤ page). get_or_past (replicate pages zero) page 0 (omega (arith, past, length-replicate pages zero)))
    (cases_lt page pages)

flat-cell : (pages c : ℕ) → cell (replicate pages zero) (replicate 16 (pos 0)) c ≡ pos 0
flat-cell pages c =
    ap (value_at (replicate 16 (pos 0))) (omega (arith, flat-start pages (c / 16))) ∙ get_or-replicate 16 (c % 16) (pos 0) (pos 0) (offset c)

flat-closed : (pages : ℕ) → sum_by one_closed (replicate pages zero) ≡ pages
flat-closed pages = omega (arith, sum_by-replicate one_closed pages zero)

pub flat-pages : (count pages room : ℕ) → count ≤ 4096 → pages ≡ div_ceil count 16 → 16 * pages + 16 ≤ room → ArePages count (replicate pages zero) (replicate 16 (pos 0)) room
flat-pages count pages room few is enough = record {
  pages = long ∙ is;
  few = omega (arith, few, long, is, (div_ceil_times count 16 (omega arith)).1);
  fill = omega (arith, long, flat-closed pages);
  room = omega (arith, long, enough);
  inside = λ page. omega (arith, flat-start pages page);
  past = λ page some. absurd (omega (arith, some, flat-start pages page));
  apart = λ page other i j some. absurd (omega (arith, some, flat-start pages page));
  owned = λ i past within. absurd (omega (arith, past, within, length-replicate 16 (pos 0)));
  zero = λ i small. get_or-replicate 16 i (pos 0) (pos 0) small;
  beyond = λ c past. flat-cell pages c;
}
  where
    long : length (replicate pages zero) ≡ pages
    long = length-replicate pages zero

pub flat-listed : (count pages : ℕ) → listed count (replicate pages zero) (replicate 16 (pos 0)) ≡ replicate count (pos 0)
flat-listed count pages =
    sym (listed-is count (replicate pages zero) (replicate 16 (pos 0)) (replicate count (pos 0)) (length-replicate count (pos 0)) (λ c within. get_or-replicate count c (pos 0) (pos 0) within ∙ sym (flat-cell pages c)))

-- Equal parts.

pub pages-as : (count : ℕ) (starts starts' : List ℕ) (cells cells' : List ℤ) (room room' : ℕ) → starts' ≡ starts → cells' ≡ cells → room' ≡ room → ArePages count starts cells room → ArePages count starts' cells' room'
pages-as count starts starts' cells cells' room room' s c r are =
    subst (λ (it : List ℕ). ArePages count it cells' room') (sym s) (subst (λ (it : List ℤ). ArePages count starts it room') (sym c) (subst (λ (it : ℕ). ArePages count starts cells it) (sym r) are))

pub cell-as : (starts starts' : List ℕ) (cells cells' : List ℤ) → starts' ≡ starts → cells' ≡ cells → (contract : ℕ) → cell starts' cells' contract ≡ cell starts cells contract
cell-as starts starts' cells cells' s c contract = λ i. cell (s i) (c i) contract

-- Pages of two lists.

-- the contract at a place of a page
pub cell-in : (starts : List ℕ) (cells : List ℤ) (page i : ℕ) → i < 16 → cell starts cells (page * 16 + i) ≡ value_at cells (get_or starts page 0 + i)
cell-in starts cells page i small = λ j. value_at cells (get_or starts (div-mul-add page 16 i small j) 0 + mod-mul-add page 16 i small j)

pub pages-with : (count : ℕ) (starts : List ℕ) (cells : List ℤ) (room more : ℕ) → ArePages count starts cells room → 16 * length starts + 16 ≤ more → ArePages count starts cells more
pages-with count starts cells room more are enough = record {
  pages = are.pages;
  few = are.few;
  fill = are.fill;
  room = enough;
  inside = are.inside;
  past = are.past;
  apart = are.apart;
  owned = are.owned;
  zero = are.zero;
  beyond = are.beyond;
}

-- pages at the same places are the same cells where their contracts' are the same
pub cells-one : (starts : List ℕ) (cells others : List ℤ) → length cells ≡ length others → ((i : ℕ) → i < 16 → value_at cells i ≡ value_at others i)
    → ((i : ℕ) → 16 ≤ i → i < length cells → (page : ℕ) × (get_or starts page 0 ≤ i) × (i < get_or starts page 0 + 16))
    → ((c : ℕ) → c / 16 < length starts → cell starts cells c ≡ cell starts others c) → cells ≡ others
cells-one starts cells others long zeros owned same =
    ext_get_or (pos 0) cells others long (λ i inside. ⊎_elim (λ (first : i < 16). zeros i first) (λ (past : 16 ≤ i). kept i past inside) (cases_lt i 16))
  where
    kept : (i : ℕ) → 16 ≤ i → i < length cells → value_at cells i ≡ value_at others i
    kept i past inside =
        let it = owned i past inside in
        let page = it.0 in
        let start = get_or starts page 0 in
        let place : start + (i - start) ≡ i = omega (arith, it.1) in
        let small : i - start < 16 = omega (arith, it.1, it.2) in
        let there : page < length starts =
        ⊎_elim
        (λ (in_list : page < length starts). in_list)
        (λ (beyond : length starts ≤ page). absurd (omega (arith, past, it.2, get_or_past starts page 0 beyond)))
        (cases_lt page (length starts))
        in
        sym (ap (value_at cells) place)
        ∙ sym (cell-in starts cells page (i - start) small)
        ∙ same (page * 16 + (i - start)) (omega (arith, div-mul-add page 16 (i - start) small, there))
        ∙ cell-in starts others page (i - start) small
        ∙ ap (value_at others) place

-- lists of one length are the same where their quantities are
pub cells-same : (count : ℕ) (starts : List ℕ) (cells : List ℤ) (starts' : List ℕ) (cells' : List ℤ) (room room' : ℕ) → ArePages count starts cells room → ArePages count starts' cells' room' → listed count starts cells ≡ listed count starts' cells' → (c : ℕ) → cell starts cells c ≡ cell starts' cells' c
cells-same count starts cells starts' cells' room room' are are' same c =
    ⊎_elim
    (λ (within : c < count).
    sym (listed-at count starts cells c within) ∙ ap (λ (xs : List ℤ). get_or xs c (pos 0)) same ∙ listed-at count starts' cells' c within)
    (λ (past : count ≤ c). are.beyond c past ∙ sym (are'.beyond c past))
    (cases_lt c count)

pub lists-same : (count : ℕ) (starts : List ℕ) (cells : List ℤ) (starts' : List ℕ) (cells' : List ℤ) → ((c : ℕ) → c < count → cell starts cells c ≡ cell starts' cells' c) → listed count starts cells ≡ listed count starts' cells'
lists-same count starts cells starts' cells' same =
    listed-is count starts' cells' (listed count starts cells) (listed-long count starts cells) (λ c within. listed-at count starts cells c within ∙ same c within)

-- A list that the pages make up.

pub row-long : (count : ℕ) (starts : List ℕ) (cells row : List ℤ) → listed count starts cells ≡ row → length row ≡ count
row-long count starts cells row is = ap length (sym is) ∙ listed-long count starts cells

pub row-within : (count : ℕ) (starts : List ℕ) (cells row : List ℤ) → listed count starts cells ≡ row → (c : ℕ) → c < length row → c < count
row-within count starts cells row is c inside = omega (arith, inside, row-long count starts cells row is)

pub row-at : (count : ℕ) (starts : List ℕ) (cells row : List ℤ) → listed count starts cells ≡ row → (c : ℕ) → c < length row → cell starts cells c ≡ value_at row c
row-at count starts cells row is c inside =
    sym (listed-at count starts cells c (row-within count starts cells row is c inside)) ∙ ap (λ (xs : List ℤ). get_or xs c (pos 0)) is

-- what stands in a page of the list, and what stands past its end
pub page-cell : (count : ℕ) (starts : List ℕ) (cells row : List ℤ) (room : ℕ) → listed count starts cells ≡ row → ArePages count starts cells room → (page i : ℕ) → i < 16 → value_at row (page * 16 + i) ≡ value_at cells (get_or starts page 0 + i)
page-cell count starts cells row room is are page i small =
    ⊎_elim
    (λ (inside : page * 16 + i < length row). sym (row-at count starts cells row is (page * 16 + i) inside) ∙ cell-in starts cells page i small)
    (λ (past : length row ≤ page * 16 + i).
    get_or_past row (page * 16 + i) (pos 0) past
    ∙ sym (are.beyond (page * 16 + i) (omega (arith, past, row-long count starts cells row is)))
    ∙ cell-in starts cells page i small)
    (cases_lt (page * 16 + i) (length row))

-- a page that is not kept is all 0
pub page-none : (count : ℕ) (starts : List ℕ) (cells row : List ℤ) (room : ℕ) → listed count starts cells ≡ row → ArePages count starts cells room → (page i : ℕ) → get_or starts page 0 ≡ 0 → i < 16 → value_at row (page * 16 + i) ≡ pos 0
page-none count starts cells row room is are page i closed small =
    page-cell count starts cells row room is are page i small ∙ ap (value_at cells) (omega (arith, closed)) ∙ are.zero i small

-- what is not 0 stands in the list
pub page-some : (count : ℕ) (starts : List ℕ) (cells row : List ℤ) (room : ℕ) → listed count starts cells ≡ row → ArePages count starts cells room → (page i : ℕ) → i < 16 → value_at cells (get_or starts page 0 + i) ≢ pos 0 → page * 16 + i < length row
page-some count starts cells row room is are page i small some =
    ⊎_elim
    (λ (inside : page * 16 + i < length row). inside)
    (λ (past : length row ≤ page * 16 + i).
    absurd (some (sym (page-cell count starts cells row room is are page i small) ∙ get_or_past row (page * 16 + i) (pos 0) past)))
    (cases_lt (page * 16 + i) (length row))

-- what is found in a page is found in the list

pub found-in : (count : ℕ) (starts : List ℕ) (cells row : List ℤ) (room : ℕ) → listed count starts cells ≡ row → ArePages count starts cells room → (page from : ℕ) (r : Option ℕ) → IfSome r (λ place. (from ≤ place) × (place < 16))
    → IfSome r (λ place. value_at cells (get_or starts page 0 + place) ≢ pos 0) → IfSome r (λ place. (from ≤ place) × (place < 16) × (page * 16 + place < length row))
found-in count starts cells row room is are page from None found held = tt
found-in count starts cells row room is are page from (Some place) found held =
    (found.0, found.1, page-some count starts cells row room is are page place found.1 held)

pub held-in : (count : ℕ) (starts : List ℕ) (cells row : List ℤ) (room : ℕ) → listed count starts cells ≡ row → ArePages count starts cells room → (page from : ℕ) (r : Option ℕ) → IfSome r (λ place. (from ≤ place) × (place < 16))
    → IfSome r (λ place. value_at cells (get_or starts page 0 + place) ≢ pos 0) → IfSome r (λ place. value_at row (page * 16 + place) ≢ pos 0)
held-in count starts cells row room is are page from None found held = tt
held-in count starts cells row room is are page from (Some place) found held =
    λ none. held (sym (page-cell count starts cells row room is are page place found.1) ∙ none)

pub passed-in : (count : ℕ) (starts : List ℕ) (cells row : List ℤ) (room : ℕ) → listed count starts cells ≡ row → ArePages count starts cells room → (page from : ℕ) (r : Option ℕ) → IfSome r (λ place. (from ≤ place) × (place < 16))
    → IfSome r (λ place. (i : ℕ) → from ≤ i → i < place → value_at cells (get_or starts page 0 + i) ≡ pos 0) → IfSome r (λ place. (i : ℕ) → from ≤ i → i < place → value_at row (page * 16 + i) ≡ pos 0)
passed-in count starts cells row room is are page from None found passed = tt
passed-in count starts cells row room is are page from (Some place) found passed =
    λ i low less. page-cell count starts cells row room is are page i (omega (arith, less, found.1)) ∙ passed i low less

pub page-within : (count : ℕ) (starts : List ℕ) (cells row : List ℤ) (room : ℕ) → listed count starts cells ≡ row → ArePages count starts cells room → (page : ℕ) → page * 16 < length row → page < length starts
page-within count starts cells row room is are page inside =
    let own : (page * 16) / 16 ≡ page = page-of page (page * 16) (omega arith) (omega arith) in
    let there = page-inside count starts are.pages (page * 16) (row-within count starts cells row is (page * 16) inside) in
    omega (arith, own, there)

-- Two lists, page by page.

pub same-in-page : (row row' : List ℤ) (at k : ℕ) → at ≤ k → value_at row ((at / 16) * 16 + (k - (at / 16) * 16)) ≡ value_at row' ((at / 16) * 16 + (k - (at / 16) * 16)) → value_at row k ≡ value_at row' k
same-in-page row row' at k after same =
    let here : (at / 16) * 16 + (k - (at / 16) * 16) ≡ k = omega (arith, after, div-add-mod' at 16) in
    sym (ap (value_at row) here) ∙ same ∙ ap (value_at row') here

-- what is different in a page is different in the lists, and stands before their end
pub different-in : (row row' : List ℤ) (page : ℕ) (here there : ℕ → ℤ) → ((i : ℕ) → i < 16 → value_at row (page * 16 + i) ≡ here i) → ((i : ℕ) → i < 16 → value_at row' (page * 16 + i) ≡ there i) → (from : ℕ) (r : Option ℕ)
    → IfSome r (λ place. (from ≤ place) × (place < 16)) → IfSome r (λ place. here place ≢ there place) → IfSome r (λ place. value_at row (page * 16 + place) ≢ value_at row' (page * 16 + place))
different-in row row' page here there is is' from None found different = tt
different-in row row' page here there is is' from (Some place) found different =
    λ same. different (sym (is place found.1) ∙ same ∙ is' place found.1)

pub before-in : (row row' : List ℤ) (page : ℕ) (here there : ℕ → ℤ) → ((i : ℕ) → i < 16 → value_at row (page * 16 + i) ≡ here i) → ((i : ℕ) → i < 16 → value_at row' (page * 16 + i) ≡ there i) → (from : ℕ) (r : Option ℕ)
    → IfSome r (λ place. (from ≤ place) × (place < 16)) → IfSome r (λ place. (i : ℕ) → from ≤ i → i < place → here i ≡ there i) → IfSome r (λ place. (i : ℕ) → from ≤ i → i < place → value_at row (page * 16 + i) ≡ value_at row' (page * 16 + i))
before-in row row' page here there is is' from None found before = tt
before-in row row' page here there is is' from (Some place) found before =
    λ i low less.
    let small : i < 16 = omega (arith, less, found.1) in
    is i small ∙ before i low less ∙ sym (is' i small)

pub found-different : (row row' : List ℤ) → length row ≡ length row' → (page from : ℕ) (r : Option ℕ) → IfSome r (λ place. (from ≤ place) × (place < 16)) → IfSome r (λ place. value_at row (page * 16 + place) ≢ value_at row' (page * 16 + place))
    → IfSome r (λ place. (from ≤ place) × (place < 16) × (page * 16 + place < length row))
found-different row row' long page from None found different = tt
found-different row row' long page from (Some place) found different =
    (found.0, found.1, within)
  where
    within : page * 16 + place < length row
    within =
        ⊎_elim
        (λ (inside : page * 16 + place < length row). inside)
        (λ (past : length row ≤ page * 16 + place).
        absurd (different (get_or_past row (page * 16 + place) (pos 0) past ∙ sym (get_or_past row' (page * 16 + place) (pos 0) (omega (arith, past, long))))))
        (cases_lt (page * 16 + place) (length row))
