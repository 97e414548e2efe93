-- Pages that are kept from now on, and values written in them: why each call of `SparseList` is the list's.
use Rattle.std.proofs.Common.{◌≡◌, ◌≢◌, ◌∙◌, ◌+◌, ◌*◌, ◌/◌, ◌%◌, ◌<◌, ◌≤◌, ◌++◌, ℕ, zero, List, [], ◌∷◌, length, length-append, set, get_or, replicate, ap, sym, subst, arith, ⊎_elim, length-set, get_or-set_same, get_or-set_other}
use Rattle.std.specs.Int.{div_ceil}
use Rattle.std.proofs.lemmas.Bool.{cases_eq}
use Rattle.std.proofs.lemmas.Grind.{div_ceil_times}
use Rattle.std.proofs.lemmas.List.{ext_get_or, get_or-append-add, get_or_append_left, get_or_default, get_or-replicate, length-replicate}
use Rattle.std.proofs.lemmas.List.FromFn.{get_or-map-range_with_len, length-map-range_with_len}
use Rattle.std.proofs.lemmas.Nat.{div-add-mod'}
use Rattle.mgn_rows.specs.Pages.{ArePages, paged, place_of}
use Rattle.mgn_rows.specs.Rows.{ArePlaces}
use Rattle.mgn_rows.proofs.Kept.{few-kept, flat-place, flat-places, kept-place, kept-places, room-for}

-- Places.

-- two values of one page at one offset are one
one-value : (i j : ℕ) → i / 16 ≡ j / 16 → i % 16 ≡ j % 16 → i ≡ j
one-value i j page offset = sym (div-add-mod' i 16) ∙ (λ k. page k * 16 + offset k) ∙ div-add-mod' j 16

-- a value of the list has a page
pub page-inside : (count : ℕ) (places : List ℕ) → length places ≡ div_ceil count 16 → (i : ℕ) → i < count → i / 16 < length places
page-inside count places pages i inside = omega (arith, pages, inside, (div_ceil_times count 16 (omega arith)).0)

pub place-inside : {T : Type 0} (count : ℕ) (places : List ℕ) (cells : List T) (room : ℕ) → ArePages count places cells room → (i : ℕ) → place_of places i < length cells
place-inside count places cells room are i = omega (arith, are.kept.inside (i / 16), are.whole)

-- where the values of a page that is not kept stand
unkept-place : (places : List ℕ) (i : ℕ) → get_or places (i / 16) 0 ≡ 0 → place_of places i ≡ i % 16
unkept-place places i unkept = omega (arith, unkept)

-- the page that the others read as
pub first-page : {T : Type 0} (count : ℕ) (places : List ℕ) (cells : List T) (room : ℕ) → ArePages count places cells room → 16 ≤ length cells
first-page count places cells room are = omega (arith, are.kept.inside 0, are.whole)

-- The list.

pub paged-long : {T : Type 0} (count : ℕ) (places : List ℕ) (cells : List T) → 0 < length cells → length (paged count places cells) ≡ count
paged-long count places [] some = absurd (omega (arith, some))
paged-long count places (value ∷ cells) some =
    length-map-range_with_len (λ (i : ℕ). get_or (value ∷ cells) (place_of places i) value) 0 count

pub paged-at : {T : Type 0} (count : ℕ) (places : List ℕ) (cells : List T) (i : ℕ) (d : T) → i < count → place_of places i < length cells → get_or (paged count places cells) i d ≡ get_or cells (place_of places i) d
paged-at count places [] i d within inside = absurd (omega (arith, inside))
paged-at count places (value ∷ cells) i d within inside =
    get_or-map-range_with_len (λ (k : ℕ). get_or (value ∷ cells) (place_of places k) value) 0 count i i d within (omega arith)
    ∙ get_or_default (value ∷ cells) (place_of places i) value d inside

-- a list is known by its values
pub paged-is : {T : Type 0} (count : ℕ) (places : List ℕ) (cells list : List T) (d : T) → 0 < length cells → length list ≡ count → ((i : ℕ) → i < count → place_of places i < length cells) → ((i : ℕ) → i < count → get_or list i d ≡ get_or cells (place_of places i) d) → paged count places cells ≡ list
paged-is count places cells list d some long inside each =
    ext_get_or d (paged count places cells) list (own ∙ sym long)
    (λ i low.
    let within : i < count = omega (arith, low, own) in
    paged-at count places cells i d within (inside i within) ∙ sym (each i within))
  where
    own : length (paged count places cells) ≡ count
    own = paged-long count places cells some

-- A page is kept from now on.

-- there is room for it
pub page-room : {T : Type 0} (count : ℕ) (places : List ℕ) (cells : List T) (room page : ℕ) → ArePages count places cells room → page < length places → get_or places page 0 ≡ 0 → length cells + 16 ≤ room
page-room count places cells room page are inside unkept =
    omega (arith, room-for places (length cells / 16) (room / 16) page are.kept inside unkept, are.whole)

-- and it is one of few
pub few-pages : {T : Type 0} (count : ℕ) (places : List ℕ) (cells : List T) (room : ℕ) → ArePages count places cells room → length cells / 16 ≤ 4097
few-pages count places cells room are = few-kept places (length cells / 16) (room / 16) are.kept

grown : {T : Type 0} (cells : List T) (value : T) → length (cells ++ replicate 16 value) ≡ length cells + 16
grown cells value = length-append cells (replicate 16 value) ∙ ap (λ (n : ℕ). length cells + n) (length-replicate 16 value)

pub kept-pages : {T : Type 0} (count : ℕ) (places : List ℕ) (cells : List T) (room page : ℕ) (value : T) → ArePages count places cells room → page < length places → get_or places page 0 ≡ 0
    → ArePages count (set places page (length cells / 16)) (cells ++ replicate 16 value) room
kept-pages count places cells room page value are inside unkept = record {
  pages = length-set places page (length cells / 16) ∙ are.pages;
  whole = omega (arith, are.whole, grown cells value);
  kept = subst (λ (n : ℕ). ArePlaces (set places page (length cells / 16)) n (room / 16)) (omega (arith, grown cells value)) (kept-places places (length cells / 16) (room / 16) page are.kept inside unkept);
  flat = λ i d small.
      get_or_append_left cells (replicate 16 value) d i (omega (arith, first-page count places cells room are, small))
      ∙ are.flat i d small
      ∙ sym (get_or_append_left cells (replicate 16 value) d 0 (omega (arith, first-page count places cells room are)));
}

-- and it reads as before
pub kept-paged : {T : Type 0} (count : ℕ) (places : List ℕ) (cells : List T) (room page : ℕ) (value : T) → ArePages count places cells room → page < length places → get_or places page 0 ≡ 0 → value ≡ get_or cells 0 value
    → paged count (set places page (length cells / 16)) (cells ++ replicate 16 value) ≡ paged count places cells
kept-paged count places cells room page value are inside unkept first =
    paged-is count (set places page (length cells / 16)) (cells ++ replicate 16 value) (paged count places cells) value (omega (arith, some, grown cells value)) (paged-long count places cells (omega (arith, some)))
    (λ i within. place-inside count (set places page (length cells / 16)) (cells ++ replicate 16 value) room (kept-pages count places cells room page value are inside unkept) i)
    (λ i within.
    paged-at count places cells i value within (place-inside count places cells room are i)
    ∙ ⊎_elim
    (λ (same : i / 16 ≡ page).
    ap (λ (k : ℕ). get_or cells k value) (unkept-place places i (ap (λ (k : ℕ). get_or places k 0) same ∙ unkept))
    ∙ are.flat (i % 16) value (omega arith)
    ∙ sym first
    ∙ sym (get_or-replicate 16 (i % 16) value value (omega arith))
    ∙ sym (get_or-append-add cells (replicate 16 value) (i % 16) value)
    ∙ ap (λ (k : ℕ). get_or (cells ++ replicate 16 value) k value) (omega (arith, are.whole, ap (λ (k : ℕ). get_or (set places page (length cells / 16)) k 0) same ∙ get_or-set_same places page (length cells / 16) 0 inside)))
    (λ (other : i / 16 ≢ page).
    sym (get_or_append_left cells (replicate 16 value) value (place_of places i) (place-inside count places cells room are i))
    ∙ ap (λ (p : ℕ). get_or (cells ++ replicate 16 value) (p * 16 + i % 16) value) (sym (kept-place places page (i / 16) (length cells / 16) other)))
    (cases_eq (i / 16) page))
  where
    some : 16 ≤ length cells
    some = first-page count places cells room are

-- A page that is kept is written to, and no other value changes.

apart : {T : Type 0} (count : ℕ) (places : List ℕ) (cells : List T) (room : ℕ) → ArePages count places cells room → (i j : ℕ) → 0 < get_or places (i / 16) 0 → place_of places i ≡ place_of places j → i ≡ j
apart count places cells room are i j own same =
    one-value i j (are.kept.apart (i / 16) (j / 16) own (omega (arith, same))) (omega (arith, same))

-- the first page stays as it is
first-kept : {T : Type 0} (places : List ℕ) (cells : List T) (i k : ℕ) (w d : T) → 0 < get_or places (i / 16) 0 → k < 16 → get_or (set cells (place_of places i) w) k d ≡ get_or cells k d
first-kept places cells i k w d own small = get_or-set_other cells (place_of places i) k w d (λ same. absurd (omega (arith, same, small, own)))

pub written-pages : {T : Type 0} (count : ℕ) (places : List ℕ) (cells : List T) (room i : ℕ) (w : T) → ArePages count places cells room → 0 < get_or places (i / 16) 0
    → ArePages count places (set cells (place_of places i) w) room
written-pages count places cells room i w are own = record {
  pages = are.pages;
  whole = omega (arith, are.whole, long);
  kept = subst (λ (n : ℕ). ArePlaces places (n / 16) (room / 16)) (sym long) are.kept;
  flat = λ k d small. first-kept places cells i k w d own small ∙ are.flat k d small ∙ sym (first-kept places cells i 0 w d own (omega arith));
}
  where
    long : length (set cells (place_of places i) w) ≡ length cells
    long = length-set cells (place_of places i) w

pub written-paged : {T : Type 0} (count : ℕ) (places : List ℕ) (cells : List T) (room i : ℕ) (w : T) → ArePages count places cells room → i < count → 0 < get_or places (i / 16) 0
    → paged count places (set cells (place_of places i) w) ≡ set (paged count places cells) i w
written-paged count places cells room i w are within own =
    paged-is count places (set cells (place_of places i) w) (set (paged count places cells) i w) w (omega (arith, some, length-set cells (place_of places i) w)) (length-set (paged count places cells) i w ∙ long)
    (λ j low. omega (arith, place-inside count places cells room are j, length-set cells (place_of places i) w))
    (λ j low.
    ⊎_elim
    (λ (same : j ≡ i).
    ap (λ (k : ℕ). get_or (set (paged count places cells) i w) k w) same
    ∙ get_or-set_same (paged count places cells) i w w (omega (arith, within, long))
    ∙ sym (get_or-set_same cells (place_of places i) w w (place-inside count places cells room are i))
    ∙ ap (λ (k : ℕ). get_or (set cells (place_of places i) w) (place_of places k) w) (sym same))
    (λ (other : j ≢ i).
    get_or-set_other (paged count places cells) i j w w other
    ∙ paged-at count places cells j w low (place-inside count places cells room are j)
    ∙ sym (get_or-set_other cells (place_of places i) (place_of places j) w w (λ same. other (sym (apart count places cells room are i j own (sym same))))))
    (cases_eq j i))
  where
    some : 16 ≤ length cells
    some = first-page count places cells room are

    long : length (paged count places cells) ≡ count
    long = paged-long count places cells (omega (arith, some))

-- No page is kept.

pub flat-pages : {T : Type 0} (count pages room : ℕ) (value : T) → count ≤ 65536 → pages ≡ div_ceil count 16 → 16 * pages + 16 ≤ room → ArePages count (replicate pages zero) (replicate 16 value) room
flat-pages count pages room value few is enough = record {
  pages = length-replicate pages zero ∙ is;
  whole = omega (arith, length-replicate 16 value);
  kept = subst (λ (n : ℕ). ArePlaces (replicate pages zero) n (room / 16)) (omega (arith, length-replicate 16 value)) (flat-places pages (room / 16) (omega (arith, few, is, (div_ceil_times count 16 (omega arith)).1)) (omega (arith, enough)));
  flat = λ i d small. get_or-replicate 16 i value d small ∙ sym (get_or-replicate 16 0 value d (omega arith));
}

pub flat-paged : {T : Type 0} (count pages : ℕ) (value : T) → paged count (replicate pages zero) (replicate 16 value) ≡ replicate count value
flat-paged count pages value =
    paged-is count (replicate pages zero) (replicate 16 value) (replicate count value) value (omega (arith, length-replicate 16 value)) (length-replicate count value) (λ i within. omega (arith, flat-place pages (i / 16), length-replicate 16 value))
    (λ i within.
    get_or-replicate count i value value within
    ∙ sym (get_or-replicate 16 (place_of (replicate pages zero) i) value value (omega (arith, flat-place pages (i / 16)))))

-- A list that the pages make up.

pub list-long : {T : Type 0} (count : ℕ) (places : List ℕ) (cells : List T) (room : ℕ) (list : List T) → ArePages count places cells room → paged count places cells ≡ list → length list ≡ count
list-long count places cells room list are is =
    ap length (sym is) ∙ paged-long count places cells (omega (arith, first-page count places cells room are))

pub list-at : {T : Type 0} (count : ℕ) (places : List ℕ) (cells : List T) (room : ℕ) (list : List T) (i : ℕ) (d : T) → ArePages count places cells room → paged count places cells ≡ list → i < length list → get_or list i d ≡ get_or cells (place_of places i) d
list-at count places cells room list i d are is inside =
    ap (λ (xs : List _). get_or xs i d) (sym is)
    ∙ paged-at count places cells i d (omega (arith, inside, list-long count places cells room list are is)) (place-inside count places cells room are i)

pub list-page : {T : Type 0} (count : ℕ) (places : List ℕ) (cells : List T) (room : ℕ) (list : List T) (i : ℕ) → ArePages count places cells room → paged count places cells ≡ list → i < length list → i / 16 < length places
list-page count places cells room list i are is inside =
    page-inside count places are.pages i (omega (arith, inside, list-long count places cells room list are is))

-- the values of a page that is not kept are one
pub list-run : {T : Type 0} (count : ℕ) (places : List ℕ) (cells : List T) (room : ℕ) (list : List T) (i j : ℕ) (d : T) → ArePages count places cells room → paged count places cells ≡ list → i < length list → j < length list → i / 16 ≡ j / 16 → get_or places (i / 16) 0 ≡ 0 → get_or list i d ≡ get_or list j d
list-run count places cells room list i j d are is inside other_inside page unkept =
    list-at count places cells room list i d are is inside
    ∙ ap (λ (k : ℕ). get_or cells k d) (unkept-place places i unkept)
    ∙ are.flat (i % 16) d (omega arith)
    ∙ sym (are.flat (j % 16) d (omega arith))
    ∙ ap (λ (k : ℕ). get_or cells k d) (sym (unkept-place places j (ap (λ (k : ℕ). get_or places k 0) (sym page) ∙ unkept)))
    ∙ sym (list-at count places cells room list j d are is other_inside)

-- the same pages with room for as many
pub pages-with : {T : Type 0} (count : ℕ) (places : List ℕ) (cells : List T) (room more : ℕ) → ArePages count places cells room → 16 * length places + 16 ≤ more → ArePages count places cells more
pages-with count places cells room more are enough = record {
  pages = are.pages;
  whole = are.whole;
  kept = record { few = are.kept.few; fill = are.kept.fill; room = omega (arith, enough); inside = are.kept.inside; apart = are.kept.apart };
  flat = are.flat;
}
