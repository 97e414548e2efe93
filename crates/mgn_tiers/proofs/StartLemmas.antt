-- What legs start with, and net deltas, after the delta of one month changes: for `TierStages::add` and desks.
use Rattle.std.proofs.Common.{add-one, take, take_all, eq-eqb, ne_eqb, zero, suc, ◌≡◌, ◌≢◌, ℕ, ◌+◌, ◌-◌, ◌*◌, ◌<◌, ◌≤◌, ◌^◌, Bool, true, false, List, length, slice_index, slice_set, pos, ℤ, ⊎_elim, ap, ◌∙◌, sym, arith, refl, All, length-set, get_or-set_same, get_or-set_other, unsigned_abs, replicate}
use Rattle.mgn_num.specs.Signed.{sum_below}
use Rattle.std.specs.Prelude.{count_by, ◌+ℤ◌, ◌==◌, if◌then◌else◌}
use Rattle.std.proofs.lemmas.List.Sums.{count_by_more_no, count_by_more_yes}
use Rattle.std.proofs.lemmas.Bool.{cases_eq, cases_lt}
use Rattle.std.proofs.lemmas.Int.{ints}
use Rattle.std.proofs.lemmas.List.{get_or-replicate, get_or_past, length-replicate}
use Rattle.std.proofs.lemmas.List.FromFn.{fill_by_all, get_or-map-range_with_len, length-map-range_with_len}
use Rattle.mgn_params.specs.declared.tables.Month.{Month}
use Rattle.mgn_span.specs.Deltas.{negative_part, positive_part, start_from, starts_from}
use Rattle.mgn_span.specs.MonthDeltas.{start_share, leg_share, net_delta_by, net_share_by, start_by, starts_by}
use Rattle.mgn_span.specs.Scan.{value_at}
use Rattle.mgn_params.specs.Tables.{month_at, no_month}
use Rattle.mgn_span.specs.Sizes.{IsStart}
use Rattle.mgn_span.proofs.SumLemmas.{signed_sum_below_moved, signed_sum_below_none, sum_below_at, sum_below_moved, sum_below_small}
use Rattle.mgn_span.proofs.MonthDeltaLemmas.{start_by-is}
use Rattle.mgn_span.specs.Sizes.{IsDelta}

-- what a month of a delta counts for in a leg
share_of : Month → ℤ → ℕ → ℕ → ℕ
share_of month delta g leg = start_share month delta g leg

leg_share_is : (months : List Month) (deltas : List ℤ) (g leg m : ℕ) → leg_share months deltas g leg m ≡ share_of (month_at months m) (value_at deltas m) g leg
unfolding share_of
leg_share_is months deltas g leg m = refl

share_small : (month : Month) (delta : ℤ) (g leg : ℕ) → share_of month delta g leg ≤ unsigned_abs delta
unfolding share_of
share_small month delta g leg = grind (arith, ints)

share_long : (month : Month) (delta : ℤ) → month.tier < 8 → share_of month delta month.commodity month.tier ≡ positive_part delta
unfolding share_of
share_long month delta h = grind (arith, ints)

share_short : (month : Month) (delta : ℤ) → month.tier < 8 → share_of month delta month.commodity (8 + month.tier) ≡ negative_part delta
unfolding share_of
share_short month delta h = grind (arith, ints)

share_other : (month : Month) (delta : ℤ) (leg : ℕ) → month.tier < 8 → leg ≢ month.tier → leg ≢ 8 + month.tier → share_of month delta month.commodity leg ≡ 0
unfolding share_of
share_other month delta leg h one two = grind (arith, ints)

share_out : (month : Month) (delta : ℤ) (g leg : ℕ) → month.commodity ≢ g → share_of month delta g leg ≡ 0
unfolding share_of
share_out month delta g leg h = grind (arith, ints)

-- a start at its place in the row
pub starts_at : (months : List Month) (deltas : List ℤ) (g leg : ℕ) → leg < 16 → slice_index (starts_by months deltas g) leg ≡ start_by months deltas g leg
unfolding starts_from
starts_at months deltas g leg h =
    get_or-map-range_with_len (start_from months (value_at deltas) g) 0 16 leg leg 0 h (omega arith) ∙ sym (start_by-is months deltas g leg)

pub starts_long : (months : List Month) (deltas : List ℤ) (g : ℕ) → length (starts_by months deltas g) ≡ 16
unfolding starts_from
starts_long months deltas g = length-map-range_with_len (start_from months (value_at deltas) g) 0 16

starts_read : (months : List Month) (deltas : List ℤ) (g : ℕ) (row : List ℕ) → length row ≡ 16 → ((leg : ℕ) → leg < 16 → slice_index row leg ≡ start_by months deltas g leg) → row ≡ starts_by months deltas g
unfolding starts_from
starts_read months deltas g row long each = fill_by_all (start_from months (value_at deltas) g) row 16 0 long (λ leg h. each leg h ∙ start_by-is months deltas g leg)

-- no leg starts with more than the months of its commodity at their limits
start_below : (months : List Month) (deltas : List ℤ) (g leg n : ℕ) → n ≤ length months → length deltas ≡ length months → All IsDelta deltas → sum_below (leg_share months deltas g leg) n ≤ count_by (λ m. m.commodity == g) (take n months) * (256 * 10 ^ 12)
start_below months deltas g leg zero h one_each small = omega arith
start_below months deltas g leg (suc n) h one_each small =
    let before = start_below months deltas g leg n (omega arith) one_each small in
    let own : IsDelta (value_at deltas n) = small n (pos 0) (omega (arith, one_each)) in
    let is = leg_share_is months deltas g leg n in
    let share = share_small (month_at months n) (value_at deltas n) g leg in
    ⊎_elim
    (λ (same : (month_at months n).commodity ≡ g).
    let counted = rw add-one at (count_by_more_yes (λ (m : Month). m.commodity == g) months n no_month (omega arith) (eq-eqb (month_at months n).commodity g same)) in
    omega (arith, before, is, share, own, ap (λ (k : ℕ). k * (256 * 10 ^ 12)) counted))
    (λ (other : (month_at months n).commodity ≢ g).
    let counted = rw add-one at (count_by_more_no (λ (m : Month). m.commodity == g) months n no_month (omega arith) (ne_eqb (month_at months n).commodity g other)) in
    omega (arith, before, is, share_out (month_at months n) (value_at deltas n) g leg other, ap (λ (k : ℕ). k * (256 * 10 ^ 12)) counted))
    (cases_eq (month_at months n).commodity g)

pub start_small : (months : List Month) (deltas : List ℤ) (g leg : ℕ) → length deltas ≡ length months → count_by (λ m. m.commodity == g) months ≤ 64 → All IsDelta deltas → IsStart (start_by months deltas g leg)
start_small months deltas g leg one_each few small =
    let n = length months in
    let every = ap (λ (ms : List Month). count_by (λ (m : Month). m.commodity == g) ms) (take_all n months (omega arith)) in
    omega (arith, start_below months deltas g leg n (omega arith) one_each small, every, few)

-- another delta at one month
shares_kept : (months : List Month) (deltas : List ℤ) (m : ℕ) (d : ℤ) (g leg k : ℕ) → k ≢ m → leg_share months (slice_set deltas m d) g leg k ≡ leg_share months deltas g leg k
shares_kept months deltas m d g leg k other =
    leg_share_is months (slice_set deltas m d) g leg k ∙ ap (λ (x : ℤ). share_of (month_at months k) x g leg) (get_or-set_other deltas m k d (pos 0) other) ∙ sym (leg_share_is months deltas g leg k)

share_written : (months : List Month) (deltas : List ℤ) (m : ℕ) (d : ℤ) (g leg : ℕ) → m < length deltas → leg_share months (slice_set deltas m d) g leg m ≡ share_of (month_at months m) d g leg
share_written months deltas m d g leg inside =
    leg_share_is months (slice_set deltas m d) g leg m ∙ ap (λ (x : ℤ). share_of (month_at months m) x g leg) (get_or-set_same deltas m d (pos 0) inside)

start_moved : (months : List Month) (deltas : List ℤ) (m : ℕ) (d : ℤ) (g leg : ℕ) → length deltas ≡ length months → m < length months → start_by months (slice_set deltas m d) g leg + share_of (month_at months m) (value_at deltas m) g leg ≡ start_by months deltas g leg + share_of (month_at months m) d g leg
start_moved months deltas m d g leg one_each h =
    let moved = sum_below_moved (leg_share months deltas g leg) (leg_share months (slice_set deltas m d) g leg) (length months) m h (λ k other. shares_kept months deltas m d g leg k other) in
    omega (arith, moved, leg_share_is months deltas g leg m, share_written months deltas m d g leg (omega (arith, one_each)))

-- the legs of other commodities are as they were
pub starts_kept : (months : List Month) (deltas : List ℤ) (m : ℕ) (d : ℤ) (g : ℕ) → length deltas ≡ length months → m < length months → (month_at months m).commodity ≢ g → starts_by months deltas g ≡ starts_by months (slice_set deltas m d) g
starts_kept months deltas m d g one_each h other =
    starts_read months (slice_set deltas m d) g (starts_by months deltas g) (starts_long months deltas g)
    (λ leg low.
    let moved = start_moved months deltas m d g leg one_each h in
    omega (arith, starts_at months deltas g leg low, moved, share_out (month_at months m) (value_at deltas m) g leg other, share_out (month_at months m) d g leg other))

-- what the month counted for is in its legs' starts
pub long_there : (months : List Month) (deltas : List ℤ) (m : ℕ) → m < length months → (month_at months m).tier < 8 → positive_part (value_at deltas m) ≤ slice_index (starts_by months deltas (month_at months m).commodity) (month_at months m).tier
long_there months deltas m h low =
    let month : Month = month_at months m in
    let part = sum_below_at (leg_share months deltas month.commodity month.tier) (length months) m h in
    omega (arith, starts_at months deltas month.commodity month.tier (omega arith), part, leg_share_is months deltas month.commodity month.tier m, share_long month (value_at deltas m) low)

pub short_there : (months : List Month) (deltas : List ℤ) (m : ℕ) → m < length months → (month_at months m).tier < 8 → negative_part (value_at deltas m) ≤ slice_index (starts_by months deltas (month_at months m).commodity) (8 + (month_at months m).tier)
short_there months deltas m h low =
    let month : Month = month_at months m in
    let part = sum_below_at (leg_share months deltas month.commodity (8 + month.tier)) (length months) m h in
    omega (arith, starts_at months deltas month.commodity (8 + month.tier) (omega arith), part, leg_share_is months deltas month.commodity (8 + month.tier) m, share_short month (value_at deltas m) low)

-- the starts of the month's own legs
pub long_moved : (months : List Month) (deltas : List ℤ) (m : ℕ) (d : ℤ) → length deltas ≡ length months → m < length months → (month_at months m).tier < 8 → slice_index (starts_by months deltas (month_at months m).commodity) (month_at months m).tier - positive_part (value_at deltas m) + positive_part d ≡ start_by months (slice_set deltas m d) (month_at months m).commodity (month_at months m).tier
long_moved months deltas m d one_each h low =
    let month : Month = month_at months m in
    let moved = start_moved months deltas m d month.commodity month.tier one_each h in
    omega (arith, moved, long_there months deltas m h low, starts_at months deltas month.commodity month.tier (omega arith), share_long month (value_at deltas m) low, share_long month d low)

pub short_moved : (months : List Month) (deltas : List ℤ) (m : ℕ) (d : ℤ) → length deltas ≡ length months → m < length months → (month_at months m).tier < 8 → slice_index (starts_by months deltas (month_at months m).commodity) (8 + (month_at months m).tier) - negative_part (value_at deltas m) + negative_part d ≡ start_by months (slice_set deltas m d) (month_at months m).commodity (8 + (month_at months m).tier)
short_moved months deltas m d one_each h low =
    let month : Month = month_at months m in
    let moved = start_moved months deltas m d month.commodity (8 + month.tier) one_each h in
    omega (arith, moved, short_there months deltas m h low, starts_at months deltas month.commodity (8 + month.tier) (omega arith), share_short month (value_at deltas m) low, share_short month d low)

-- and so the row of all 16
pub starts_moved : (months : List Month) (deltas : List ℤ) (m : ℕ) (d : ℤ) → length deltas ≡ length months → m < length months → (month_at months m).tier < 8 → let month : Month = month_at months m in let row : List ℕ = starts_by months deltas month.commodity in slice_set (slice_set row month.tier (slice_index row month.tier - positive_part (value_at deltas m) + positive_part d)) (8 + month.tier) (slice_index row (8 + month.tier) - negative_part (value_at deltas m) + negative_part d) ≡ starts_by months (slice_set deltas m d) month.commodity
starts_moved months deltas m d one_each h low =
    let month : Month = month_at months m in
    let g = month.commodity in
    let tier = month.tier in
    let row : List ℕ = starts_by months deltas g in
    let long = slice_index row tier - positive_part (value_at deltas m) + positive_part d in
    let short = slice_index row (8 + tier) - negative_part (value_at deltas m) + negative_part d in
    let sixteen : length row ≡ 16 = starts_long months deltas g in
    let first = length-set row tier long in
    starts_read months (slice_set deltas m d) g (slice_set (slice_set row tier long) (8 + tier) short) (length-set (slice_set row tier long) (8 + tier) short ∙ first ∙ sixteen)
    (λ leg inside.
    ⊎_elim
    (λ (here : leg ≡ 8 + tier).
    rw here (get_or-set_same (slice_set row tier long) (8 + tier) short 0 (omega (arith, first, sixteen)) ∙ short_moved months deltas m d one_each h low))
    (λ (not_short : leg ≢ 8 + tier).
    get_or-set_other (slice_set row tier long) (8 + tier) leg short 0 not_short ∙ ⊎_elim
    (λ (here : leg ≡ tier).
    rw here (get_or-set_same row tier long 0 (omega (arith, sixteen)) ∙ long_moved months deltas m d one_each h low))
    (λ (not_long : leg ≢ tier).
    let moved = start_moved months deltas m d g leg one_each h in
    get_or-set_other row tier leg long 0 not_long ∙ omega (arith, moved, starts_at months deltas g leg inside, share_other month (value_at deltas m) leg low not_long not_short, share_other month d leg low not_long not_short))
    (cases_eq leg tier))
    (cases_eq leg (8 + tier)))

-- the net deltas
net_shares_kept : (months : List Month) (deltas : List ℤ) (m : ℕ) (d : ℤ) (g k : ℕ) → k ≢ m → net_share_by months (slice_set deltas m d) g k ≡ net_share_by months deltas g k
net_shares_kept months deltas m d g k other =
    ap (λ (x : ℤ). if (month_at months k).commodity == g then x else pos 0) (get_or-set_other deltas m k d (pos 0) other)

share_sum : (b : Bool) (x y : ℤ) → (if b then x +ℤ y else pos 0) ≡ (if b then x else pos 0) +ℤ (if b then y else pos 0)
share_sum true x y = refl
share_sum false x y = refl

pub net_moved : (months : List Month) (deltas : List ℤ) (m : ℕ) (change : ℤ) (g : ℕ) → length deltas ≡ length months → m < length months → net_delta_by months (slice_set deltas m (value_at deltas m +ℤ change)) g ≡ net_delta_by months deltas g +ℤ (if (month_at months m).commodity == g then change else pos 0)
net_moved months deltas m change g one_each h =
    let own : Bool = (month_at months m).commodity == g in
    let was = value_at deltas m in
    let moved = signed_sum_below_moved (net_share_by months deltas g) (net_share_by months (slice_set deltas m (was +ℤ change)) g) (length months) m h (λ k other. net_shares_kept months deltas m (was +ℤ change) g k other) in
    let written = ap (λ (x : ℤ). if own then x else pos 0) (get_or-set_same deltas m (was +ℤ change) (pos 0) (omega (arith, one_each))) in
    omega (arith, ints, moved, written, share_sum own was change)

-- where no month has a delta
share_none : (month : Month) (g leg : ℕ) → share_of month (pos 0) g leg ≡ 0
unfolding share_of
share_none month g leg = grind (arith, ints)

pub none_at : (n m : ℕ) → value_at (replicate n (pos 0)) m ≡ pos 0
none_at n m =
    ⊎_elim
    (λ inside. get_or-replicate {A = ℤ} n m (pos 0) (pos 0) inside)
    (λ past. get_or_past {X = ℤ} (replicate {A = ℤ} n (pos 0)) m (pos 0) (omega (arith, length-replicate {A = ℤ} n (pos 0))))
    (cases_lt m n)

pub starts_none : (months : List Month) (g : ℕ) → replicate 16 0 ≡ starts_by months (replicate (length months) (pos 0)) g
starts_none months g =
    let deltas : List ℤ = replicate (length months) (pos 0) in
    starts_read months deltas g (replicate 16 0) (length-replicate {A = ℕ} 16 0)
    (λ leg h.
    let each = sum_below_small (leg_share months deltas g leg) 0 (length months) (λ m low. omega (arith, leg_share_is months deltas g leg m, ap (λ (x : ℤ). share_of (month_at months m) x g leg) (none_at (length months) m), share_none (month_at months m) g leg)) in
    omega (arith, each, get_or-replicate {A = ℕ} 16 leg 0 0 h))

if_same : (b : Bool) → (if b then pos 0 else pos 0) ≡ pos 0
if_same true = refl
if_same false = refl

pub net_none : (months : List Month) (g : ℕ) → net_delta_by months (replicate (length months) (pos 0)) g ≡ pos 0
net_none months g =
    let deltas : List ℤ = replicate (length months) (pos 0) in
    signed_sum_below_none (net_share_by months deltas g) (length months) (λ m h. ap (λ (x : ℤ). if (month_at months m).commodity == g then x else pos 0) (none_at (length months) m) ∙ if_same ((month_at months m).commodity == g))
