-- What is defined over the deltas of the months is, at the deltas of positions, what is defined over the positions.
use Rattle.std.proofs.Common.{◌≢◌, [], ◌∷◌, ⊎_elim, replicate, slice_set, length-set, sym, get_or-set_same, get_or-set_other, eq-eqb, ne_eqb, ◌≡◌, ℕ, zero, suc, ◌-◌, ◌<◌, Bool, true, false, List, length, pos, ℤ, ap, ◌∙◌, arith, refl, map}
use Rattle.std.specs.Prelude.{◌+ℤ◌, ◌*ℤ◌, ◌==◌, if◌then◌else◌, nat_lt}
use Rattle.std.specs.List.{range_with_len}
use Rattle.std.proofs.Math.IntN.{zero-*ℤ}
use Rattle.std.proofs.lemmas.Bool.{cases_eq}
use Rattle.std.proofs.lemmas.Int.{ints}
use Rattle.std.proofs.lemmas.List.{get_or-replicate, length-replicate}
use Rattle.std.proofs.lemmas.List.FromFn.{fill_by_all, get_or-map-range_with_len, length-map-range_with_len}
use Rattle.mgn_num.specs.Signed.{signed_sum_below, sum_below}
use Rattle.mgn_num.proofs.SignedLemmas.{signed_sum_by-cons, sum-*ℤ}
use Rattle.mgn_params.specs.declared.tables.Contract.{Contract}
use Rattle.mgn_params.specs.declared.tables.Month.{Month}
use Rattle.mgn_span.specs.Deltas.{is_in_tier, month_delta, negative_part, positive_part, starts_from, start_from}
use Rattle.mgn_span.specs.MonthDeltas.{intra_charge_by, month_deltas, net_delta_by, net_share_by, spot_charge_by, start_by, starts_by}
use Rattle.mgn_span.specs.Positions.{Position, positions}
use Rattle.mgn_span.specs.Requirement.{intra_charge, spot_charge}
use Rattle.mgn_span.specs.Scan.{value_at}
use Rattle.mgn_span.specs.Spot.{spot_charge_from, spot_of}
use Rattle.mgn_span.specs.Stages.{charges_of, left_by, stages_of}
use Rattle.mgn_span.specs.Words.{month_share, net_delta, net_share, start_of, starts_of}
use Rattle.mgn_params.specs.Tables.{Tables, contract_at, month_at}
use Rattle.mgn_span.proofs.PositionLemmas.{position_sum-set}

-- equal numbers come to equal sums
counts_same : (f g : ℕ → ℕ) (n : ℕ) → ((m : ℕ) → m < n → f m ≡ g m) → sum_below f n ≡ sum_below g n
counts_same f g zero same = refl
counts_same f g (suc n) same =
    omega (arith, counts_same f g n (λ m h. same m (omega arith)), same n (omega arith))

numbers_same : (f g : ℕ → ℤ) (n : ℕ) → ((m : ℕ) → m < n → f m ≡ g m) → signed_sum_below f n ≡ signed_sum_below g n
numbers_same f g zero same = refl
numbers_same f g (suc n) same =
    omega (arith, ints, numbers_same f g n (λ m h. same m (omega arith)), same n (omega arith))

-- the delta at a place of the list is that of the month
pub value_at-month_deltas : (months : List Month) (portfolio : List Position) (m : ℕ) → m < length months → value_at (month_deltas months portfolio) m ≡ month_delta portfolio m
value_at-month_deltas months portfolio m h =
    get_or-map-range_with_len (month_delta portfolio) 0 (length months) m m (pos 0) h (omega arith)

-- a choice that does not hang on the number
counts_if : (b : Bool) (f g : ℕ → ℕ) (n : ℕ) → sum_below (λ m. if b then f m else g m) n ≡ (if b then sum_below f n else sum_below g n)
counts_if true f g n = refl
counts_if false f g n = refl

-- what a leg starts with, month by month, is what its tier's long or short delta is
pub start_by-is : (months : List Month) (deltas : List ℤ) (g leg : ℕ) → start_by months deltas g leg ≡ start_from months (value_at deltas) g leg
start_by-is months deltas g leg =
    counts_if (nat_lt leg 8) (λ m. if is_in_tier months g leg m then positive_part (value_at deltas m) else 0) (λ m. if is_in_tier months g (leg - 8) m then negative_part (value_at deltas m) else 0) (length months)

pub start_from-same : (months : List Month) (d e : ℕ → ℤ) (g leg : ℕ) → ((m : ℕ) → m < length months → d m ≡ e m) → start_from months d g leg ≡ start_from months e g leg
start_from-same months d e g leg same =
    let long = counts_same (λ m. if is_in_tier months g leg m then positive_part (d m) else 0) (λ m. if is_in_tier months g leg m then positive_part (e m) else 0) (length months) (λ m h. ap (λ (x : ℤ). if is_in_tier months g leg m then positive_part x else 0) (same m h)) in
    let short = counts_same (λ m. if is_in_tier months g (leg - 8) m then negative_part (d m) else 0) (λ m. if is_in_tier months g (leg - 8) m then negative_part (e m) else 0) (length months) (λ m h. ap (λ (x : ℤ). if is_in_tier months g (leg - 8) m then negative_part x else 0) (same m h)) in
    rw (long, short) refl

-- what the 16 legs start with
pub starts_by-month_deltas : (months : List Month) (portfolio : List Position) (g : ℕ) → starts_by months (month_deltas months portfolio) g ≡ starts_of months portfolio g
unfolding starts_from
starts_by-month_deltas months portfolio g =
    fill_by_all (start_of months portfolio g) (map (start_from months (value_at (month_deltas months portfolio)) g) (range_with_len 0 16)) 16 0 (length-map-range_with_len (start_from months (value_at (month_deltas months portfolio)) g) 0 16)
    (λ leg h. get_or-map-range_with_len (start_from months (value_at (month_deltas months portfolio)) g) 0 16 leg leg 0 h (omega arith) ∙ start_from-same months (value_at (month_deltas months portfolio)) (month_delta portfolio) g leg (value_at-month_deltas months portfolio))

-- the net delta of a commodity
pub net_delta_by-month_deltas : (months : List Month) (portfolio : List Position) (g : ℕ) → net_delta_by months (month_deltas months portfolio) g ≡ net_delta months portfolio g
net_delta_by-month_deltas months portfolio g =
    numbers_same (net_share_by months (month_deltas months portfolio) g) (net_share months portfolio g) (length months) (λ m h. ap (λ (d : ℤ). if (month_at months m).commodity == g then d else pos 0) (value_at-month_deltas months portfolio m h))

-- what the intracommodity spreads of a commodity charge
pub intra_charge_by-month_deltas : (set : Tables) (portfolio : List Position) (g : ℕ) → intra_charge_by set (month_deltas set.months portfolio) g ≡ intra_charge set portfolio g
unfolding intra_charge_by intra_charge
intra_charge_by-month_deltas set portfolio g =
    ap (λ (starts : List ℕ). charges_of starts (stages_of set.spreads g)) (starts_by-month_deltas set.months portfolio g)

-- the spot month charge of a commodity
pub spot_charge_by-month_deltas : (set : Tables) (portfolio : List Position) (g : ℕ) → spot_charge_by set (month_deltas set.months portfolio) g ≡ spot_charge set portfolio g
unfolding spot_charge_by spot_charge
spot_charge_by-month_deltas set portfolio g =
    ap (λ (starts : List ℕ). spot_charge_from starts (left_by starts (stages_of set.spreads g)) (spot_of set.spots g)) (starts_by-month_deltas set.months portfolio g)

-- a quantity more of one contract moves the delta of its month, and no other
share_sum : (m : ℕ) (c : Contract) (n q : ℤ) → month_share m (c, n +ℤ q) ≡ month_share m (c, n) +ℤ month_share m (c, q)
share_sum m c n q =
    let product = sum-*ℤ n q c.delta in
    elim (c.month == m) as (λ b. (if b then (n +ℤ q) *ℤ c.delta else pos 0) ≡ (if b then n *ℤ c.delta else pos 0) +ℤ (if b then q *ℤ c.delta else pos 0)) [ true ↦ product | false ↦ refl ]

month_delta_moved : (cs : List Contract) (ns : List ℤ) (i : ℕ) (q : ℤ) (m : ℕ) → i < length cs → length ns ≡ length cs → month_delta (positions cs (slice_set ns i (value_at ns i +ℤ q))) m ≡ month_delta (positions cs ns) m +ℤ month_share m (contract_at cs i, q)
month_delta_moved cs ns i q m h e =
    let moved = position_sum-set (month_share m) cs ns i (value_at ns i +ℤ q) h e in
    omega (arith, ints, moved, share_sum m (contract_at cs i) (value_at ns i) q)

pub month_deltas-set : (months : List Month) (cs : List Contract) (ns : List ℤ) (i : ℕ) (q : ℤ) → i < length cs → length ns ≡ length cs → (contract_at cs i).month < length months → month_deltas months (positions cs (slice_set ns i (value_at ns i +ℤ q))) ≡ slice_set (month_deltas months (positions cs ns)) (contract_at cs i).month (value_at (month_deltas months (positions cs ns)) (contract_at cs i).month +ℤ q *ℤ (contract_at cs i).delta)
month_deltas-set months cs ns i q h e low =
    let c : Contract = contract_at cs i in
    let portfolio : List Position = positions cs ns in
    let moved : List Position = positions cs (slice_set ns i (value_at ns i +ℤ q)) in
    let row : List ℤ = month_deltas months portfolio in
    let long : length row ≡ length months = length-map-range_with_len (month_delta portfolio) 0 (length months) in
    let d = value_at row c.month +ℤ q *ℤ c.delta in
    sym (fill_by_all (month_delta moved) (slice_set row c.month d) (length months) (pos 0) (length-set row c.month d ∙ long) (λ m inside.
    ⊎_elim
    (λ (here : m ≡ c.month).
    let is = rw (eq-eqb c.month m (sym here)) at (month_delta_moved cs ns i q m h e) in
    let was = ap (λ (k : ℕ). value_at row k) (sym here) in
    let written : value_at (slice_set row c.month d) m ≡ d = ap (λ (k : ℕ). value_at (slice_set row c.month d) k) here ∙ get_or-set_same row c.month d (pos 0) (omega (arith, long, low)) in
    omega (arith, ints, written, was, is, value_at-month_deltas months portfolio m inside))
    (λ (other : m ≢ c.month).
    let is = rw (ne_eqb c.month m (λ x. other (sym x))) at (month_delta_moved cs ns i q m h e) in
    let kept = get_or-set_other row c.month m d (pos 0) other in
    omega (arith, ints, kept, is, value_at-month_deltas months portfolio m inside))
    (cases_eq m c.month)))

-- where nothing is held each month delta is 0
zero_share : (m : ℕ) (c : Contract) → month_share m (c, pos 0) ≡ pos 0
zero_share m c =
    elim (c.month == m) as (λ b. (if b then pos 0 *ℤ c.delta else pos 0) ≡ pos 0) [ true ↦ zero-*ℤ c.delta | false ↦ refl ]

none_held : (cs : List Contract) (m : ℕ) → month_delta (positions cs (replicate (length cs) (pos 0))) m ≡ pos 0
none_held [] m = refl
none_held (c ∷ cs) m =
    let portfolio : List Position = positions cs (replicate (length cs) (pos 0)) in
    omega (arith, ints, signed_sum_by-cons (month_share m) (c, pos 0) portfolio, zero_share m c, none_held cs m)

pub month_deltas-none : (months : List Month) (cs : List Contract) → month_deltas months (positions cs (replicate (length cs) (pos 0))) ≡ replicate (length months) (pos 0)
month_deltas-none months cs =
    let portfolio : List Position = positions cs (replicate (length cs) (pos 0)) in
    sym (fill_by_all (month_delta portfolio) (replicate (length months) (pos 0)) (length months) (pos 0) (length-replicate {A = ℤ} (length months) (pos 0)) (λ m h. get_or-replicate {A = ℤ} (length months) m (pos 0) (pos 0) h ∙ sym (none_held cs m)))
