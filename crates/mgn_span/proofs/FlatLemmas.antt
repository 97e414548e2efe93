-- Nets of 0 give a requirement of 0: for what starts empty, and for what is flattened.
use Rattle.std.proofs.Common.{◌≡◌, ℕ, zero, suc, ◌-◌, ◌*◌, Option, Some, None, List, [], ◌∷◌, ◌==◌, length, map, replicate, set, refl, ap, arith}
use Rattle.std.specs.Prelude.{ℤ, pos, ◌*ℤ◌, slice_index, slice_set, if◌then◌else◌, ◌&&◌, Bool, true, false, nat_lt}
use Rattle.std.specs.Int.{int_max}
use Rattle.std.specs.List.{AllByRecursion, range_with_len, sum_by}
use Rattle.std.proofs.Math.IntN.{zero-*ℤ}
use Rattle.std.proofs.Math.Nat.{zero-div, zero-mul}
use Rattle.std.proofs.lemmas.Int.{ints, clamps}
use Rattle.std.proofs.lemmas.List.Elements.{All-replicate, recursion_from_All}
use Rattle.std.proofs.lemmas.List.Sums.{sum_by-cons}
use Rattle.mgn_num.proofs.SignedLemmas.{signed_sum_by-cons}
use Rattle.mgn_num.specs.Signed.{signed_sum_below, signed_sum_by, sum_below}
use Rattle.mgn_params.specs.declared.tables.Contract.{Contract}
use Rattle.mgn_params.specs.declared.tables.Month.{Month}
use Rattle.mgn_params.specs.declared.tables.SpotCharge.{SpotCharge}
use Rattle.mgn_span.specs.declared.stage.Stage.{Stage}
use Rattle.mgn_span.specs.Deltas.{is_in_tier, month_delta, negative_part, positive_part, starts_from}
use Rattle.mgn_span.specs.Options.{net_option_value, short_option_minimum}
use Rattle.mgn_span.specs.Positions.{AreFlat, Position, positions}
use Rattle.mgn_span.specs.Requirement.{intra_charge, requirement, risk, scan_of, spot_charge}
use Rattle.mgn_span.specs.Scan.{active, scenario_total, value_at}
use Rattle.mgn_span.specs.Spot.{spot_charge_from, spot_of}
use Rattle.mgn_span.specs.Stages.{amount_of, charges_of, left_after, left_by, long_leg, short_leg, stages_of}
use Rattle.mgn_span.specs.Words.{charge_of, long_delta, long_share, month_share, scenario_share, short_delta, short_share, short_share_of, start_of, starts_of, value_share}
use Rattle.mgn_params.specs.Tables.{Tables, commodity_at, is_option, is_premium}

-- each net is 0
abbrev AreZero : List ℤ → Type 0
AreZero nets = AllByRecursion (λ n. n ≡ pos 0) nets

abbrev IsFlat : List Position → Type 0
IsFlat portfolio = AllByRecursion (λ p. p.1 ≡ pos 0) portfolio

abbrev IsZeroRow : List ℕ → Type 0
IsZeroRow row = AllByRecursion (λ n. n ≡ 0) row

flat_positions : (cs : List Contract) (ns : List ℤ) → AreZero ns → IsFlat (positions cs ns)
flat_positions [] ns h = tt
flat_positions (c ∷ cs) [] h = tt
flat_positions (c ∷ cs) (n ∷ ns) h = (h.0, flat_positions cs ns h.1)

-- what counts for nothing at a net of 0 sums to 0

flat_sum : (f : Position → ℤ) → ((p : Position) → p.1 ≡ pos 0 → f p ≡ pos 0) → (portfolio : List Position) → IsFlat portfolio → signed_sum_by f portfolio ≡ pos 0
flat_sum f z [] h = refl
flat_sum f z (p ∷ portfolio) h =
    omega (arith, ints, signed_sum_by-cons f p portfolio, z p h.0, flat_sum f z portfolio h.1)

flat_count : (f : Position → ℕ) → ((p : Position) → p.1 ≡ pos 0 → f p ≡ 0) → (portfolio : List Position) → IsFlat portfolio → sum_by f portfolio ≡ 0
flat_count f z [] h = refl
flat_count f z (p ∷ portfolio) h = omega (arith, z p h.0, flat_count f z portfolio h.1, sum_by-cons f p portfolio)

zero_below : (f : ℕ → ℕ) → ((k : ℕ) → f k ≡ 0) → (n : ℕ) → sum_below f n ≡ 0
zero_below f z zero = refl
zero_below f z (suc n) = omega (arith, zero_below f z n, z n)

zero_signed_below : (f : ℕ → ℤ) → ((k : ℕ) → f k ≡ pos 0) → (n : ℕ) → signed_sum_below f n ≡ pos 0
zero_signed_below f z zero = refl
zero_signed_below f z (suc n) = omega (arith, ints, zero_signed_below f z n, z n)

either : {X : Type 0} (b : Bool) (x y z : X) → x ≡ z → y ≡ z → (if b then x else y) ≡ z
either true x y z p q = p
either false x y z p q = q

-- scenarios

pub share_flat : (g s : ℕ) (p : Position) → p.1 ≡ pos 0 → scenario_share g s p ≡ pos 0
share_flat g s p h =
    either (p.0.commodity == g) (p.1 *ℤ value_at p.0.array s) (pos 0) (pos 0) (rw h (zero-*ℤ (value_at p.0.array s))) refl

total_flat : (portfolio : List Position) → IsFlat portfolio → (g s : ℕ) → scenario_total g portfolio s ≡ pos 0
total_flat portfolio h g s = flat_sum (scenario_share g s) (share_flat g s) portfolio h

scan_flat : (portfolio : List Position) → IsFlat portfolio → (g : ℕ) → scan_of portfolio g ≡ pos 0
scan_flat portfolio h g = ap (int_max (pos 0)) (total_flat portfolio h g (active (scenario_total g portfolio)))

-- deltas

pub month_share_flat : (m : ℕ) (p : Position) → p.1 ≡ pos 0 → month_share m p ≡ pos 0
month_share_flat m p h =
    either (p.0.month == m) (p.1 *ℤ p.0.delta) (pos 0) (pos 0) (rw h (zero-*ℤ p.0.delta)) refl

month_flat : (portfolio : List Position) → IsFlat portfolio → (m : ℕ) → month_delta portfolio m ≡ pos 0
month_flat portfolio h m = flat_sum (month_share m) (month_share_flat m) portfolio h

long_flat : (ms : List Month) (portfolio : List Position) → IsFlat portfolio → (g tier m : ℕ) → long_share ms portfolio g tier m ≡ 0
long_flat ms portfolio h g tier m =
    either (is_in_tier ms g tier m) (positive_part (month_delta portfolio m)) 0 0 (rw (month_flat portfolio h m) refl) refl

short_flat : (ms : List Month) (portfolio : List Position) → IsFlat portfolio → (g tier m : ℕ) → short_share ms portfolio g tier m ≡ 0
short_flat ms portfolio h g tier m =
    either (is_in_tier ms g tier m) (negative_part (month_delta portfolio m)) 0 0 (rw (month_flat portfolio h m) refl) refl

start_flat : (ms : List Month) (portfolio : List Position) → IsFlat portfolio → (g leg : ℕ) → start_of ms portfolio g leg ≡ 0
start_flat ms portfolio h g leg =
    either (nat_lt leg 8) (long_delta ms portfolio g leg) (short_delta ms portfolio g (leg - 8)) 0
    (zero_below (long_share ms portfolio g leg) (long_flat ms portfolio h g leg) (length ms))
    (zero_below (short_share ms portfolio g (leg - 8)) (short_flat ms portfolio h g (leg - 8)) (length ms))

zero_map : (f : ℕ → ℕ) → ((k : ℕ) → f k ≡ 0) → (xs : List ℕ) → IsZeroRow (map f xs)
zero_map f z [] = tt
zero_map f z (x ∷ xs) = (z x, zero_map f z xs)

starts_flat : (ms : List Month) (portfolio : List Position) → IsFlat portfolio → (g : ℕ) → IsZeroRow (starts_of ms portfolio g)
unfolding starts_from
starts_flat ms portfolio h g = zero_map (start_of ms portfolio g) (start_flat ms portfolio h g) (range_with_len 0 16)

-- stages of nothing

zero_read : (row : List ℕ) → IsZeroRow row → (k : ℕ) → slice_index row k ≡ 0
zero_read [] h k = refl
zero_read (n ∷ row) h zero = h.0
zero_read (n ∷ row) h (suc k) = zero_read row h.1 k

zero_write : (row : List ℕ) (i x : ℕ) → x ≡ 0 → IsZeroRow row → IsZeroRow (slice_set row i x)
zero_write [] i x e h = h
zero_write (n ∷ row) zero x e h = (e, h.1)
zero_write (n ∷ row) (suc i) x e h = (h.0, zero_write row i x e h.1)

amount_zero : (row : List ℕ) → IsZeroRow row → (s : Stage) → amount_of row s ≡ 0
amount_zero row h s = rw (zero_read row h s.first_leg, zero_read row h s.second_leg, zero-div s.first_ratio, zero-div s.second_ratio) refl

left_zero : (row : List ℕ) → IsZeroRow row → (s : Stage) → IsZeroRow (left_after row s)
left_zero row h s =
    zero_write _ _ _ (omega (arith, zero_read row h s.second_leg)) (zero_write _ _ _ (omega (arith, zero_read row h s.first_leg)) h)

charges_zero : (row : List ℕ) → IsZeroRow row → (stages : List Stage) → charges_of row stages ≡ 0
charges_zero row h [] = refl
charges_zero row h (s ∷ stages) =
    let here : charge_of row s ≡ 0 = rw (amount_zero row h s) (omega arith) in
    omega (arith, here, charges_zero (left_after row s) (left_zero row h s) stages)

left_by_zero : (row : List ℕ) → IsZeroRow row → (stages : List Stage) → IsZeroRow (left_by row stages)
left_by_zero row h [] = h
left_by_zero row h (s ∷ stages) = left_by_zero (left_after row s) (left_zero row h s) stages

spot_zero : (row left : List ℕ) → IsZeroRow row → IsZeroRow left → (spot : Option SpotCharge) → spot_charge_from row left spot ≡ 0
spot_zero row left h k None = refl
spot_zero row left h k (Some spot) =
    rw (zero_read row h (long_leg spot.tier), zero_read row h (short_leg spot.tier), zero_read left k (long_leg spot.tier), zero_read left k (short_leg spot.tier)) (omega arith)

-- the requirement

pub short_share_flat : (g charge : ℕ) (p : Position) → p.1 ≡ pos 0 → short_share_of g charge p ≡ 0
short_share_flat g charge p e =
    either ((p.0.commodity == g) && is_option p.0.kind) (negative_part p.1 * charge) 0 0 (rw e (zero-mul charge)) refl

minimum_flat : (portfolio : List Position) → IsFlat portfolio → (g charge : ℕ) → short_option_minimum portfolio g charge ≡ 0
minimum_flat portfolio h g charge =
    flat_count (short_share_of g charge) (short_share_flat g charge) portfolio h

pub value_share_flat : (p : Position) → p.1 ≡ pos 0 → value_share p ≡ pos 0
value_share_flat p e =
    either (is_premium p.0.style) (p.1 *ℤ pos p.0.option_value) (pos 0) (pos 0) (rw e (zero-*ℤ (pos p.0.option_value))) refl

value_flat : (portfolio : List Position) → IsFlat portfolio → net_option_value portfolio ≡ pos 0
value_flat portfolio h = flat_sum value_share value_share_flat portfolio h

risk_flat : (set : Tables) (portfolio : List Position) → IsFlat portfolio → (g : ℕ) → risk set portfolio g ≡ pos 0
unfolding risk intra_charge spot_charge
risk_flat set portfolio h g =
    let starts = starts_flat set.months portfolio h g in
    let stages = stages_of set.spreads g in
    let intra = charges_zero (starts_of set.months portfolio g) starts stages in
    let left = left_by_zero (starts_of set.months portfolio g) starts stages in
    let spot = spot_zero (starts_of set.months portfolio g) (left_by (starts_of set.months portfolio g) stages) starts left (spot_of set.spots g) in
    let least = minimum_flat portfolio h g (commodity_at set.commodities g).short_option_charge in
    rw (scan_flat portfolio h g, intra, spot, least) (omega (arith, ints, clamps))

-- a unit without positions owes nothing
pub requirement_flat : (set : Tables) (nets : List ℤ) → AreFlat nets → requirement set nets ≡ pos 0
unfolding requirement
requirement_flat set nets h =
    let flat = flat_positions set.contracts nets (recursion_from_All (λ (n : ℤ). n ≡ pos 0) nets h) in
    let risks = zero_signed_below (risk set (positions set.contracts nets)) (risk_flat set (positions set.contracts nets) flat) (length set.commodities) in
    rw (risks, value_flat (positions set.contracts nets) flat) refl

pub AreFlat-replicate : (n : ℕ) → AreFlat (replicate n (pos 0))
AreFlat-replicate n = All-replicate (λ (z : ℤ). z ≡ pos 0) n (pos 0) refl

pub requirement_flat_replicate : (set : Tables) (n : ℕ) → requirement set (replicate n (pos 0)) ≡ pos 0
requirement_flat_replicate set n =
    requirement_flat set (replicate n (pos 0)) (AreFlat-replicate n)

-- and its totals, minimums and net option value are 0

held_flat : (cs : List Contract) (ns : List ℤ) → AreFlat ns → IsFlat (positions cs ns)
held_flat cs ns h =
    flat_positions cs ns (recursion_from_All (λ (n : ℤ). n ≡ pos 0) ns h)

pub scenario_total_flat : (cs : List Contract) (ns : List ℤ) (g s : ℕ) → AreFlat ns → scenario_total g (positions cs ns) s ≡ pos 0
scenario_total_flat cs ns g s h =
    total_flat (positions cs ns) (held_flat cs ns h) g s

pub short_option_minimum_flat : (cs : List Contract) (ns : List ℤ) (g charge : ℕ) → AreFlat ns → short_option_minimum (positions cs ns) g charge ≡ 0
short_option_minimum_flat cs ns g charge h =
    minimum_flat (positions cs ns) (held_flat cs ns h) g charge

pub net_option_value_flat : (cs : List Contract) (ns : List ℤ) → AreFlat ns → net_option_value (positions cs ns) ≡ pos 0
net_option_value_flat cs ns h = value_flat (positions cs ns) (held_flat cs ns h)

-- nor does a commodity risk anything

pub scan_of_flat : (cs : List Contract) (ns : List ℤ) (g : ℕ) → AreFlat ns → scan_of (positions cs ns) g ≡ pos 0
scan_of_flat cs ns g h = scan_flat (positions cs ns) (held_flat cs ns h) g

pub intra_charge_flat : (set : Tables) (ns : List ℤ) (g : ℕ) → AreFlat ns → intra_charge set (positions set.contracts ns) g ≡ 0
unfolding intra_charge
intra_charge_flat set ns g h =
    let portfolio = positions set.contracts ns in
    charges_zero (starts_of set.months portfolio g) (starts_flat set.months portfolio (held_flat set.contracts ns h) g) (stages_of set.spreads g)

pub spot_charge_flat : (set : Tables) (ns : List ℤ) (g : ℕ) → AreFlat ns → spot_charge set (positions set.contracts ns) g ≡ 0
unfolding spot_charge
spot_charge_flat set ns g h =
    let portfolio = positions set.contracts ns in
    let starts = starts_flat set.months portfolio (held_flat set.contracts ns h) g in
    let stages = stages_of set.spreads g in
    spot_zero (starts_of set.months portfolio g) (left_by (starts_of set.months portfolio g) stages) starts (left_by_zero (starts_of set.months portfolio g) starts stages) (spot_of set.spots g)

pub risk_of_flat : (set : Tables) (ns : List ℤ) (g : ℕ) → AreFlat ns → risk set (positions set.contracts ns) g ≡ pos 0
risk_of_flat set ns g h = risk_flat set (positions set.contracts ns) (held_flat set.contracts ns h) g
