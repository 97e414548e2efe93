-- The requirement is the same without a commodity in which nothing is held.
use Rattle.std.proofs.Common.{◌≡◌, ◌≢◌, ℕ, ◌-◌, ◌==◌, Bool, true, false, not, None, List, [], ◌∷◌, length, map, ⊎_elim, ap, ◌∙◌, sym, refl, arith, eq-eqb, ne_eqb, replicate}
use Rattle.std.specs.Prelude.{ℤ, pos, if◌then◌else◌, slice_index, unsigned_abs}
use Rattle.std.specs.List.{AllByRecursion, filter, find, flat_map, fold, list_any, sum_by}
use Rattle.std.proofs.Math.Path.{fun_ext}
use Rattle.std.proofs.lemmas.Bool.{cases_eq}
use Rattle.std.proofs.lemmas.Int.{ints}
use Rattle.std.proofs.lemmas.List.Elements.{recursion_from_All}
use Rattle.std.proofs.lemmas.List.Sums.{sum_by-cons}
use Rattle.mgn_laws.proofs.AbsentCredits.{HasNothing, no_credits, nothing_more, others}
use Rattle.mgn_laws.proofs.AbsentLemmas.{delta_none, intra_none, spot_none}
use Rattle.mgn_laws.specs.Absent.{HoldsNone, other_nets, without}
use Rattle.mgn_laws.specs.Uses.{deltas_in, risks_in}
use Rattle.mgn_num.proofs.SignedLemmas.{signed_sum_by-cons}
use Rattle.mgn_num.specs.Signed.{signed_sum_below, signed_sum_by}
use Rattle.mgn_span.proofs.SumLemmas.{signed_sum_below_same}
use Rattle.mgn_span.proofs.FlatLemmas.{month_share_flat, share_flat, short_share_flat, value_share_flat}
use Rattle.mgn_params.specs.declared.tables.Contract.{Contract}
use Rattle.mgn_params.specs.declared.tables.CreditSpread.{CreditSpread}
use Rattle.mgn_params.specs.declared.tables.Leg.{Leg}
use Rattle.mgn_params.specs.declared.tables.Month.{Month}
use Rattle.mgn_params.specs.declared.tables.SpotCharge.{SpotCharge}
use Rattle.mgn_params.specs.declared.tables.Spread.{Spread}
use Rattle.mgn_span.specs.declared.stage.Stage.{Stage}
use Rattle.mgn_span.specs.Credits.{formed, forms}
use Rattle.mgn_span.specs.Deltas.{month_delta, starts_from}
use Rattle.mgn_params.specs.Limits.{IsWithinLimits}
use Rattle.mgn_span.specs.Options.{net_option_value}
use Rattle.mgn_span.specs.Positions.{Position, positions}
use Rattle.mgn_span.specs.Requirement.{credit, credits, intra_charge, minimum, requirement, risk, scan_of, spot_charge}
use Rattle.mgn_span.specs.Scan.{price_risk2, scan_risk, scenario_total, value_at}
use Rattle.mgn_span.specs.Spot.{spot_of, spot_charge_from}
use Rattle.mgn_span.specs.Stages.{charges_of, stages_of, stages_of_spread, left_by}
use Rattle.mgn_span.specs.Words.{commodities_of, month_share, net_delta, price_risk2_of, scenario_share, short_share_of, starts_of, value_share}
use Rattle.mgn_params.specs.Tables.{Tables, commodity_at, legs_of, month_at}

-- filters by a number that each row has, as its commodity

abbrev others_of : {X : Type 0} → (X → ℕ) → ℕ → List X → List X
others_of f g xs = filter (λ x. not (f x == g)) xs

filter_other : {X : Type 0} (f : X → ℕ) (g h : ℕ) → h ≢ g → (xs : List X) → filter (λ x. f x == h) (others_of f g xs) ≡ filter (λ x. f x == h) xs
filter_other f g h apart [] = refl
filter_other f g h apart (x ∷ xs) =
    ⊎_elim
    (λ (of : f x ≡ g). let away : f x ≢ h = λ e. apart (sym e ∙ of) in rw (eq-eqb (f x) g of, ne_eqb (f x) h away) (filter_other f g h apart xs))
    (λ (off : f x ≢ g). rw (ne_eqb (f x) g off, filter_other f g h apart xs) refl)
    (cases_eq (f x) g)

filter_own : {X : Type 0} (f : X → ℕ) (g : ℕ) (xs : List X) → filter (λ x. f x == g) (others_of f g xs) ≡ []
filter_own f g [] = refl
filter_own f g (x ∷ xs) =
    ⊎_elim
    (λ (of : f x ≡ g). rw (eq-eqb (f x) g of) (filter_own f g xs))
    (λ (off : f x ≢ g). rw (ne_eqb (f x) g off) (rw (ne_eqb (f x) g off) (filter_own f g xs)))
    (cases_eq (f x) g)

find_other : {X : Type 0} (f : X → ℕ) (g h : ℕ) → h ≢ g → (xs : List X) → find (λ x. f x == h) (others_of f g xs) ≡ find (λ x. f x == h) xs
find_other f g h apart [] = refl
find_other f g h apart (x ∷ xs) =
    ⊎_elim
    (λ (of : f x ≡ g). let away : f x ≢ h = λ e. apart (sym e ∙ of) in rw (eq-eqb (f x) g of, ne_eqb (f x) h away) (find_other f g h apart xs))
    (λ (off : f x ≢ g). rw (ne_eqb (f x) g off, find_other f g h apart xs) refl)
    (cases_eq (f x) g)

find_own : {X : Type 0} (f : X → ℕ) (g : ℕ) (xs : List X) → find (λ x. f x == g) (others_of f g xs) ≡ None
find_own f g [] = refl
find_own f g (x ∷ xs) =
    ⊎_elim
    (λ (of : f x ≡ g). rw (eq-eqb (f x) g of) (find_own f g xs))
    (λ (off : f x ≢ g). rw (ne_eqb (f x) g off) (rw (ne_eqb (f x) g off) (find_own f g xs)))
    (cases_eq (f x) g)

-- the positions that are left

abbrev left : ℕ → List Position → List Position
left g portfolio = others_of (λ (p : Position). p.0.commodity) g portfolio

no_nets : (cs : List Contract) → positions cs [] ≡ []
no_nets [] = refl
no_nets (c ∷ cs) = refl

left_positions : (g : ℕ) (cs : List Contract) (ns : List ℤ) → positions (others_of (λ (c : Contract). c.commodity) g cs) (map (λ (p : Position). p.1) (left g (positions cs ns))) ≡ left g (positions cs ns)
left_positions g [] ns = refl
left_positions g (c ∷ cs) [] = no_nets (others_of (λ (x : Contract). x.commodity) g (c ∷ cs))
left_positions g (c ∷ cs) (n ∷ ns) =
    ⊎_elim
    (λ (of : c.commodity ≡ g). rw (eq-eqb c.commodity g of) (left_positions g cs ns))
    (λ (off : c.commodity ≢ g). rw (ne_eqb c.commodity g off) (ap (λ (ps : List Position). (c, n) ∷ ps) (left_positions g cs ns)))
    (cases_eq c.commodity g)

-- what counts for nothing at a net of 0 sums to the same

abbrev HoldsNoneByRecursion : List Position → ℕ → Type 0
HoldsNoneByRecursion portfolio g = AllByRecursion (λ p. p.0.commodity ≡ g → p.1 ≡ pos 0) portfolio

sum_left : (f : Position → ℤ) → ((p : Position) → p.1 ≡ pos 0 → f p ≡ pos 0) → (g : ℕ) (portfolio : List Position) → HoldsNoneByRecursion portfolio g → signed_sum_by f (left g portfolio) ≡ signed_sum_by f portfolio
sum_left f flat g [] none = refl
sum_left f flat g (p ∷ portfolio) none =
    let more = signed_sum_by-cons f p portfolio in
    let rest = sum_left f flat g portfolio none.1 in
    ⊎_elim
    (λ (of : p.0.commodity ≡ g). rw (eq-eqb p.0.commodity g of) (omega (arith, ints, more, rest, flat p (none.0 of))))
    (λ (off : p.0.commodity ≢ g). rw (ne_eqb p.0.commodity g off) (omega (arith, ints, more, rest, signed_sum_by-cons f p (left g portfolio))))
    (cases_eq p.0.commodity g)

count_left : (f : Position → ℕ) → ((p : Position) → p.1 ≡ pos 0 → f p ≡ 0) → (g : ℕ) (portfolio : List Position) → HoldsNoneByRecursion portfolio g → sum_by f (left g portfolio) ≡ sum_by f portfolio
count_left f flat g [] none = refl
count_left f flat g (p ∷ portfolio) none =
    let more = sum_by-cons f p portfolio in
    let rest = count_left f flat g portfolio none.1 in
    ⊎_elim
    (λ (of : p.0.commodity ≡ g). rw (eq-eqb p.0.commodity g of) (omega (arith, more, rest, flat p (none.0 of))))
    (λ (off : p.0.commodity ≢ g). rw (ne_eqb p.0.commodity g off) (omega (arith, more, rest, sum_by-cons f p (left g portfolio))))
    (cases_eq p.0.commodity g)

totals_left : (h g : ℕ) (portfolio : List Position) → HoldsNoneByRecursion portfolio g → scenario_total h (left g portfolio) ≡ scenario_total h portfolio
totals_left h g portfolio none = fun_ext (λ s. sum_left (scenario_share h s) (share_flat h s) g portfolio none)

deltas_left : (g : ℕ) (portfolio : List Position) → HoldsNoneByRecursion portfolio g → month_delta (left g portfolio) ≡ month_delta portfolio
deltas_left g portfolio none = fun_ext (λ m. sum_left (month_share m) (month_share_flat m) g portfolio none)

-- what hangs on the month deltas

starts_left : (months : List Month) (h g : ℕ) (portfolio : List Position) → HoldsNoneByRecursion portfolio g → starts_of months (left g portfolio) h ≡ starts_of months portfolio h
starts_left months h g portfolio none = ap (λ (delta : ℕ → ℤ). starts_from months delta h) (deltas_left g portfolio none)

net_left : (months : List Month) (h g : ℕ) (portfolio : List Position) → HoldsNoneByRecursion portfolio g → net_delta months (left g portfolio) h ≡ net_delta months portfolio h
net_left months h g portfolio none =
    ap (λ (delta : ℕ → ℤ). signed_sum_below (λ m. if (month_at months m).commodity == h then delta m else pos 0) (length months)) (deltas_left g portfolio none)

-- spreads with a leg in a commodity without a rest do not form

no_leg_of : (g : ℕ) (legs : List Leg) → AllByRecursion (λ leg. leg.commodity ≢ g) legs → list_any (λ leg. leg.commodity == g) legs ≡ false
no_leg_of g [] apart = refl
no_leg_of g (leg ∷ legs) apart = rw (ne_eqb leg.commodity g apart.0) (no_leg_of g legs apart.1)

unformed : (rests : List ℤ) (g : ℕ) (legs : List Leg) → value_at rests g ≡ pos 0 → list_any (λ leg. leg.commodity == g) legs ≡ true → (b : Bool) → forms rests legs ≡ b → b ≡ false
unformed rests g legs none has true form =
    let other = no_leg_of g legs (others rests g legs none form) in
    sym has ∙ other
unformed rests g legs none has false form = refl

form_case : (deltas : List ℤ) (risks : List ℕ) (g : ℕ) (now : List ℤ × List ℕ) (s : CreditSpread) (spreads others : List CreditSpread) → HasNothing now g → (b : Bool) → list_any (λ leg. leg.commodity == g) (legs_of s) ≡ b → fold (formed deltas risks) now others ≡ fold (formed deltas risks) now spreads → fold (formed deltas risks) (formed deltas risks now s) others ≡ fold (formed deltas risks) (formed deltas risks now s) spreads → fold (formed deltas risks) now (if not b then s ∷ others else others) ≡ fold (formed deltas risks) (formed deltas risks now s) spreads
form_case deltas risks g now s spreads others has true e skipped taken =
    let stuck = unformed now.0 g (legs_of s) has.rest e (forms now.0 (legs_of s)) refl in
    let same : formed deltas risks now s ≡ now = rw stuck refl in
    skipped ∙ ap (λ (t : List ℤ × List ℕ). fold (formed deltas risks) t spreads) (sym same)
form_case deltas risks g now s spreads others has false e skipped taken = taken

form_left : (deltas : List ℤ) (risks : List ℕ) (g : ℕ) (now : List ℤ × List ℕ) (spreads : List CreditSpread) → HasNothing now g → fold (formed deltas risks) now (filter (λ s. not (list_any (λ leg. leg.commodity == g) (legs_of s))) spreads) ≡ fold (formed deltas risks) now spreads
form_left deltas risks g now [] has = refl
form_left deltas risks g now (s ∷ spreads) has =
    form_case deltas risks g now s spreads (filter (λ x. not (list_any (λ leg. leg.commodity == g) (legs_of x))) spreads) has (list_any (λ leg. leg.commodity == g) (legs_of s)) refl (form_left deltas risks g now spreads has) (form_left deltas risks g (formed deltas risks now s) spreads (nothing_more deltas risks now g s has))

-- each part of the calculation

flat_held : (portfolio : List Position) (g : ℕ) → HoldsNone portfolio g → HoldsNoneByRecursion portfolio g
flat_held portfolio g none = recursion_from_All (λ p. p.0.commodity ≡ g → p.1 ≡ pos 0) portfolio none

scan_left : (h g : ℕ) (portfolio : List Position) → HoldsNoneByRecursion portfolio g → scan_of (left g portfolio) h ≡ scan_of portfolio h
scan_left h g portfolio none = ap scan_risk (totals_left h g portfolio none)

price_left : (h g : ℕ) (portfolio : List Position) → HoldsNoneByRecursion portfolio g → price_risk2_of (left g portfolio) h ≡ price_risk2_of portfolio h
price_left h g portfolio none = ap (λ (t : ℕ → ℤ). unsigned_abs (price_risk2 t)) (totals_left h g portfolio none)

minimum_left : (set : Tables) (h g : ℕ) (portfolio : List Position) → HoldsNoneByRecursion portfolio g → minimum (without g set) (left g portfolio) h ≡ minimum set portfolio h
minimum_left set h g portfolio none =
    let charge = (commodity_at set.commodities h).short_option_charge in
    count_left (short_share_of h charge) (short_share_flat h charge) g portfolio none

value_left : (g : ℕ) (portfolio : List Position) → HoldsNoneByRecursion portfolio g → net_option_value (left g portfolio) ≡ net_option_value portfolio
value_left g portfolio none = sum_left value_share value_share_flat g portfolio none

intra_left : (set : Tables) (nets : List ℤ) (h g : ℕ) → IsWithinLimits set → HoldsNone (positions set.contracts nets) g → intra_charge (without g set) (left g (positions set.contracts nets)) h ≡ intra_charge set (positions set.contracts nets) h
unfolding intra_charge
intra_left set nets h g limits none =
    let portfolio : List Position = positions set.contracts nets in
    let starts = starts_left set.months h g portfolio (flat_held portfolio g none) in
    ⊎_elim
    (λ (own : h ≡ g).
    let empty : stages_of (others_of (λ (s : Spread). s.commodity) g set.spreads) h ≡ [] = ap (λ (k : ℕ). stages_of (others_of (λ (s : Spread). s.commodity) g set.spreads) k) own ∙ ap (flat_map stages_of_spread) (filter_own (λ (s : Spread). s.commodity) g set.spreads) in
    let nothing = ap (λ (k : ℕ). intra_charge set portfolio k) own ∙ intra_none set nets g limits none in
    ap (charges_of (starts_of set.months (left g portfolio) h)) empty ∙ sym nothing)
    (λ (other : h ≢ g).
    let same = ap (flat_map stages_of_spread) (filter_other (λ (s : Spread). s.commodity) g h other set.spreads) in
    ap (λ (row : List ℕ). charges_of row (stages_of (others_of (λ (s : Spread). s.commodity) g set.spreads) h)) starts ∙ ap (charges_of (starts_of set.months portfolio h)) same)
    (cases_eq h g)

spot_left : (set : Tables) (nets : List ℤ) (h g : ℕ) → IsWithinLimits set → HoldsNone (positions set.contracts nets) g → spot_charge (without g set) (left g (positions set.contracts nets)) h ≡ spot_charge set (positions set.contracts nets) h
unfolding spot_charge
spot_left set nets h g limits none =
    let portfolio : List Position = positions set.contracts nets in
    let fewer = others_of (λ (s : Spread). s.commodity) g set.spreads in
    let starts = starts_left set.months h g portfolio (flat_held portfolio g none) in
    ⊎_elim
    (λ (own : h ≡ g).
    let missing : spot_of (others_of (λ (s : SpotCharge). s.commodity) g set.spots) h ≡ None = ap (spot_of (others_of (λ (s : SpotCharge). s.commodity) g set.spots)) own ∙ find_own (λ (s : SpotCharge). s.commodity) g set.spots in
    let nothing = ap (λ (k : ℕ). spot_charge set portfolio k) own ∙ spot_none set nets g limits none in
    ap (spot_charge_from (starts_of set.months (left g portfolio) h) (left_by (starts_of set.months (left g portfolio) h) (stages_of fewer h))) missing ∙ sym nothing)
    (λ (other : h ≢ g).
    let stages = ap (flat_map stages_of_spread) (filter_other (λ (s : Spread). s.commodity) g h other set.spreads) in
    let spot = find_other (λ (s : SpotCharge). s.commodity) g h other set.spots in
    rw (starts, spot) (ap (λ (ss : List Stage). spot_charge_from (starts_of set.months portfolio h) (left_by (starts_of set.months portfolio h) ss) (spot_of set.spots h)) stages))
    (cases_eq h g)

credit_left : (set : Tables) (nets : List ℤ) (h g : ℕ) → IsWithinLimits set → HoldsNone (positions set.contracts nets) g → credit (without g set) (left g (positions set.contracts nets)) h ≡ credit set (positions set.contracts nets) h
unfolding credits
credit_left set nets h g limits none =
    let portfolio : List Position = positions set.contracts nets in
    let flat = flat_held portfolio g none in
    let deltas = ap (λ (f : ℕ → ℤ). map f (commodities_of set)) (fun_ext (λ k. net_left set.months k g portfolio flat)) in
    let risks = ap (λ (f : ℕ → ℕ). map f (commodities_of set)) (fun_ext (λ k. price_left k g portfolio flat)) in
    let start : HasNothing (deltas_in set portfolio, replicate (length (deltas_in set portfolio)) 0) g = record { rest = delta_none set nets g limits none; credit = no_credits (length (deltas_in set portfolio)) g } in
    let formed_same = form_left (deltas_in set portfolio) (risks_in set portfolio) g (deltas_in set portfolio, replicate (length (deltas_in set portfolio)) 0) set.credits start in
    rw (deltas, risks) (ap (λ (now : List ℤ × List ℕ). slice_index now.1 h) formed_same)

risk_left : (set : Tables) (nets : List ℤ) (h g : ℕ) → IsWithinLimits set → HoldsNone (positions set.contracts nets) g → risk (without g set) (left g (positions set.contracts nets)) h ≡ risk set (positions set.contracts nets) h
unfolding risk
risk_left set nets h g limits none =
    let portfolio : List Position = positions set.contracts nets in
    let flat = flat_held portfolio g none in
    rw (scan_left h g portfolio flat, intra_left set nets h g limits none, spot_left set nets h g limits none, credit_left set nets h g limits none, minimum_left set h g portfolio flat) refl

pub requirement_left : (set : Tables) (nets : List ℤ) (g : ℕ) → IsWithinLimits set → HoldsNone (positions set.contracts nets) g → requirement (without g set) (other_nets g set nets) ≡ requirement set nets
unfolding requirement
requirement_left set nets g limits none =
    let portfolio : List Position = positions set.contracts nets in
    let risks = signed_sum_below_same (risk (without g set) (left g portfolio)) (risk set portfolio) (length set.commodities) (λ h inside. risk_left set nets h g limits none) in
    let value = value_left g portfolio (flat_held portfolio g none) in
    rw (left_positions g set.contracts nets) (rw (risks, value) refl)
