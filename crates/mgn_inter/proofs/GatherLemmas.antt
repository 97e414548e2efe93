-- A spread that is formed of what is gathered of its legs, as of the rows of all commodities: for `form_spread`.
use Rattle.std.proofs.Common.{◌≡◌, ◌≢◌, ◌∙◌, ℕ, zero, suc, ◌<◌, ◌≤◌, List, [], ◌∷◌, All, length, length-set, length-take, take, min, get_or, get_or-set_same, get_or-set_other, slice_index, slice_set, ℤ, pos, ap, sym, subst, arith, false, refl, ne_eqb}
use Rattle.std.specs.Prelude.{◌==◌}
use Rattle.std.specs.List.{fold}
use Rattle.std.proofs.lemmas.List.{get_or-take, get_or_default}
use Rattle.std.proofs.lemmas.List.Elements.{All-head, All-tail}
use Rattle.std.proofs.lemmas.List.Folds.{list_any_none}
use Rattle.mgn_num.specs.Amount.{nearer_zero}
use Rattle.mgn_params.specs.declared.tables.CreditSpread.{CreditSpread}
use Rattle.mgn_params.specs.declared.tables.Leg.{Leg}
use Rattle.mgn_params.specs.Naming.{names}
use Rattle.mgn_params.specs.Tables.{legs_of, no_leg}
use Rattle.mgn_span.specs.Credits.{leg_amount, leg_credit, rests_after, spread_amount}
use Rattle.mgn_span.specs.Scan.{value_at}
use Rattle.mgn_span.specs.Stages.{used}
use Rattle.mgn_span.specs.Words.{IsCreditable, leg_at}
use Rattle.mgn_inter.specs.declared.gathered.Gathered.{Gathered}
use Rattle.mgn_inter.specs.Gathered.{IsGathered}
use Rattle.mgn_inter.specs.Rows.{AreRestsOf}
use Rattle.mgn_inter.proofs.LegLemmas.{rests_after_out}

-- Legs of different commodities: each takes its use off its own rest alone.

abbrev pub AreApart : List Leg → Type 0
AreApart legs = (i k : ℕ) → i < k → k < length legs → (leg_at legs i).commodity ≢ (leg_at legs k).commodity

named_by_none : (legs : List Leg) (c : ℕ) → ((k : ℕ) → k < length legs → (leg_at legs k).commodity ≢ c) → names c legs ≡ false
named_by_none legs c other =
    list_any_none (λ (leg : Leg). leg.commodity == c) legs (λ k d low.
    let same : get_or legs k d ≡ leg_at legs k = get_or_default legs k d no_leg low in
    ne_eqb (get_or legs k d).commodity c (λ e. other k low (ap (λ (leg : Leg). leg.commodity) (sym same) ∙ e)))

rests_after_at : (rests : List ℤ) (amount : ℕ) (legs : List Leg) (j : ℕ) → AreApart legs → All (λ leg. leg.commodity < length rests) legs → j < length legs → let leg = leg_at legs j in value_at (rests_after rests amount legs) leg.commodity ≡ nearer_zero (value_at rests leg.commodity) (used amount leg.ratio)
rests_after_at rests amount [] j apart there low = absurd (omega arith)
rests_after_at rests amount (leg ∷ legs) zero apart there low =
    let c = leg.commodity in
    let x = nearer_zero (value_at rests c) (used amount leg.ratio) in
    rests_after_out (slice_set rests c x) amount legs c (named_by_none legs c (λ k h same. apart 0 (suc k) (omega arith) (omega (arith, h)) (sym same)))
    ∙ get_or-set_same rests c x (pos 0) (All-head (λ (l : Leg). l.commodity < length rests) leg legs there)
rests_after_at rests amount (leg ∷ legs) (suc j) apart there low =
    let c = leg.commodity in
    let x = nearer_zero (value_at rests c) (used amount leg.ratio) in
    let own = leg_at legs j in
    let tail = All-tail (λ (l : Leg). l.commodity < length rests) leg legs there in
    rests_after_at (slice_set rests c x) amount legs j (λ i k h inside. apart (suc i) (suc k) (omega (arith, h)) (omega (arith, inside))) (λ k d inside. omega (arith, tail k d inside, length-set rests c x)) (omega arith)
    ∙ ap (λ (z : ℤ). nearer_zero z (used amount own.ratio)) (get_or-set_other rests c own.commodity x (pos 0) (λ e. apart 0 (suc j) (omega arith) low (sym e)))

-- Legs that amount to the same one by one do so together.

least_alike : (a b : List ℤ) (least : ℕ) (own legs : List Leg) → length own ≡ length legs → ((j : ℕ) → j < length legs → leg_amount a (leg_at own j) ≡ leg_amount b (leg_at legs j)) → fold (λ n other. min n (leg_amount a other)) least own ≡ fold (λ n other. min n (leg_amount b other)) least legs
least_alike a b least [] [] long alike = refl
least_alike a b least [] (leg ∷ legs) long alike = absurd (omega (arith, long))
least_alike a b least (mine ∷ own) [] long alike = absurd (omega (arith, long))
least_alike a b least (mine ∷ own) (leg ∷ legs) long alike =
    ap (λ (n : ℕ). fold (λ n other. min n (leg_amount a other)) (min least n) own) (alike 0 (omega arith))
    ∙ least_alike a b (min least (leg_amount b leg)) own legs (omega (arith, long)) (λ j h. alike (suc j) (omega (arith, h)))

amount_alike : (a b : List ℤ) (own legs : List Leg) → length own ≡ length legs → ((j : ℕ) → j < length legs → leg_amount a (leg_at own j) ≡ leg_amount b (leg_at legs j)) → spread_amount a own ≡ spread_amount b legs
amount_alike a b [] [] long alike = refl
amount_alike a b [] (leg ∷ legs) long alike = absurd (omega (arith, long))
amount_alike a b (mine ∷ own) [] long alike = absurd (omega (arith, long))
amount_alike a b (mine ∷ own) (leg ∷ legs) long alike =
    ap (λ (n : ℕ). fold (λ n other. min n (leg_amount a other)) n own) (alike 0 (omega arith))
    ∙ least_alike a b (leg_amount b leg) own legs (omega (arith, long)) (λ j h. alike (suc j) (omega (arith, h)))

-- What is gathered of a leg.

abbrev pub own_legs : CreditSpread → Gathered → List Leg
own_legs s g = take s.count g.legs

low_place : (s : CreditSpread) (j : ℕ) → j < length (legs_of s) → j < s.count
low_place s j low = omega (arith, low, length-take s.count s.legs)

pub own_long : (deltas : List ℤ) (risks : List ℕ) (s : CreditSpread) (g : Gathered) → IsGathered deltas risks s g → length (own_legs s g) ≡ length (legs_of s)
own_long deltas risks s g are =
    length-take s.count g.legs ∙ ap (λ (n : ℕ). min s.count n) are.legs_long ∙ sym (length-take s.count s.legs)

own_at : (s : CreditSpread) (g : Gathered) (j : ℕ) → j < length (legs_of s) → leg_at (own_legs s g) j ≡ leg_at g.legs j
own_at s g j low = get_or-take s.count g.legs j no_leg (low_place s j low)

pub own_place : (deltas : List ℤ) (risks : List ℕ) (s : CreditSpread) (g : Gathered) (j : ℕ) → IsGathered deltas risks s g → j < length (legs_of s) → (leg_at (own_legs s g) j).commodity ≡ j
own_place deltas risks s g j are low = ap (λ (leg : Leg). leg.commodity) (own_at s g j low) ∙ are.places j low

pub own_ratio : (deltas : List ℤ) (risks : List ℕ) (s : CreditSpread) (g : Gathered) (j : ℕ) → IsGathered deltas risks s g → j < length (legs_of s) → (leg_at (own_legs s g) j).ratio ≡ (leg_at (legs_of s) j).ratio
own_ratio deltas risks s g j are low = ap (λ (leg : Leg). leg.ratio) (own_at s g j low) ∙ are.ratios j low

-- what holds of the legs by their places
pub own_all : (P : Leg → Type 0) (deltas : List ℤ) (risks : List ℕ) (s : CreditSpread) (g : Gathered) → IsGathered deltas risks s g → ((j : ℕ) → j < length (legs_of s) → P (leg_at (own_legs s g) j)) → All P (own_legs s g)
own_all P deltas risks s g are each k d inside =
    let low : k < length (legs_of s) = omega (arith, inside, own_long deltas risks s g are) in
    subst P (sym (get_or_default (own_legs s g) k d no_leg inside)) (each k low)

own_apart : (deltas : List ℤ) (risks : List ℕ) (s : CreditSpread) (g : Gathered) → IsGathered deltas risks s g → AreApart (own_legs s g)
own_apart deltas risks s g are i k before inside same =
    let low : k < length (legs_of s) = omega (arith, inside, own_long deltas risks s g are) in
    let first = own_place deltas risks s g i are (omega (arith, before, low)) in
    let second = own_place deltas risks s g k are low in
    omega (arith, before, first, second, same)

-- How much forms of the legs' rests, what is left of them, and what a leg is credited.

pub own_amount : (deltas : List ℤ) (risks : List ℕ) (s : CreditSpread) (g : Gathered) (all row : List ℤ) → IsGathered deltas risks s g → AreRestsOf (legs_of s) all row → spread_amount row (own_legs s g) ≡ spread_amount all (legs_of s)
own_amount deltas risks s g all row are rests =
    amount_alike row all (own_legs s g) (legs_of s) (own_long deltas risks s g are) (λ j low.
    let is = ap (λ (p : ℕ). value_at row p) (own_place deltas risks s g j are low) ∙ rests.are j low in
    amount_as row all (leg_at (own_legs s g) j) (leg_at (legs_of s) j) is (own_ratio deltas risks s g j are low))
  where
    amount_as : (a b : List ℤ) (mine leg : Leg) → value_at a mine.commodity ≡ value_at b leg.commodity → mine.ratio ≡ leg.ratio → leg_amount a mine ≡ leg_amount b leg
    amount_as a b mine leg rest ratio = rw (rest, ratio) refl

pub own_after : (deltas : List ℤ) (risks : List ℕ) (s : CreditSpread) (g : Gathered) (all row : List ℤ) (amount j : ℕ) → IsGathered deltas risks s g → AreRestsOf (legs_of s) all row → length (legs_of s) ≤ 4 → AreApart (legs_of s) → All (λ leg. leg.commodity < length all) (legs_of s) → j < length (legs_of s) → value_at (rests_after row amount (own_legs s g)) j ≡ value_at (rests_after all amount (legs_of s)) (leg_at (legs_of s) j).commodity
own_after deltas risks s g all row amount j are rests few apart there low =
    let own = own_legs s g in
    let mine = leg_at own j in
    let leg = leg_at (legs_of s) j in
    let place = own_place deltas risks s g j are low in
    let mine_low : j < length own = omega (arith, low, own_long deltas risks s g are) in
    let mine_there : All (λ l. l.commodity < length row) own = own_all (λ (l : Leg). l.commodity < length row) deltas risks s g are (λ k h. omega (arith, own_place deltas risks s g k are h, h, few, rests.long)) in
    ap (λ (p : ℕ). value_at (rests_after row amount own) p) (sym place)
    ∙ rests_after_at row amount own j (own_apart deltas risks s g are) mine_there mine_low
    ∙ ap (λ (p : ℕ). nearer_zero (value_at row p) (used amount mine.ratio)) place
    ∙ ap (λ (z : ℤ). nearer_zero z (used amount mine.ratio)) (rests.are j low)
    ∙ ap (λ (n : ℕ). nearer_zero (value_at all leg.commodity) (used amount n)) (own_ratio deltas risks s g j are low)
    ∙ sym (rests_after_at all amount (legs_of s) j apart there low)

own_delta : (deltas : List ℤ) (risks : List ℕ) (s : CreditSpread) (g : Gathered) (j : ℕ) → IsGathered deltas risks s g → j < length (legs_of s) → value_at g.deltas (leg_at (own_legs s g) j).commodity ≡ value_at deltas (leg_at (legs_of s) j).commodity
own_delta deltas risks s g j are low =
    ap (λ (p : ℕ). value_at g.deltas p) (own_place deltas risks s g j are low) ∙ are.deltas_are j low

own_risk : (deltas : List ℤ) (risks : List ℕ) (s : CreditSpread) (g : Gathered) (j : ℕ) → IsGathered deltas risks s g → j < length (legs_of s) → slice_index g.risks (leg_at (own_legs s g) j).commodity ≡ slice_index risks (leg_at (legs_of s) j).commodity
own_risk deltas risks s g j are low =
    ap (λ (p : ℕ). slice_index g.risks p) (own_place deltas risks s g j are low) ∙ are.risks_are j low

pub own_credit : (deltas : List ℤ) (risks : List ℕ) (s : CreditSpread) (g : Gathered) (rate amount j : ℕ) → IsGathered deltas risks s g → j < length (legs_of s) → leg_credit g.deltas g.risks rate amount (leg_at (own_legs s g) j) ≡ leg_credit deltas risks rate amount (leg_at (legs_of s) j)
own_credit deltas risks s g rate amount j are low =
    rw (own_ratio deltas risks s g j are low, own_delta deltas risks s g j are low, own_risk deltas risks s g j are low) refl

pub own_creditable : (deltas : List ℤ) (risks : List ℕ) (s : CreditSpread) (g : Gathered) (amount : ℕ) → IsGathered deltas risks s g → length (legs_of s) ≤ 4 → All (IsCreditable deltas risks amount) (legs_of s) → All (IsCreditable g.deltas g.risks amount) (own_legs s g)
own_creditable deltas risks s g amount are few all =
    own_all (IsCreditable g.deltas g.risks amount) deltas risks s g are (λ j low.
    let is = all j no_leg low in
    let place = own_place deltas risks s g j are low in
    let ratio = own_ratio deltas risks s g j are low in
    let delta = own_delta deltas risks s g j are low in
    record {
      there = omega (arith, place, low, few, are.deltas_long);
      risk_there = omega (arith, place, low, few, are.risks_long);
      some = rw delta is.some;
      small = rw delta is.small;
      risk = rw (own_risk deltas risks s g j are low) is.risk;
      product = rw ratio is.product;
      use_small = rw (ratio, delta) is.use_small;
    })
