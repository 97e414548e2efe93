-- The limits, kept by each push into a set.
use Rattle.std.proofs.Common.{◌≡◌, ◌≢◌, ℕ, ◌+◌, ◌<◌, ◌≤◌, ◌++◌, ◌∷◌, [], Bool, List, length, map, All, ap, ◌∙◌, ⊎_elim, arith, length-append, count_by, true, false, cond, refl, subst, get_or, Some, None}
use Rattle.std.specs.Prelude.{◌==◌, ◌&&◌, is_some, nat_lt, position}
use Rattle.std.specs.List.{IsDistinct, list_any, position_or_len}
use Rattle.std.specs.Str.{bytes_eq}
use Rattle.std.proofs.Math.ListN.{get_or-append}
use Rattle.std.proofs.lemmas.Bool.{cases_eq, eqb-true, ne_eqb}
use Rattle.std.proofs.lemmas.Cmp.{nat_list_eq_equiv}
use Rattle.std.proofs.lemmas.Grind.{common_steps}
use Rattle.std.proofs.lemmas.List.{map-append}
use Rattle.std.proofs.lemmas.List.Elements.{All-push}
use Rattle.std.proofs.lemmas.List.Sums.{fails_before_first, sum_by-le, sum_by_push}
use Rattle.std.proofs.lemmas.Bool.Decides.{nat_tests}
use Rattle.std.proofs.lemmas.Map.Keys.{IsDistinct-push}
use Rattle.mgn_params.specs.declared.tables.Class.{Class}
use Rattle.mgn_params.specs.declared.tables.Commodity.{Commodity}
use Rattle.mgn_params.specs.declared.tables.Contract.{Contract}
use Rattle.mgn_params.specs.declared.tables.CreditSpread.{CreditSpread}
use Rattle.mgn_params.specs.declared.tables.Leg.{Leg}
use Rattle.mgn_params.specs.declared.tables.Month.{Month}
use Rattle.mgn_params.specs.declared.tables.SpotCharge.{SpotCharge}
use Rattle.mgn_params.specs.declared.tables.Spread.{Spread}
use Rattle.mgn_params.specs.Limits.{IsClass, IsCommodity, IsContract, IsCreditSpread, IsLeg, IsMonth, IsNextClass, IsNextCommodity, IsNextContract, IsNextCreditSpread, IsNextMonth, IsNextSpot, IsNextSpread, IsSpotCharge, IsSpread, IsWithinLimits}
use Rattle.mgn_params.specs.Tables.{Tables, is_month, no_month}

-- one more row of a commodity that had room
count_push : {X : Type 0} (f : X → ℕ) → (most g : ℕ) (xs : List X) (x : X) → count_by (λ y. f y == f x) xs < most → count_by (λ y. f y == g) xs ≤ most → count_by (λ y. f y == g) (xs ++ x ∷ []) ≤ most
count_push {X} f most g xs x room few =
    ⊎_elim
    (λ (same : f x ≡ g). let moved = ap (λ (k : ℕ). count_by (λ (y : X). f y == k) xs) same in grind (arith, common_steps, sum_by_push, moved))
    (λ (other : f x ≢ g). grind (arith, common_steps, sum_by_push, ne_eqb (f x) g other))
    (cases_eq (f x) g)

past : (a b : ℕ) → is_some (cond (nat_lt a b) (Some a) None) ≡ false → b ≤ a
past a b none = grind (arith, nat_tests, none)

-- where no row passes a test, none is counted
none_counted : {X : Type 0} (p : X → Bool) (xs : List X) → is_some (position p xs) ≡ false → count_by p xs ≡ 0
none_counted p xs none =
    let all : All (λ x. cond (p x) 1 0 ≤ 0) xs = λ i d inside. rw (fails_before_first p xs i d (omega (arith, past (position_or_len p xs) (length xs) none))) (omega arith) in
    omega (arith, sum_by-le (λ x. cond (p x) 1 0) 0 xs all)

both : (a b : Bool) → (a && b) ≡ true → (a ≡ true) × (b ≡ true)
both true true e = (refl, refl)
both true false e = cc
both false b e = cc

-- a month more, of a number that its commodity did not have
month_push : (g number : ℕ) (ms : List Month) (m : Month) → is_some (position (is_month m.commodity m.number) ms) ≡ false → count_by (is_month g number) ms ≤ 1 → count_by (is_month g number) (ms ++ m ∷ []) ≤ 1
month_push g number ms m new once = by (is_month g number m) refl
  where
    by : (b : Bool) → is_month g number m ≡ b → count_by (is_month g number) (ms ++ m ∷ []) ≤ 1
    by true own =
        let parts = both (m.commodity == g) (m.number == number) own in
        let commodity : m.commodity ≡ g = eqb-true m.commodity g parts.0 in
        let of : m.number ≡ number = eqb-true m.number number parts.1 in
        let none : count_by (is_month g number) ms ≡ 0 = subst (λ (x : ℕ × ℕ). count_by (is_month x.0 x.1) ms ≡ 0) (λ i. (commodity i, of i)) (none_counted (is_month m.commodity m.number) ms new) in
        rw (sum_by_push (λ (x : Month). cond (is_month g number x) 1 0) ms m, own) (omega (arith, none))
    by false own = rw (sum_by_push (λ (x : Month). cond (is_month g number x) 1 0) ms m, own) (omega (arith, once))

length_push : {X : Type 0} (xs : List X) (x : X) → length (xs ++ x ∷ []) ≡ length xs + 1
length_push xs x = length-append xs (x ∷ [])

-- what holds of each row goes on to hold
weaker : {X : Type 0} (P Q : X → Type 0) → ((x : X) → P x → Q x) → (xs : List X) → All P xs → All Q xs
weaker P Q f xs all = λ i d h. f (get_or xs i d) (all i d h)

-- a name that no row has, as the last
names_push : {X : Type 0} (f : X → List ℕ) → (xs : List X) (x : X) → IsDistinct bytes_eq (map f xs) → list_any (bytes_eq (f x)) (map f xs) ≡ false → IsDistinct bytes_eq (map f (xs ++ x ∷ []))
names_push f xs x apart new = rw (map-append f xs (x ∷ [])) (IsDistinct-push nat_list_eq_equiv (map f xs) (f x) apart new)

-- rows that name a commodity, after one commodity more

month_more : (n : ℕ) (m : Month) → IsMonth n m → IsMonth (n + 1) m
month_more n m h = record { commodity = omega (arith, h.commodity); low = h.low; high = h.high; tier = h.tier }

contract_more : (n : ℕ) (ms : List Month) (c : Contract) → IsContract n ms c → IsContract (n + 1) ms c
contract_more n ms c h = record { commodity = omega (arith, h.commodity); month = h.month; own_month = h.own_month; delta = h.delta; option_value = h.option_value; array = h.array }

spread_more : (n : ℕ) (s : Spread) → IsSpread n s → IsSpread (n + 1) s
spread_more n s h = record {
  commodity = omega (arith, h.commodity);
  first_tier = h.first_tier;
  second_tier = h.second_tier;
  first_ratio = h.first_ratio;
  second_ratio = h.second_ratio;
  small_first_ratio = h.small_first_ratio;
  small_second_ratio = h.small_second_ratio;
  charge = h.charge;
}

leg_more : (n : ℕ) (l : Leg) → IsLeg n l → IsLeg (n + 1) l
leg_more n l h = record { commodity = omega (arith, h.commodity); ratio = h.ratio; small_ratio = h.small_ratio }

credit_more : (n : ℕ) (s : CreditSpread) → IsCreditSpread n s → IsCreditSpread (n + 1) s
credit_more n s h = record { rate = h.rate; some = h.some; few = h.few; legs = λ i d p. leg_more n _ (h.legs i d p); apart = h.apart; side_a = h.side_a; side_b = h.side_b }

spot_more : (n : ℕ) (s : SpotCharge) → IsSpotCharge n s → IsSpotCharge (n + 1) s
spot_more n s h = record { commodity = omega (arith, h.commodity); tier = h.tier; spread_rate = h.spread_rate; outright_rate = h.outright_rate }

-- a contract, after one month more
contract_later : (n : ℕ) (ms : List Month) (m : Month) (c : Contract) → IsContract n ms c → IsContract n (ms ++ m ∷ []) c
contract_later n ms m c h =
    let same = ap (λ (k : Month). k.commodity) (get_or-append ms (m ∷ []) no_month c.month h.month) in
    record {
      commodity = h.commodity;
      month = omega (arith, h.month, length-append ms (m ∷ []));
      own_month = same ∙ h.own_month;
      delta = h.delta;
      option_value = h.option_value;
      array = h.array;
    }

pub IsWithinLimits-commodity : (t : Tables) (c : Commodity) → IsWithinLimits t → IsNextCommodity t c → IsWithinLimits record t { commodities = t.commodities ++ c ∷ [] }
IsWithinLimits-commodity t c limits next = record {
  commodities = All-push (IsCommodity) t.commodities c limits.commodities next.limits;
  months = rw (length_push t.commodities c) (weaker (IsMonth (length t.commodities)) (IsMonth (length t.commodities + 1)) (month_more (length t.commodities)) t.months limits.months);
  contracts = rw (length_push t.commodities c) (weaker (IsContract (length t.commodities) t.months) (IsContract (length t.commodities + 1) t.months) (contract_more (length t.commodities) t.months) t.contracts limits.contracts);
  spreads = rw (length_push t.commodities c) (weaker (IsSpread (length t.commodities)) (IsSpread (length t.commodities + 1)) (spread_more (length t.commodities)) t.spreads limits.spreads);
  credits = rw (length_push t.commodities c) (weaker (IsCreditSpread (length t.commodities)) (IsCreditSpread (length t.commodities + 1)) (credit_more (length t.commodities)) t.credits limits.credits);
  classes = limits.classes;
  spots = rw (length_push t.commodities c) (weaker (IsSpotCharge (length t.commodities)) (IsSpotCharge (length t.commodities + 1)) (spot_more (length t.commodities)) t.spots limits.spots);
  few_commodities = omega (arith, next.few, length_push t.commodities c);
  few_months = limits.few_months;
  few_months_in_each = limits.few_months_in_each;
  months_once = limits.months_once;
  few_contracts = limits.few_contracts;
  few_contracts_in_each = limits.few_contracts_in_each;
  few_spreads = limits.few_spreads;
  few_spreads_in_each = limits.few_spreads_in_each;
  few_credits = limits.few_credits;
  few_classes = limits.few_classes;
  few_spots_in_each = limits.few_spots_in_each;
  commodity_names = names_push (λ (x : Commodity). x.name) t.commodities c limits.commodity_names next.new;
  contract_names = limits.contract_names;
  class_names = limits.class_names;
}

pub IsWithinLimits-month : (t : Tables) (m : Month) → IsWithinLimits t → IsNextMonth t m → IsWithinLimits record t { months = t.months ++ m ∷ [] }
IsWithinLimits-month t m limits next = record {
  commodities = limits.commodities;
  months = All-push (IsMonth (length t.commodities)) t.months m limits.months next.limits;
  contracts = weaker (IsContract (length t.commodities) t.months) (IsContract (length t.commodities) (t.months ++ m ∷ [])) (contract_later (length t.commodities) t.months m) t.contracts limits.contracts;
  spreads = limits.spreads;
  credits = limits.credits;
  classes = limits.classes;
  spots = limits.spots;
  few_commodities = limits.few_commodities;
  few_months = omega (arith, next.few, length_push t.months m);
  few_months_in_each = λ g. count_push (λ (x : Month). x.commodity) 64 g t.months m next.few_in_commodity (limits.few_months_in_each g);
  months_once = λ g number. month_push g number t.months m next.new (limits.months_once g number);
  few_contracts = limits.few_contracts;
  few_contracts_in_each = limits.few_contracts_in_each;
  few_spreads = limits.few_spreads;
  few_spreads_in_each = limits.few_spreads_in_each;
  few_credits = limits.few_credits;
  few_classes = limits.few_classes;
  few_spots_in_each = limits.few_spots_in_each;
  commodity_names = limits.commodity_names;
  contract_names = limits.contract_names;
  class_names = limits.class_names;
}

pub IsWithinLimits-contract : (t : Tables) (c : Contract) → IsWithinLimits t → IsNextContract t c → IsWithinLimits record t { contracts = t.contracts ++ c ∷ [] }
IsWithinLimits-contract t c limits next = record {
  commodities = limits.commodities;
  months = limits.months;
  contracts = All-push (IsContract (length t.commodities) t.months) t.contracts c limits.contracts next.limits;
  spreads = limits.spreads;
  credits = limits.credits;
  classes = limits.classes;
  spots = limits.spots;
  few_commodities = limits.few_commodities;
  few_months = limits.few_months;
  few_months_in_each = limits.few_months_in_each;
  months_once = limits.months_once;
  few_contracts = omega (arith, next.few, length_push t.contracts c);
  few_contracts_in_each = λ g. count_push (λ (x : Contract). x.commodity) 256 g t.contracts c next.few_in_commodity (limits.few_contracts_in_each g);
  few_spreads = limits.few_spreads;
  few_spreads_in_each = limits.few_spreads_in_each;
  few_credits = limits.few_credits;
  few_classes = limits.few_classes;
  few_spots_in_each = limits.few_spots_in_each;
  commodity_names = limits.commodity_names;
  contract_names = names_push (λ (x : Contract). x.name) t.contracts c limits.contract_names next.new;
  class_names = limits.class_names;
}

pub IsWithinLimits-spread : (t : Tables) (s : Spread) → IsWithinLimits t → IsNextSpread t s → IsWithinLimits record t { spreads = t.spreads ++ s ∷ [] }
IsWithinLimits-spread t s limits next = record {
  commodities = limits.commodities;
  months = limits.months;
  contracts = limits.contracts;
  spreads = All-push (IsSpread (length t.commodities)) t.spreads s limits.spreads next.limits;
  credits = limits.credits;
  classes = limits.classes;
  spots = limits.spots;
  few_commodities = limits.few_commodities;
  few_months = limits.few_months;
  few_months_in_each = limits.few_months_in_each;
  months_once = limits.months_once;
  few_contracts = limits.few_contracts;
  few_contracts_in_each = limits.few_contracts_in_each;
  few_spreads = omega (arith, next.few, length_push t.spreads s);
  few_spreads_in_each = λ g. count_push (λ (x : Spread). x.commodity) 32 g t.spreads s next.few_in_commodity (limits.few_spreads_in_each g);
  few_credits = limits.few_credits;
  few_classes = limits.few_classes;
  few_spots_in_each = limits.few_spots_in_each;
  commodity_names = limits.commodity_names;
  contract_names = limits.contract_names;
  class_names = limits.class_names;
}

pub IsWithinLimits-credit : (t : Tables) (s : CreditSpread) → IsWithinLimits t → IsNextCreditSpread t s → IsWithinLimits record t { credits = t.credits ++ s ∷ [] }
IsWithinLimits-credit t s limits next = record {
  commodities = limits.commodities;
  months = limits.months;
  contracts = limits.contracts;
  spreads = limits.spreads;
  credits = All-push (IsCreditSpread (length t.commodities)) t.credits s limits.credits next.limits;
  classes = limits.classes;
  spots = limits.spots;
  few_commodities = limits.few_commodities;
  few_months = limits.few_months;
  few_months_in_each = limits.few_months_in_each;
  months_once = limits.months_once;
  few_contracts = limits.few_contracts;
  few_contracts_in_each = limits.few_contracts_in_each;
  few_spreads = limits.few_spreads;
  few_spreads_in_each = limits.few_spreads_in_each;
  few_credits = omega (arith, next.few, length_push t.credits s);
  few_classes = limits.few_classes;
  few_spots_in_each = limits.few_spots_in_each;
  commodity_names = limits.commodity_names;
  contract_names = limits.contract_names;
  class_names = limits.class_names;
}

pub IsWithinLimits-class : (t : Tables) (c : Class) → IsWithinLimits t → IsNextClass t c → IsWithinLimits record t { classes = t.classes ++ c ∷ [] }
IsWithinLimits-class t c limits next = record {
  commodities = limits.commodities;
  months = limits.months;
  contracts = limits.contracts;
  spreads = limits.spreads;
  credits = limits.credits;
  classes = All-push (IsClass) t.classes c limits.classes next.limits;
  spots = limits.spots;
  few_commodities = limits.few_commodities;
  few_months = limits.few_months;
  few_months_in_each = limits.few_months_in_each;
  months_once = limits.months_once;
  few_contracts = limits.few_contracts;
  few_contracts_in_each = limits.few_contracts_in_each;
  few_spreads = limits.few_spreads;
  few_spreads_in_each = limits.few_spreads_in_each;
  few_credits = limits.few_credits;
  few_classes = omega (arith, next.few, length_push t.classes c);
  few_spots_in_each = limits.few_spots_in_each;
  commodity_names = limits.commodity_names;
  contract_names = limits.contract_names;
  class_names = names_push (λ (x : Class). x.name) t.classes c limits.class_names next.new;
}

pub IsWithinLimits-spot : (t : Tables) (s : SpotCharge) → IsWithinLimits t → IsNextSpot t s → IsWithinLimits record t { spots = t.spots ++ s ∷ [] }
IsWithinLimits-spot t s limits next = record {
  commodities = limits.commodities;
  months = limits.months;
  contracts = limits.contracts;
  spreads = limits.spreads;
  credits = limits.credits;
  classes = limits.classes;
  spots = All-push (IsSpotCharge (length t.commodities)) t.spots s limits.spots next.limits;
  few_commodities = limits.few_commodities;
  few_months = limits.few_months;
  few_months_in_each = limits.few_months_in_each;
  months_once = limits.months_once;
  few_contracts = limits.few_contracts;
  few_contracts_in_each = limits.few_contracts_in_each;
  few_spreads = limits.few_spreads;
  few_spreads_in_each = limits.few_spreads_in_each;
  few_credits = limits.few_credits;
  few_classes = limits.few_classes;
  few_spots_in_each = λ g. count_push (λ (x : SpotCharge). x.commodity) 1 g t.spots s next.few_in_commodity (limits.few_spots_in_each g);
  commodity_names = limits.commodity_names;
  contract_names = limits.contract_names;
  class_names = limits.class_names;
}
