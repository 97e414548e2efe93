-- Reading the legs of a spread between commodities one after another, for `credit_from` and `read_legs`.
use Rattle.std.proofs.Common.{◌≡◌, ℕ, ◌⊎◌, ◌+◌, ◌-◌, ◌<◌, ◌≤◌, List, [], ◌∷◌, ◌++◌, Some, None, length, take, drop, get_or, replicate, Result, Ok, Err, All, Bool, true, false, refl, ap, ◌∙◌, arith, length-append, inr, map, Bor}
use Rattle.std.specs.Prelude.{◌||◌, ◌==◌, if◌then◌else◌, IfOk, IfErr, Option}
use Rattle.std.specs.List.{IsDistinct, AllByRecursion, list_any}
use Rattle.std.proofs.Math.Seq.{take-append_seam}
use Rattle.std.proofs.lemmas.Bool.Decides.{nat_tests}
use Rattle.std.proofs.lemmas.List.{append-nil, length-replicate, take_all}
use Rattle.std.proofs.lemmas.List.Elements.{All-from_recursion, recursion_from_All}
use Rattle.mgn_setfile.specs.declared.fault.Cause.TheVariants.{Memory}
use Rattle.mgn_setfile.specs.declared.place.Field.TheVariants as field
use Rattle.mgn_params.specs.declared.tables.Leg.{Leg}
use Rattle.mgn_setfile.specs.Fields.{◌>>=◌, Fields, Flaw, at, field_number, in_field}
use Rattle.mgn_params.specs.Limits.{IsLeg, IsSidedSpread}
use Rattle.mgn_setfile.specs.Records.{FoundLeg, IsFoundLeg, credit_from, credit_row, has_side_a, has_side_b, kept_legs, known_legs, leg_from, legs_from, padded, repeat_place}
use Rattle.mgn_params.specs.Tables.{Tables, is_side_a, is_side_b, no_leg}
use Rattle.mgn_setfile.proofs.RecordLemmas.{fronted, fronted-more}

-- three words that are a leg, and three that are none
pub legs_more : (t : Tables) (n : ℕ) (front : List FoundLeg) (a b c : List ℕ) (more : Fields) (leg : FoundLeg) → leg_from t n a b c ≡ Ok leg → fronted front (legs_from t n (a ∷ b ∷ c ∷ more)) ≡ fronted (front ++ leg ∷ []) (legs_from t (n + 1) more)
legs_more t n front a b c more leg e = rw e (fronted-more front leg (legs_from t (n + 1) more))

pub legs_step : (t : Tables) (n k : ℕ) (front : List FoundLeg) (rest : List (Bor (List ℕ))) (d : Bor (List ℕ)) (leg : FoundLeg) → 3 ≤ length rest → k ≡ length rest - 3
    → leg_from t n (get_or rest 0 d).now (get_or rest 1 d).now (get_or rest 2 d).now ≡ Ok leg
    → fronted front (legs_from t n (map (λ s. s.now) rest)) ≡ fronted (front ++ leg ∷ []) (legs_from t (n + 1) (map (λ s. s.now) (take k (drop 3 rest))))
legs_step t n k front [] d leg h len e = absurd (omega arith)
legs_step t n k front (a ∷ []) d leg h len e = absurd (omega arith)
legs_step t n k front (a ∷ b ∷ []) d leg h len e = absurd (omega arith)
legs_step t n k front (a ∷ b ∷ c ∷ more) d leg h len e =
    let all : take k more ≡ more = take_all k more (omega arith) in
    rw all (legs_more t n front a.now b.now c.now (map (λ (s : Bor (List ℕ)). s.now) more) leg e)

pub legs_end : (t : Tables) (n : ℕ) (front : List FoundLeg) (rest : Fields) → length rest < 3 → fronted front (legs_from t n rest) ≡ Ok front
legs_end t n front [] h = ap Ok (append-nil front)
legs_end t n front (a ∷ []) h = ap Ok (append-nil front)
legs_end t n front (a ∷ b ∷ []) h = ap Ok (append-nil front)
legs_end t n front (a ∷ b ∷ c ∷ more) h = absurd (omega arith)

-- no commodity twice
or_false : (a b : Bool) → (a || b) ≡ false → (a ≡ false) × (b ≡ false)
or_false true b e = cc
or_false false b e = (refl, e)

some_place : (b : Bool) (n : ℕ) (p : Option ℕ) → (if b then Some n else p) ≡ None → (b ≡ false) × (p ≡ None)
some_place true n p e = cc
some_place false n p e = (refl, e)

any_append : (h : ℕ) (gs : List ℕ) (g : ℕ) → list_any (λ x. h == x) (gs ++ g ∷ []) ≡ false → (list_any (λ x. h == x) gs ≡ false) × ((h == g) ≡ false)
any_append h [] g e = (refl, (or_false (h == g) false e).0)
any_append h (x ∷ gs) g e =
    let parts = or_false (h == x) (list_any (λ y. h == y) (gs ++ g ∷ [])) e in
    let rest = any_append h gs g parts.1 in
    (rw (parts.0, rest.0) refl, rest.1)

differ_sym : (g h : ℕ) → (h == g) ≡ false → (g == h) ≡ false
differ_sym g h e = grind (arith, nat_tests)

fewer_before : (before : List ℕ) (g : ℕ) (gs : List ℕ) → AllByRecursion (λ h. list_any (λ x. h == x) (before ++ g ∷ []) ≡ false) gs → AllByRecursion (λ h. list_any (λ x. h == x) before ≡ false) gs
fewer_before before g [] all = tt
fewer_before before g (h ∷ gs) all = ((any_append h before g all.0).0, fewer_before before g gs all.1)

-- none of those after it came before
none_before : (before : List ℕ) (gs : List ℕ) → repeat_place before gs ≡ None → AllByRecursion (λ h. list_any (λ x. h == x) before ≡ false) gs
none_before before [] e = tt
none_before before (g ∷ gs) e =
    let here = some_place (list_any (λ h. g == h) before) (length before) (repeat_place (before ++ g ∷ []) gs) e in
    (here.0, fewer_before before g gs (none_before (before ++ g ∷ []) gs here.1))

last_before : (before : List ℕ) (g : ℕ) (gs : List ℕ) → AllByRecursion (λ h. list_any (λ x. h == x) (before ++ g ∷ []) ≡ false) gs → AllByRecursion (λ h. (g == h) ≡ false) gs
last_before before g [] all = tt
last_before before g (h ∷ gs) all = (differ_sym g h (any_append h before g all.0).1, last_before before g gs all.1)

pub all_differ : (before gs : List ℕ) → repeat_place before gs ≡ None → IsDistinct (λ g h. g == h) gs
unfolding IsDistinct
all_differ before [] e = tt
all_differ before (g ∷ gs) e =
    let here = some_place (list_any (λ h. g == h) before) (length before) (repeat_place (before ++ g ∷ []) gs) e in
    (last_before before g gs (none_before (before ++ g ∷ []) gs here.1), all_differ (before ++ g ∷ []) gs here.1)

-- looking for the first leg of a commodity that came before

-- what known legs are

split_rest : (leg : Leg) (k : Result (List Leg) Flaw) (legs : List Leg) → (k >>= λ rest. Ok (leg ∷ rest)) ≡ Ok legs → (rest : List Leg) × (k ≡ Ok rest) × (leg ∷ rest ≡ legs)
split_rest leg (Ok rest) legs e = (rest, refl, cc)
split_rest leg (Err c) legs e = cc

pub record IsSplit (n : ℕ) (leg : FoundLeg) (found : List FoundLeg) (legs : List Leg) (g : ℕ) (rest : List Leg) : Type 0 where
  pub place : leg.0 ≡ Some g
  pub rest_known : known_legs (n + 1) found ≡ Ok rest
  pub first : record { commodity = g; side = leg.1; ratio = leg.2 } ∷ rest ≡ legs

known_split : (n : ℕ) (leg : FoundLeg) (found : List FoundLeg) (legs : List Leg) → known_legs n (leg ∷ found) ≡ Ok legs → (g : ℕ) × (rest : List Leg) × IsSplit n leg found legs g rest
unfolding in_field
known_split n (None, s, r) found legs e = cc
known_split n (Some g, s, r) found legs e =
    let k = split_rest (record { commodity = g; side = s; ratio = r }) (known_legs (n + 1) found) legs e in
    (g, k.0, record { place = refl; rest_known = k.1; first = k.2 })

pub known_length : (n : ℕ) (found : List FoundLeg) (legs : List Leg) → known_legs n found ≡ Ok legs → length legs ≡ length found
known_length n [] legs e = let none : [] ≡ legs = cc in rw (← none) refl
known_length n (leg ∷ found) legs e =
    let k = known_split n leg found legs e in
    rw (← k.2.first) (omega (arith, known_length (n + 1) found k.1 k.2.rest_known))

known_bounds : (n most : ℕ) (found : List FoundLeg) (legs : List Leg) → known_legs n found ≡ Ok legs → AllByRecursion (IsFoundLeg most) found → AllByRecursion (IsLeg most) legs
known_bounds n most [] legs e h = let none : [] ≡ legs = cc in rw (← none) tt
known_bounds n most (leg ∷ found) legs e h =
    let k = known_split n leg found legs e in
    let place = rw k.2.place at h.0.commodity in
    rw (← k.2.first) (record { commodity = place; ratio = h.0.ratio; small_ratio = h.0.small_ratio }, known_bounds (n + 1) most found k.1 k.2.rest_known h.1)

known_side_a : (n : ℕ) (found : List FoundLeg) (legs : List Leg) → known_legs n found ≡ Ok legs → list_any (λ (leg : Leg). is_side_a leg.side) legs ≡ has_side_a found
known_side_a n [] legs e = let none : [] ≡ legs = cc in rw (← none) refl
known_side_a n (leg ∷ found) legs e =
    let k = known_split n leg found legs e in
    rw (← k.2.first, known_side_a (n + 1) found k.1 k.2.rest_known) refl

known_side_b : (n : ℕ) (found : List FoundLeg) (legs : List Leg) → known_legs n found ≡ Ok legs → list_any (λ (leg : Leg). is_side_b leg.side) legs ≡ has_side_b found
known_side_b n [] legs e = let none : [] ≡ legs = cc in rw (← none) refl
known_side_b n (leg ∷ found) legs e =
    let k = known_split n leg found legs e in
    rw (← k.2.first, known_side_b (n + 1) found k.1 k.2.rest_known) refl

kept_split : (k : Result (List Leg) Flaw) (row : List Leg) → (k >>= λ known. Ok (padded known)) ≡ Ok row → (legs : List Leg) × (k ≡ Ok legs) × (padded legs ≡ row)
kept_split (Ok legs) row e = (legs, refl, cc)
kept_split (Err c) row e = cc

-- a spread of known legs on both sides

sided_from : (n rate : ℕ) (found : List FoundLeg) (legs row : List Leg) → known_legs 0 found ≡ Ok legs → padded legs ≡ row → All (IsFoundLeg n) found → has_side_a found ≡ true → has_side_b found ≡ true → 2 ≤ length found → length found ≤ 4 → rate ≤ 10000
    → IsSidedSpread n (record { rate = rate; count = length found; legs = row })
sided_from n rate found legs row e pad bounds a b some few small =
    let len = known_length 0 found legs e in
    let is : take (length found) row ≡ legs = rw (← pad, ← len) (take-append_seam legs (replicate (4 - length legs) no_leg)) in
    let all = All-from_recursion (IsLeg n) legs (known_bounds 0 n found legs e (recursion_from_All (IsFoundLeg n) found bounds)) in
    record {
      rate = small;
      some = some;
      few = few;
      row = rw (← pad) (omega (arith, length-append legs (replicate (4 - length legs) no_leg), length-replicate (4 - length legs) no_leg, len));
      legs = rw is all;
      side_a = rw is (known_side_a 0 found legs e ∙ a);
      side_b = rw is (known_side_b 0 found legs e ∙ b);
    }

pub sided_is : (n rate : ℕ) (found : List FoundLeg) (row : List Leg) → kept_legs found ≡ Ok row → All (IsFoundLeg n) found → has_side_a found ≡ true → has_side_b found ≡ true → 2 ≤ length found → length found ≤ 4 → rate ≤ 10000
    → IsSidedSpread n (record { rate = rate; count = length found; legs = row })
sided_is n rate found row e = let k = kept_split (known_legs 0 found) row e in sided_from n rate found k.0 row k.1 k.2

-- what a record of known legs on both sides adds

credit_from_parts : (t : Tables) (r : ℕ) (word : List ℕ) (words : Fields) (found : List FoundLeg) (legs row : List Leg) → in_field (field.CreditSpread 2) (field_number 0 10000 word) ≡ Ok r → legs_from t 0 words ≡ Ok found → has_side_a found ≡ true → has_side_b found ≡ true → known_legs 0 found ≡ Ok legs → padded legs ≡ row
    → credit_from t word words ≡ credit_row t (record { rate = r; count = length found; legs = row })
unfolding credit_from
credit_from_parts t r word words found legs row number all a b e pad =
    rw (number, all, a, b, e) (rw (← pad, ← known_length 0 found legs e) refl)

pub credit_is : (t : Tables) (r : ℕ) (word : List ℕ) (words : Fields) (found : List FoundLeg) (row : List Leg) → in_field (field.CreditSpread 2) (field_number 0 10000 word) ≡ Ok r → legs_from t 0 words ≡ Ok found → has_side_a found ≡ true → has_side_b found ≡ true → kept_legs found ≡ Ok row
    → credit_from t word words ≡ credit_row t (record { rate = r; count = length found; legs = row })
credit_is t r word words found row number all a b e =
    let k = kept_split (known_legs 0 found) row e in
    credit_from_parts t r word words found k.0 row number all a b k.1 k.2

-- an answer that is what a definition gives
pub ok_along : {X : Type 0} (r want : Result X Flaw) → want ≡ r → IfOk r (λ x. want ≡ Ok x)
ok_along (Ok x) want e = e
ok_along (Err c) want e = tt

pub err_along : {X : Type 0} (r want : Result X Flaw) → want ≡ r → IfErr r (λ c. (c.cause ≡ Memory) ⊎ (want ≡ Err c))
err_along (Ok x) want e = tt
err_along (Err c) want e = inr e
