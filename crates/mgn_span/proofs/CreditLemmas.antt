-- The legs of one spread between commodities, what they use and are credited: for both ways of forming spreads.
use Rattle.std.proofs.Common.{◌≡◌, ℕ, ◌+◌, ◌*◌, ◌/◌, ◌<◌, ◌≤◌, ◌^◌, Bool, true, false, List, [], ◌∷◌, length, get_or, slice_index, slice_set, min, pos, negsuc, ℤ, unsigned_abs, ◌∙◌, arith, refl, All, length-set}
use Rattle.std.specs.List.{AllByRecursion, fold, list_all}
use Rattle.std.specs.Prelude.{◌||◌}
use Rattle.std.proofs.lemmas.Grind.{common_steps}
use Rattle.std.proofs.lemmas.Int.{ints}
use Rattle.std.proofs.lemmas.List.Elements.{All-from_recursion, All-head, All-nil, All-tail}
use Rattle.std.proofs.lemmas.List.Sums.{AllPass-from_list_all}
use Rattle.std.proofs.lemmas.Nat.{div_below}
use Rattle.std.proofs.Math.Nat.{mul-le-mul, mul-le-mul_left, mul-le-mul_right}
use Rattle.mgn_num.specs.Amount.{nearer_zero}
use Rattle.mgn_params.specs.declared.tables.CreditSpread.{CreditSpread}
use Rattle.mgn_params.specs.declared.tables.Leg.{Leg}
use Rattle.mgn_params.specs.Limits.{IsCreditSpread}
use Rattle.mgn_params.specs.Tables.{legs_of}
use Rattle.mgn_span.specs.Credits.{credits_after, fits, forms, leg_amount, leg_credit, rests_after, spread_amount}
use Rattle.mgn_span.specs.Scan.{value_at}
use Rattle.mgn_span.specs.Stages.{used}
use Rattle.mgn_span.specs.Words.{AreNear, AreNumbers, IsCreditable}
use Rattle.mgn_span.proofs.StageLemmas.{used_le_left}

-- legs keep the length of a row
pub length-rests_after : (rests : List ℤ) (amount : ℕ) (legs : List Leg) → length (rests_after rests amount legs) ≡ length rests
length-rests_after rests amount [] = refl
length-rests_after rests amount (leg ∷ legs) =
    length-rests_after (slice_set rests leg.commodity (nearer_zero (value_at rests leg.commodity) (used amount leg.ratio))) amount legs ∙ simp length-set

pub length-credits_after : (deltas : List ℤ) (risks : List ℕ) (rate amount : ℕ) (credits : List ℕ) (legs : List Leg) → length (credits_after deltas risks rate amount credits legs) ≡ length credits
length-credits_after deltas risks rate amount credits [] = refl
length-credits_after deltas risks rate amount credits (leg ∷ legs) =
    length-credits_after deltas risks rate amount (slice_set credits leg.commodity (slice_index credits leg.commodity + leg_credit deltas risks rate amount leg)) legs ∙ simp length-set

-- no use leads away from 0
nearer_zero_size : (z : ℤ) (n : ℕ) → unsigned_abs (nearer_zero z n) ≤ unsigned_abs z
nearer_zero_size (pos m) n = omega (arith, ints)
nearer_zero_size (negsuc m) n = omega (arith, ints)

pub rests_after_near : (rests : List ℤ) (amount : ℕ) (legs : List Leg) (g : ℕ) → unsigned_abs (value_at (rests_after rests amount legs) g) ≤ unsigned_abs (value_at rests g)
rests_after_near rests amount [] g = omega arith
rests_after_near rests amount (leg ∷ legs) g =
    let d = nearer_zero (value_at rests leg.commodity) (used amount leg.ratio) in
    let rest = rests_after_near (slice_set rests leg.commodity d) amount legs g in
    let own : unsigned_abs (value_at (slice_set rests leg.commodity d) g) ≤ unsigned_abs (value_at rests g) =
    grind (arith, common_steps, nearer_zero_size (value_at rests leg.commodity) (used amount leg.ratio)) in
    omega (arith, rest, own)

-- what legs credit
pub credits_after_small : (deltas : List ℤ) (risks : List ℕ) (rate amount : ℕ) (credits : List ℕ) (legs : List Leg) (most g : ℕ) → All (λ leg. leg_credit deltas risks rate amount leg ≤ most) legs → slice_index (credits_after deltas risks rate amount credits legs) g ≤ slice_index credits g + length legs * most
credits_after_small deltas risks rate amount credits [] most g small = omega arith
credits_after_small deltas risks rate amount credits (leg ∷ legs) most g small =
    let credit = leg_credit deltas risks rate amount leg in
    let n = slice_index credits leg.commodity + credit in
    let rest = credits_after_small deltas risks rate amount (slice_set credits leg.commodity n) legs most g (All-tail (λ (l : Leg). leg_credit deltas risks rate amount l ≤ most) leg legs small) in
    let head : credit ≤ most = All-head (λ (l : Leg). leg_credit deltas risks rate amount l ≤ most) leg legs small in
    let own : slice_index (slice_set credits leg.commodity n) g ≤ slice_index credits g + credit = grind (arith, common_steps) in
    omega (arith, rest, head, own)

-- the amount of a spread is at most that of each leg alone
least_le : (rests : List ℤ) (least : ℕ) (legs : List Leg) → fold (λ n other. min n (leg_amount rests other)) least legs ≤ least
least_le rests least [] = omega arith
least_le rests least (leg ∷ legs) = omega (arith, least_le rests (min least (leg_amount rests leg)) legs)

least_each : (rests : List ℤ) (most least : ℕ) (legs : List Leg) → most ≤ fold (λ n other. min n (leg_amount rests other)) least legs → AllByRecursion (λ leg. most ≤ leg_amount rests leg) legs
least_each rests most least [] h = tt
least_each rests most least (leg ∷ legs) h =
    (omega (arith, h, least_le rests (min least (leg_amount rests leg)) legs), least_each rests most (min least (leg_amount rests leg)) legs h)

pub spread_amount_least : (rests : List ℤ) (legs : List Leg) → All (λ leg. spread_amount rests legs ≤ leg_amount rests leg) legs
spread_amount_least rests [] = All-nil (λ (leg : Leg). 0 ≤ leg_amount rests leg)
spread_amount_least rests (leg ∷ legs) =
    let least = spread_amount rests (leg ∷ legs) in
    All-from_recursion (λ (l : Leg). least ≤ leg_amount rests l) (leg ∷ legs) (least_le rests (leg_amount rests leg) legs, least_each rests least (leg_amount rests leg) legs (omega arith))

-- a leg that fits has a rest other than 0
fits_some : (a_long : Bool) (rests : List ℤ) (leg : Leg) → fits a_long rests leg ≡ true → 0 < unsigned_abs (value_at rests leg.commodity)
fits_some a_long rests leg h = grind (arith, ints)

pub all_fit_some : (a_long : Bool) (rests : List ℤ) (legs : List Leg) → list_all (fits a_long rests) legs ≡ true → All (λ leg. 0 < unsigned_abs (value_at rests leg.commodity)) legs
all_fit_some a_long rests legs h k d inside =
    fits_some a_long rests (get_or legs k d) (AllPass-from_list_all (fits a_long rests) legs h k d inside)

either_true : (a b : Bool) (P : Type 0) → (a || b) ≡ true → (a ≡ true → P) → (b ≡ true → P) → P
either_true true b P h left right = left refl
either_true false b P h left right = right h

pub forms_some : (rests : List ℤ) (legs : List Leg) → forms rests legs ≡ true → All (λ leg. 0 < unsigned_abs (value_at rests leg.commodity)) legs
forms_some rests legs h =
    either_true (list_all (fits true rests) legs) (list_all (fits false rests) legs) (All (λ leg. 0 < unsigned_abs (value_at rests leg.commodity)) legs) h (all_fit_some true rests legs) (all_fit_some false rests legs)

-- the legs of a spread that forms may be credited
amount_product : (amount rest ratio : ℕ) → 0 < ratio → rest ≤ 256 * 10 ^ 12 → amount ≤ 10000 * rest / ratio → amount * ratio ≤ 256 * 10 ^ 16
amount_product amount rest ratio h small k = let more = mul-le-mul_right ratio k in omega arith

pub legs_creditable : (deltas rests : List ℤ) (risks : List ℕ) (n : ℕ) (s : CreditSpread) → AreNumbers deltas risks → AreNear deltas rests (legs_of s) → n ≡ length deltas → IsCreditSpread n s → forms rests (legs_of s) ≡ true → All (IsCreditable deltas risks (spread_amount rests (legs_of s))) (legs_of s)
legs_creditable deltas rests risks n s numbers are count limits h k d inside =
    let legs = legs_of s in
    let leg : Leg = get_or legs k d in
    let amount = spread_amount rests legs in
    let limit = limits.legs k d inside in
    let here : leg.commodity < length deltas = omega (arith, limit.commodity, count) in
    let near = are k d inside in
    let some = forms_some rests legs h k d inside in
    let small = numbers.small_deltas leg.commodity (pos 0) here in
    let least = spread_amount_least rests legs k d inside in
    let left = used_le_left amount (unsigned_abs (value_at rests leg.commodity)) leg.ratio limit.ratio least in
    record {
      there = here;
      risk_there = omega (arith, numbers.one_each, here);
      some = omega (arith, near, some);
      small = small;
      risk = numbers.small_risks leg.commodity;
      product = amount_product amount (unsigned_abs (value_at rests leg.commodity)) leg.ratio limit.ratio (omega (arith, near, small)) least;
      use_small = omega (arith, near, left);
    }

-- a leg is credited at most 10^33
quotient_small : (p d most : ℕ) → 0 < d → p ≤ 20000 * most → p / (20000 * d) ≤ most
quotient_small p d most h small =
    let one : 20000 * 1 ≤ 20000 * d = omega arith in
    let more = mul-le-mul_left (most + 1) one in
    let below = div_below p (20000 * d) (most + 1) (omega arith) (omega (arith, more)) in
    omega (arith, below)

pub leg_credit_small : (deltas : List ℤ) (risks : List ℕ) (rate amount : ℕ) (leg : Leg) → rate ≤ 10000 → IsCreditable deltas risks amount leg → leg_credit deltas risks rate amount leg ≤ 10 ^ 33
leg_credit_small deltas risks rate amount leg low is =
    let used_small : used amount leg.ratio ≤ 256 * 10 ^ 12 = omega (arith, is.use_small, is.small) in
    let first = mul-le-mul used_small low in
    let second = mul-le-mul first is.risk in
    quotient_small (used amount leg.ratio * rate * slice_index risks leg.commodity) (unsigned_abs (value_at deltas leg.commodity)) (10 ^ 33) is.some (omega (arith, second))

-- and no more than half of twice its price risk, so that 64 bits hold it
pub leg_credit_tight : (deltas : List ℤ) (risks : List ℕ) (rate amount : ℕ) (leg : Leg) → rate ≤ 10000 → IsCreditable deltas risks amount leg → leg_credit deltas risks rate amount leg ≤ 55 * 10 ^ 16
leg_credit_tight deltas risks rate amount leg low is =
    let d = unsigned_abs (value_at deltas leg.commodity) in
    let first = mul-le-mul is.use_small low in
    let second = mul-le-mul first is.risk in
    let below = div_below (used amount leg.ratio * rate * slice_index risks leg.commodity) (20000 * d) (55 * 10 ^ 16 + 1) (omega (arith, is.some)) (omega (arith, second, is.some)) in
    omega (arith, below)
