-- The holds of an account, and what they come to by side (own profile).
use Rattle.std.specs.Prelude.{ℕ, ℤ, pos, ◌≤◌, ◌^◌, ◌*ℤ◌, ◌-ℤ◌, unsigned_abs, Bool, ◌&&◌, not, nat_eq, nat_le, All, List, [], length, map, slice_index_or, slice_set, remove, position, Option, is_some, if◌then◌else◌}
use Rattle.std.specs.List.{IsDistinct}
use Rattle.std.specs.Int.RustNames.{int_lt, int_le}
use Rattle.std.specs.Ordering.{int_eq}
use Rattle.std.specs.Str.{bytes_eq}
use Rattle.mgn_num.specs.Signed.{signed_sum_by}
use Rattle.mgn_holds.specs.declared.side.Side.{Side}
use Rattle.mgn_holds.specs.declared.side.Side.TheVariants.{Buys, Sales}
use Rattle.mgn_holds.specs.declared.held.Held.{Held}

-- a quantity above 0 buys
abbrev pub is_buy : ℤ → Bool
is_buy quantity = int_lt (pos 0) quantity

-- a hold counts on one side
abbrev pub is_on : Side → ℤ → Bool
is_on Buys quantity = is_buy quantity
is_on Sales quantity = not (is_buy quantity)

-- what the holds of a side may cost, in cents: the sum of quantity times limit, less than 0 where they sell
abbrev pub premium : Side → List Held → ℤ
premium side holds = signed_sum_by (λ x. if is_on side x.quantity then x.quantity *ℤ pos x.limit else pos 0) holds

-- what the holds of a side hold of a contract
abbrev pub held_net : Side → List ℕ → List Held → ℤ
held_net side contract holds =
    signed_sum_by (λ x. if bytes_eq x.contract contract then (if is_on side x.quantity then x.quantity else pos 0) else pos 0)
    holds

-- the limits of a hold
pub record IsHeld (x : Held) : Type 0 where
  pub some : 1 ≤ unsigned_abs x.quantity
  pub most : unsigned_abs x.quantity ≤ 10 ^ 6
  pub limit : x.limit ≤ 10 ^ 8

-- stands for the hold past the end of a list, which no one asks for
abbrev pub no_hold : Held
no_hold = record { order = 0; contract = []; quantity = pos 0; limit = 0 }

abbrev pub hold_at : List Held → ℕ → Held
hold_at holds i = slice_index_or holds i no_hold

-- where the hold of an order stands
abbrev pub place_of_order : List Held → ℕ → Option ℕ
place_of_order holds order = position (λ (x : Held). nat_eq x.order order) holds

abbrev pub has_order : List Held → ℕ → Bool
has_order holds order = is_some (place_of_order holds order)

-- an account has at most 256 holds
abbrev pub is_full : List Held → Bool
is_full holds = nat_le 256 (length holds)

-- a hold that buys pays its limit at most, one that sells takes it at least
abbrev pub meets_limit : Held → ℕ → Bool
meets_limit x premium = if is_buy x.quantity then nat_le premium x.limit else nat_le x.limit premium

-- a quantity of the hold's sign, no larger than what is held
abbrev pub covers : Held → ℤ → Bool
covers x quantity =
    if is_buy x.quantity then int_lt (pos 0) quantity && int_le quantity x.quantity else int_lt quantity (pos 0) && int_le x.quantity quantity

-- the holds after a fill: a part lessens the hold, all takes it away
abbrev pub filled_at : List Held → ℕ → ℤ → List Held
filled_at holds i quantity =
    let x = hold_at holds i in
    if int_eq quantity x.quantity
    then remove holds i
    else slice_set holds i (record x { quantity = x.quantity -ℤ quantity })

abbrev pub orders_of : List Held → List ℕ
orders_of holds = map (λ (x : Held). x.order) holds

-- holds within the limits, one of an order
pub record IsHolds (holds : List Held) : Type 0 where
  pub limits : All IsHeld holds
  pub few : length holds ≤ 256
  pub distinct : IsDistinct nat_eq (orders_of holds)

-- What one hold counts for in a sum, and a hold of which a part is filled: words for proofs.

abbrev pub cost_on : Side → ℤ → ℕ → ℤ
cost_on side quantity limit = if is_on side quantity then quantity *ℤ pos limit else pos 0

abbrev pub held_cost : Side → Held → ℤ
held_cost side x = cost_on side x.quantity x.limit

abbrev pub held_share : Side → List ℕ → Held → ℤ
held_share side contract x = if bytes_eq x.contract contract then (if is_on side x.quantity then x.quantity else pos 0) else pos 0

abbrev pub lessened : Held → ℤ → Held
lessened x quantity = record x { quantity = x.quantity -ℤ quantity }
