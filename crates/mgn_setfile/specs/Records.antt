-- What one record adds to the tables so far, or its first fault (own format).
use Rattle.std.specs.Prelude.{ℕ, ◌+◌, ◌-◌, ◌*◌, ◌^◌, ◌==◌, ◌&&◌, ◌||◌, Bool, false, nat_le, if◌then◌else◌, List, [], ◌∷◌, ◌++◌, length, map, replicate, Option, Some, None, ℤ, Result, Ok, Err, codes, position, count_by, is_some, ◌<◌, ◌≤◌, IfSome}
use Rattle.std.specs.List.{list_any}
use Rattle.std.specs.Str.{bytes_eq}
use Rattle.mgn_setfile.specs.declared.fault.Cause.TheVariants.{Double, Fields as WrongFields}
use Rattle.mgn_setfile.specs.declared.place.Field.{Field}
use Rattle.mgn_setfile.specs.declared.place.Field.TheVariants as field
use Rattle.mgn_params.specs.declared.tables.Class.{Class}
use Rattle.mgn_params.specs.declared.tables.Commodity.{Commodity}
use Rattle.mgn_params.specs.declared.tables.Contract.{Contract}
use Rattle.mgn_params.specs.declared.tables.CreditSpread.{CreditSpread}
use Rattle.mgn_params.specs.declared.tables.Kind.{Kind}
use Rattle.mgn_params.specs.declared.tables.Leg.{Leg}
use Rattle.mgn_params.specs.declared.tables.LegSide.{LegSide}
use Rattle.mgn_params.specs.declared.tables.Month.{Month}
use Rattle.mgn_params.specs.declared.tables.SpotCharge.{SpotCharge}
use Rattle.mgn_params.specs.declared.tables.Spread.{Spread}
use Rattle.mgn_params.specs.declared.tables.Style.{Style}
use Rattle.mgn_setfile.specs.Fields.{◌>>=◌, Fields, Flaw, at, field_kind, field_name, field_number, field_side, field_signed, field_style, fresh, in_field, known, roomy, value_of_style, whole}
use Rattle.mgn_params.specs.Limits.{class_names, commodity_names, contract_names}
use Rattle.mgn_params.specs.Tables.{Tables, is_month, is_side_a, is_side_b, legs_of, no_leg}

-- where the commodity of a name stands
abbrev pub commodity_place : Tables → List ℕ → Option ℕ
commodity_place t name = position (bytes_eq name) (commodity_names t.commodities)

-- where the month of a number stands
abbrev pub month_place : Tables → ℕ → ℕ → Option ℕ
month_place t commodity number = position (is_month commodity number) t.months

-- `G,commodity,charge for each short option`
unfoldable pub commodity_from : Tables → List ℕ → List ℕ → Result Commodity Flaw
commodity_from t commodity charge = do
  name ← in_field (field.Commodity 2) (field_name commodity)
  c ← in_field (field.Commodity 3) (field_number 0 (10 ^ 9) charge)
  fresh (field.Commodity 2) (list_any (bytes_eq name) (commodity_names t.commodities)) (nat_le 256 (length t.commodities)) (record { name = name; short_option_charge = c })

unfoldable pub commodity_of : Tables → Fields → Result Commodity Flaw
commodity_of t (commodity ∷ charge ∷ []) = commodity_from t commodity charge
commodity_of t _ = Err (whole WrongFields)

-- `M,commodity,month,tier`; the limit on all months follows from those on each commodity's
abbrev pub month_row : Tables → ℕ → ℕ → ℕ → Result Month Flaw
month_row t commodity number tier =
    fresh (field.Month 3) (is_some (month_place t commodity number)) (nat_le 64 (count_by (λ x. x.commodity == commodity) t.months) || nat_le (256 * 64) (length t.months)) (record { commodity = commodity; number = number; tier = tier - 1 })

unfoldable pub month_from : Tables → List ℕ → List ℕ → List ℕ → Result Month Flaw
month_from t commodity month tier = do
  name ← in_field (field.Month 2) (field_name commodity)
  number ← in_field (field.Month 3) (field_number 1 999999 month)
  level ← in_field (field.Month 4) (field_number 1 8 tier)
  place ← known (field.Month 2) (commodity_place t name)
  month_row t place number level

unfoldable pub month_of : Tables → Fields → Result Month Flaw
month_of t (commodity ∷ month ∷ tier ∷ []) = month_from t commodity month tier
month_of t _ = Err (whole WrongFields)

-- `K,contract,commodity,month,kind,style,delta,value,a1,..,a16`

-- the names of the contract and of its commodity, and the number of its month
unfoldable pub contract_names_from : List ℕ → List ℕ → List ℕ → Result (List ℕ × List ℕ × ℕ) Flaw
contract_names_from contract commodity month = do
  name ← in_field (field.Contract 2) (field_name contract)
  of ← in_field (field.Contract 3) (field_name commodity)
  number ← in_field (field.Contract 4) (field_number 1 999999 month)
  Ok (name, of, number)

-- the kind, the style, the delta and the value
unfoldable pub contract_terms_from : List ℕ → List ℕ → List ℕ → List ℕ → Result (Kind × Style × ℤ × ℕ) Flaw
contract_terms_from kind style delta value = do
  what ← in_field (field.Contract 5) (field_kind kind)
  paid ← in_field (field.Contract 6) (field_style what style)
  d ← in_field (field.Contract 7) (field_signed (10 ^ 5) delta)
  v ← in_field (field.Contract 8) (field_number 0 (10 ^ 8) value)
  worth ← in_field (field.Contract 8) (value_of_style paid v)
  Ok (what, paid, d, worth)

-- the values of an array, from a field on
abbrev pub values_from : ℕ → Fields → Result (List ℤ) Flaw
values_from n [] = Ok []
values_from n (word ∷ words) = do
  value ← in_field (field.Contract n) (field_signed (10 ^ 8) word)
  values ← values_from (n + 1) words
  Ok (value ∷ values)

-- the contract against the tables so far
abbrev pub contract_row : Tables → Contract → Result Contract Flaw
contract_row t c =
    fresh (field.Contract 2) (list_any (bytes_eq c.name) (contract_names t.contracts)) (nat_le 256 (count_by (λ x. x.commodity == c.commodity) t.contracts) || nat_le 4096 (length t.contracts)) c

unfoldable pub contract_at_month : Tables → List ℕ × List ℕ × ℕ → Kind × Style × ℤ × ℕ → List ℤ → Result Contract Flaw
contract_at_month t names terms values = do
  commodity ← known (field.Contract 3) (commodity_place t names.1)
  month ← known (field.Contract 4) (month_place t commodity names.2)
  contract_row t (record { name = names.0; commodity = commodity; month = month; kind = terms.0; style = terms.1; delta = terms.2; option_value = terms.3; array = values })

-- the number of fields comes first, then what the words say from left to right, then what earlier records give
unfoldable pub contract_with_values : Tables → Result (List ℕ × List ℕ × ℕ) Flaw → Result (Kind × Style × ℤ × ℕ) Flaw → Fields → Result Contract Flaw
contract_with_values t names terms array = do
  n ← names
  s ← terms
  values ← values_from 9 array
  contract_at_month t n s values

unfoldable pub contract_after_names : Tables → Result (List ℕ × List ℕ × ℕ) Flaw → Fields → Result Contract Flaw
contract_after_names t names (kind ∷ style ∷ delta ∷ value ∷ array) =
    if length array == 16 then contract_with_values t names (contract_terms_from kind style delta value) array else Err (whole WrongFields)
contract_after_names t names _ = Err (whole WrongFields)

unfoldable pub contract_of : Tables → Fields → Result Contract Flaw
contract_of t (contract ∷ commodity ∷ month ∷ rest) = contract_after_names t (contract_names_from contract commodity month) rest
contract_of t _ = Err (whole WrongFields)

-- `S,commodity,tier,ratio,tier,ratio,charge`

-- a tier with its ratio, from a field on
unfoldable pub tier_from : ℕ → List ℕ → List ℕ → Result (ℕ × ℕ) Flaw
tier_from n tier ratio = do
  level ← in_field (field.Spread n) (field_number 1 8 tier)
  r ← in_field (field.Spread (n + 1)) (field_number 1 (10 ^ 6) ratio)
  Ok (level - 1, r)

abbrev pub spread_row : Tables → Spread → Result Spread Flaw
spread_row t s =
    roomy (nat_le 32 (count_by (λ x. x.commodity == s.commodity) t.spreads) || nat_le (256 * 32) (length t.spreads)) s

unfoldable pub spread_from : Tables → List ℕ → List ℕ → List ℕ → List ℕ → List ℕ → List ℕ → Result Spread Flaw
spread_from t commodity tier ratio other other_ratio charge = do
  name ← in_field (field.Spread 2) (field_name commodity)
  first ← tier_from 3 tier ratio
  second ← tier_from 5 other other_ratio
  c ← in_field (field.Spread 7) (field_number 0 (10 ^ 9) charge)
  place ← known (field.Spread 2) (commodity_place t name)
  spread_row t (record { commodity = place; first_tier = first.0; first_ratio = first.1; second_tier = second.0; second_ratio = second.1; charge = c })

unfoldable pub spread_of : Tables → Fields → Result Spread Flaw
spread_of t (commodity ∷ tier ∷ ratio ∷ other ∷ other_ratio ∷ charge ∷ []) =
    spread_from t commodity tier ratio other other_ratio charge
spread_of t _ = Err (whole WrongFields)

-- `I,rate,` and two to four times `commodity,side,ratio`

-- a leg as its words say: where its commodity stands, if it is known, its side and its ratio
abbrev pub FoundLeg : Type 0
FoundLeg = Option ℕ × LegSide × ℕ

-- the limits on it, in a set of so many commodities
pub record IsFoundLeg (commodities : ℕ) (leg : FoundLeg) : Type 0 where
  pub commodity : IfSome leg.0 (λ g. g < commodities)
  pub ratio : 0 < leg.2
  pub small_ratio : leg.2 ≤ 10 ^ 6

-- its fields: after so many legs its commodity, its side and its ratio
abbrev pub commodity_field : ℕ → Field
commodity_field legs = field.CreditSpread (3 * legs + 3)

unfoldable pub leg_from : Tables → ℕ → List ℕ → List ℕ → List ℕ → Result FoundLeg Flaw
leg_from t before commodity side ratio = do
  name ← in_field (commodity_field before) (field_name commodity)
  s ← in_field (field.CreditSpread (3 * before + 4)) (field_side side)
  r ← in_field (field.CreditSpread (3 * before + 5)) (field_number 1 (10 ^ 6) ratio)
  Ok (commodity_place t name, s, r)

abbrev pub legs_from : Tables → ℕ → Fields → Result (List FoundLeg) Flaw
legs_from t before (commodity ∷ side ∷ ratio ∷ more) = do
  leg ← leg_from t before commodity side ratio
  legs ← legs_from t (before + 1) more
  Ok (leg ∷ legs)
legs_from t before _ = Ok []

-- a leg on each side
abbrev pub has_side_a : List FoundLeg → Bool
has_side_a legs = list_any (λ leg. is_side_a leg.1) legs

abbrev pub has_side_b : List FoundLeg → Bool
has_side_b legs = list_any (λ leg. is_side_b leg.1) legs

abbrev pub sided : List FoundLeg → Result (List FoundLeg) Flaw
sided legs = if has_side_a legs && has_side_b legs then Ok legs else Err (whole WrongFields)

-- the legs, where earlier records give each commodity
abbrev pub known_legs : ℕ → List FoundLeg → Result (List Leg) Flaw
known_legs before [] = Ok []
known_legs before (leg ∷ legs) = do
  commodity ← known (commodity_field before) leg.0
  rest ← known_legs (before + 1) legs
  Ok (record { commodity = commodity; side = leg.1; ratio = leg.2 } ∷ rest)

-- the row of four that legs are kept in
abbrev pub padded : List Leg → List Leg
padded legs = legs ++ replicate (4 - length legs) no_leg

-- the legs in that row, if they are known
abbrev pub kept_legs : List FoundLeg → Result (List Leg) Flaw
kept_legs legs = known_legs 0 legs >>= λ known. Ok (padded known)

-- where the first one stands that came before
abbrev pub repeat_place : List ℕ → List ℕ → Option ℕ
repeat_place before [] = None
repeat_place before (g ∷ gs) = if list_any (λ h. g == h) before then Some (length before) else repeat_place (before ++ g ∷ []) gs

abbrev pub unrepeated : {A : Type 0} → Option ℕ → A → Result A Flaw
unrepeated None row = Ok row
unrepeated (Some leg) row = Err (at (commodity_field leg) Double)

abbrev pub credit_row : Tables → CreditSpread → Result CreditSpread Flaw
credit_row t s = do
  row ← unrepeated (repeat_place [] (map (λ leg. leg.commodity) (legs_of s))) s
  roomy (nat_le 64 (length t.credits)) row

unfoldable pub credit_from : Tables → List ℕ → Fields → Result CreditSpread Flaw
credit_from t rate words = do
  r ← in_field (field.CreditSpread 2) (field_number 0 10000 rate)
  found ← legs_from t 0 words
  both ← sided found
  legs ← known_legs 0 both
  credit_row t (record { rate = r; count = length legs; legs = padded legs })

abbrev pub is_leg_count : ℕ → Bool
is_leg_count n = (n == 6) || (n == 9) || (n == 12)

unfoldable pub credit_of : Tables → Fields → Result CreditSpread Flaw
credit_of t [] = Err (whole WrongFields)
credit_of t (rate ∷ words) = if is_leg_count (length words) then credit_from t rate words else Err (whole WrongFields)

-- `V,class,price,haircut`; the class CASH is always there
abbrev pub class_row : Tables → Class → Result Class Flaw
class_row t c =
    fresh (field.Class 2) (bytes_eq c.name (codes "CASH") || list_any (bytes_eq c.name) (class_names t.classes)) (nat_le 16 (length t.classes)) c

unfoldable pub class_from : Tables → List ℕ → List ℕ → List ℕ → Result Class Flaw
class_from t class price haircut = do
  name ← in_field (field.Class 2) (field_name class)
  p ← in_field (field.Class 3) (field_number 0 (10 ^ 8) price)
  h ← in_field (field.Class 4) (field_number 0 10000 haircut)
  class_row t (record { name = name; price = p; haircut = h })

unfoldable pub class_of : Tables → Fields → Result Class Flaw
class_of t (class ∷ price ∷ haircut ∷ []) = class_from t class price haircut
class_of t _ = Err (whole WrongFields)

-- `T,commodity,tier,spread rate,outright rate`
abbrev pub spot_row : Tables → SpotCharge → Result SpotCharge Flaw
spot_row t s = fresh (field.Spot 2) (nat_le 1 (count_by (λ x. x.commodity == s.commodity) t.spots)) false s

unfoldable pub spot_from : Tables → List ℕ → List ℕ → List ℕ → List ℕ → Result SpotCharge Flaw
spot_from t commodity tier spread outright = do
  name ← in_field (field.Spot 2) (field_name commodity)
  level ← in_field (field.Spot 3) (field_number 1 8 tier)
  s ← in_field (field.Spot 4) (field_number 0 (10 ^ 9) spread)
  o ← in_field (field.Spot 5) (field_number 0 (10 ^ 9) outright)
  place ← known (field.Spot 2) (commodity_place t name)
  spot_row t (record { commodity = place; tier = level - 1; spread_rate = s; outright_rate = o })

unfoldable pub spot_charge_of_record : Tables → Fields → Result SpotCharge Flaw
spot_charge_of_record t (commodity ∷ tier ∷ spread ∷ outright ∷ []) = spot_from t commodity tier spread outright
spot_charge_of_record t _ = Err (whole WrongFields)
