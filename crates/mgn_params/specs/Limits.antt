-- The limits on a set and on each of its rows (own profile), and when a row may come next in its table.
use Rattle.std.specs.Prelude.{◌≡◌, ℕ, ◌<◌, ◌≤◌, ◌^◌, ◌*◌, true, false, ◌==◌, List, length, map, unsigned_abs, All, codes, count_by, is_some, position}
use Rattle.std.specs.List.{IsDistinct, list_any}
use Rattle.std.specs.Str.{bytes_eq}
use Rattle.mgn_params.specs.declared.tables.Class.{Class}
use Rattle.mgn_params.specs.declared.tables.Commodity.{Commodity}
use Rattle.mgn_params.specs.declared.tables.Contract.{Contract}
use Rattle.mgn_params.specs.declared.tables.CreditSpread.{CreditSpread}
use Rattle.mgn_params.specs.declared.tables.Leg.{Leg}
use Rattle.mgn_params.specs.declared.tables.Month.{Month}
use Rattle.mgn_params.specs.declared.tables.SpotCharge.{SpotCharge}
use Rattle.mgn_params.specs.declared.tables.Spread.{Spread}
use Rattle.mgn_params.specs.Tables.{Tables, is_month, is_side_a, is_side_b, legs_of, month_at}

-- The names in a table.

abbrev pub commodity_names : List Commodity → List (List ℕ)
commodity_names commodities = map (λ c. c.name) commodities

abbrev pub contract_names : List Contract → List (List ℕ)
contract_names contracts = map (λ c. c.name) contracts

abbrev pub class_names : List Class → List (List ℕ)
class_names classes = map (λ c. c.name) classes

-- The limits on the numbers of one row, in a set of so many commodities with these months.

pub record IsCommodity (c : Commodity) : Type 0 where
  pub charge : c.short_option_charge ≤ 10 ^ 9

pub record IsMonth (commodities : ℕ) (m : Month) : Type 0 where
  pub commodity : m.commodity < commodities
  pub low : 1 ≤ m.number
  pub high : m.number ≤ 999999
  pub tier : m.tier < 8

pub record IsContract (commodities : ℕ) (months : List Month) (c : Contract) : Type 0 where
  pub commodity : c.commodity < commodities
  pub month : c.month < length months
  pub own_month : (month_at months c.month).commodity ≡ c.commodity
  pub delta : unsigned_abs c.delta ≤ 10 ^ 5
  pub option_value : c.option_value ≤ 10 ^ 8
  pub array : All (λ a. unsigned_abs a ≤ 10 ^ 8) c.array

pub record IsSpread (commodities : ℕ) (s : Spread) : Type 0 where
  pub commodity : s.commodity < commodities
  pub first_tier : s.first_tier < 8
  pub second_tier : s.second_tier < 8
  pub first_ratio : 0 < s.first_ratio
  pub second_ratio : 0 < s.second_ratio
  pub small_first_ratio : s.first_ratio ≤ 10 ^ 6
  pub small_second_ratio : s.second_ratio ≤ 10 ^ 6
  pub charge : s.charge ≤ 10 ^ 9

pub record IsLeg (commodities : ℕ) (leg : Leg) : Type 0 where
  pub commodity : leg.commodity < commodities
  pub ratio : 0 < leg.ratio
  pub small_ratio : leg.ratio ≤ 10 ^ 6

-- no two legs of one commodity, and a leg on each side
pub record IsCreditSpread (commodities : ℕ) (s : CreditSpread) : Type 0 where
  pub rate : s.rate ≤ 10000
  pub some : 2 ≤ s.count
  pub few : s.count ≤ 4
  pub legs : All (IsLeg commodities) (legs_of s)
  pub apart : IsDistinct (λ g h. g == h) (map (λ leg. leg.commodity) (legs_of s))
  pub side_a : list_any (λ leg. is_side_a leg.side) (legs_of s) ≡ true
  pub side_b : list_any (λ leg. is_side_b leg.side) (legs_of s) ≡ true

-- the same, but for the commodities of the legs
pub record IsSidedSpread (commodities : ℕ) (s : CreditSpread) : Type 0 where
  pub rate : s.rate ≤ 10000
  pub some : 2 ≤ s.count
  pub few : s.count ≤ 4
  pub row : length s.legs ≡ 4
  pub legs : All (IsLeg commodities) (legs_of s)
  pub side_a : list_any (λ leg. is_side_a leg.side) (legs_of s) ≡ true
  pub side_b : list_any (λ leg. is_side_b leg.side) (legs_of s) ≡ true

-- a class beside cash, which has no row
pub record IsClass (c : Class) : Type 0 where
  pub not_cash : bytes_eq c.name (codes "CASH") ≡ false
  pub price : c.price ≤ 10 ^ 8
  pub haircut : c.haircut ≤ 10000

pub record IsSpotCharge (commodities : ℕ) (s : SpotCharge) : Type 0 where
  pub commodity : s.commodity < commodities
  pub tier : s.tier < 8
  pub spread_rate : s.spread_rate ≤ 10 ^ 9
  pub outright_rate : s.outright_rate ≤ 10 ^ 9

-- The limits on a whole set.
pub record IsWithinLimits (t : Tables) : Type 0 where
  pub commodities : All IsCommodity t.commodities
  pub months : All (IsMonth (length t.commodities)) t.months
  pub contracts : All (IsContract (length t.commodities) t.months) t.contracts
  pub spreads : All (IsSpread (length t.commodities)) t.spreads
  pub credits : All (IsCreditSpread (length t.commodities)) t.credits
  pub classes : All IsClass t.classes
  pub spots : All (IsSpotCharge (length t.commodities)) t.spots
  pub few_commodities : length t.commodities ≤ 256
  pub few_months : length t.months ≤ 256 * 64
  pub few_months_in_each : (g : ℕ) → count_by (λ m. m.commodity == g) t.months ≤ 64
  pub months_once : (g number : ℕ) → count_by (is_month g number) t.months ≤ 1
  pub few_contracts : length t.contracts ≤ 4096
  pub few_contracts_in_each : (g : ℕ) → count_by (λ c. c.commodity == g) t.contracts ≤ 256
  pub few_spreads : length t.spreads ≤ 256 * 32
  pub few_spreads_in_each : (g : ℕ) → count_by (λ s. s.commodity == g) t.spreads ≤ 32
  pub few_credits : length t.credits ≤ 64
  pub few_classes : length t.classes ≤ 16
  pub few_spots_in_each : (g : ℕ) → count_by (λ s. s.commodity == g) t.spots ≤ 1
  pub commodity_names : IsDistinct bytes_eq (commodity_names t.commodities)
  pub contract_names : IsDistinct bytes_eq (contract_names t.contracts)
  pub class_names : IsDistinct bytes_eq (class_names t.classes)

-- When a row may come next in its table.

pub record IsNextCommodity (t : Tables) (c : Commodity) : Type 0 where
  pub limits : IsCommodity c
  pub few : length t.commodities < 256
  pub new : list_any (bytes_eq c.name) (commodity_names t.commodities) ≡ false

pub record IsNextMonth (t : Tables) (m : Month) : Type 0 where
  pub limits : IsMonth (length t.commodities) m
  pub few : length t.months < 256 * 64
  pub few_in_commodity : count_by (λ x. x.commodity == m.commodity) t.months < 64
  pub new : is_some (position (is_month m.commodity m.number) t.months) ≡ false

pub record IsNextContract (t : Tables) (c : Contract) : Type 0 where
  pub limits : IsContract (length t.commodities) t.months c
  pub few : length t.contracts < 4096
  pub few_in_commodity : count_by (λ x. x.commodity == c.commodity) t.contracts < 256
  pub new : list_any (bytes_eq c.name) (contract_names t.contracts) ≡ false

pub record IsNextSpread (t : Tables) (s : Spread) : Type 0 where
  pub limits : IsSpread (length t.commodities) s
  pub few : length t.spreads < 256 * 32
  pub few_in_commodity : count_by (λ x. x.commodity == s.commodity) t.spreads < 32

pub record IsNextCreditSpread (t : Tables) (s : CreditSpread) : Type 0 where
  pub limits : IsCreditSpread (length t.commodities) s
  pub few : length t.credits < 64

pub record IsNextClass (t : Tables) (c : Class) : Type 0 where
  pub limits : IsClass c
  pub few : length t.classes < 16
  pub new : list_any (bytes_eq c.name) (class_names t.classes) ≡ false

pub record IsNextSpot (t : Tables) (s : SpotCharge) : Type 0 where
  pub limits : IsSpotCharge (length t.commodities) s
  pub few_in_commodity : count_by (λ x. x.commodity == s.commodity) t.spots < 1
