-- The tables of a parameter set, in file order: what a SPAN parameter file tells of commodities, months, contracts, spreads
-- and spot months (CME SPAN), and of collateral (own profile).
use Rattle.std.specs.Prelude.{ℕ, ◌==◌, ◌&&◌, Bool, true, false, List, [], pos, slice_index_or, take}
use Rattle.mgn_params.specs.declared.tables.Class.{Class}
use Rattle.mgn_params.specs.declared.tables.Commodity.{Commodity}
use Rattle.mgn_params.specs.declared.tables.Contract.{Contract}
use Rattle.mgn_params.specs.declared.tables.CreditSpread.{CreditSpread}
use Rattle.mgn_params.specs.declared.tables.Kind.{Kind}
use Rattle.mgn_params.specs.declared.tables.Kind.TheVariants.{Future}
use Rattle.mgn_params.specs.declared.tables.Leg.{Leg}
use Rattle.mgn_params.specs.declared.tables.Month.{Month}
use Rattle.mgn_params.specs.declared.tables.LegSide.{LegSide}
use Rattle.mgn_params.specs.declared.tables.LegSide.TheVariants.{A, B}
use Rattle.mgn_params.specs.declared.tables.SpotCharge.{SpotCharge}
use Rattle.mgn_params.specs.declared.tables.Spread.{Spread}
use Rattle.mgn_params.specs.declared.tables.Style.{Style}
use Rattle.mgn_params.specs.declared.tables.Style.TheVariants.{Premium, Other}

pub record Tables : Type 0 where
  pub name : List ℕ
  pub commodities : List Commodity
  pub months : List Month
  pub contracts : List Contract
  pub spreads : List Spread
  pub credits : List CreditSpread
  pub classes : List Class
  pub spots : List SpotCharge

-- a set of a name, without rows
abbrev pub no_tables : List ℕ → Tables
no_tables name = record { name = name; commodities = []; months = []; contracts = []; spreads = []; credits = []; classes = []; spots = [] }

-- Rows that stand at no place of a table.

abbrev pub no_commodity : Commodity
no_commodity = record { name = []; short_option_charge = 0 }

abbrev pub no_month : Month
no_month = record { commodity = 0; number = 0; tier = 0 }

abbrev pub no_contract : Contract
no_contract = record { name = []; commodity = 0; month = 0; kind = Future; style = Other; delta = pos 0; option_value = 0; array = [] }

abbrev pub no_spread : Spread
no_spread = record { commodity = 0; first_tier = 0; first_ratio = 0; second_tier = 0; second_ratio = 0; charge = 0 }

abbrev pub no_leg : Leg
no_leg = record { commodity = 0; side = A; ratio = 0 }

abbrev pub no_credit_spread : CreditSpread
no_credit_spread = record { rate = 0; count = 0; legs = [] }

abbrev pub no_class : Class
no_class = record { name = []; price = 0; haircut = 0 }

abbrev pub no_spot : SpotCharge
no_spot = record { commodity = 0; tier = 0; spread_rate = 0; outright_rate = 0 }

-- The row at a place of a table.

abbrev pub commodity_at : List Commodity → ℕ → Commodity
commodity_at commodities g = slice_index_or commodities g no_commodity

abbrev pub month_at : List Month → ℕ → Month
month_at months m = slice_index_or months m no_month

abbrev pub contract_at : List Contract → ℕ → Contract
contract_at contracts i = slice_index_or contracts i no_contract

abbrev pub spread_at : List Spread → ℕ → Spread
spread_at spreads i = slice_index_or spreads i no_spread

abbrev pub credit_spread_at : List CreditSpread → ℕ → CreditSpread
credit_spread_at credits i = slice_index_or credits i no_credit_spread

abbrev pub class_at : List Class → ℕ → Class
class_at classes i = slice_index_or classes i no_class

abbrev pub spot_at : List SpotCharge → ℕ → SpotCharge
spot_at spots i = slice_index_or spots i no_spot

-- the legs of an intercommodity spread
abbrev pub legs_of : CreditSpread → List Leg
legs_of spread = take spread.count spread.legs

-- whether a month is the commodity's of a number
abbrev pub is_month : ℕ → ℕ → Month → Bool
is_month commodity number m = (m.commodity == commodity) && (m.number == number)

abbrev pub is_option : Kind → Bool
is_option Future = false
is_option _ = true

abbrev pub is_premium : Style → Bool
is_premium Premium = true
is_premium Other = false

abbrev pub is_side_a : LegSide → Bool
is_side_a A = true
is_side_a B = false

abbrev pub is_side_b : LegSide → Bool
is_side_b A = false
is_side_b B = true
