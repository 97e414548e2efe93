-- Words for laws, for the inside of other crates and for proofs. No definition of the requirement stands on them.
use Rattle.std.specs.Prelude.{ℕ, ◌≡◌, ◌<◌, ◌≤◌, ◌^◌, ◌+◌, ◌*◌, ◌==◌, ◌&&◌, if◌then◌else◌, ℤ, pos, ◌+ℤ◌, ◌-ℤ◌, ◌*ℤ◌, int_lt, unsigned_abs, List, [], ◌∷◌, length, slice_index, slice_index_or, All}
use Rattle.std.specs.Int.{div_ceil, int_max}
use Rattle.std.specs.List.{range_with_len}
use Rattle.mgn_params.specs.declared.tables.Leg.{Leg}
use Rattle.mgn_params.specs.declared.tables.Month.{Month}
use Rattle.mgn_params.specs.declared.tables.SpotCharge.{SpotCharge}
use Rattle.mgn_params.specs.declared.tables.Spread.{Spread}
use Rattle.mgn_params.specs.Limits.{IsSpread}
use Rattle.mgn_params.specs.Tables.{Tables, is_option, is_premium, month_at, no_leg}
use Rattle.mgn_span.specs.declared.stage.Stage.{Stage}
use Rattle.mgn_span.specs.Deltas.{is_in_tier, month_delta, negative_part, net_delta_from, positive_part, start_from, starts_from, tier_delta}
use Rattle.mgn_span.specs.Positions.{Position}
use Rattle.mgn_span.specs.Scan.{pair_of, price_risk2, scenario_total, value_at}
use Rattle.mgn_span.specs.Sizes.{IsDelta, IsRisk}
use Rattle.mgn_span.specs.Stages.{amount_of, left_after, used}

-- What one position or one month counts for in a sum.

abbrev pub scenario_share : ℕ → ℕ → Position → ℤ
scenario_share commodity s p = if p.0.commodity == commodity then p.1 *ℤ value_at p.0.array s else pos 0

abbrev pub month_share : ℕ → Position → ℤ
month_share month p = if p.0.month == month then p.1 *ℤ p.0.delta else pos 0

abbrev pub short_share_of : ℕ → ℕ → Position → ℕ
short_share_of commodity charge p =
    if (p.0.commodity == commodity) && is_option p.0.kind then negative_part p.1 * charge else 0

abbrev pub value_share : Position → ℤ
value_share p = if is_premium p.0.style then p.1 *ℤ pos p.0.option_value else pos 0

abbrev pub long_share : List Month → List Position → ℕ → ℕ → ℕ → ℕ
long_share months portfolio commodity tier m =
    if is_in_tier months commodity tier m then positive_part (month_delta portfolio m) else 0

abbrev pub short_share : List Month → List Position → ℕ → ℕ → ℕ → ℕ
short_share months portfolio commodity tier m =
    if is_in_tier months commodity tier m then negative_part (month_delta portfolio m) else 0

abbrev pub net_share : List Month → List Position → ℕ → ℕ → ℤ
net_share months portfolio commodity m = if (month_at months m).commodity == commodity then month_delta portfolio m else pos 0

-- Deltas by positions.

-- the long and the short delta of a tier
abbrev pub long_delta : List Month → List Position → ℕ → ℕ → ℕ
long_delta months portfolio commodity tier = tier_delta positive_part months (month_delta portfolio) commodity tier

abbrev pub short_delta : List Month → List Position → ℕ → ℕ → ℕ
short_delta months portfolio commodity tier = tier_delta negative_part months (month_delta portfolio) commodity tier

-- what a leg of a commodity starts with, and what its 16 legs do
abbrev pub start_of : List Month → List Position → ℕ → ℕ → ℕ
start_of months portfolio commodity leg = start_from months (month_delta portfolio) commodity leg

abbrev pub starts_of : List Month → List Position → ℕ → List ℕ
starts_of months portfolio commodity = starts_from months (month_delta portfolio) commodity

-- the net delta of a commodity
abbrev pub net_delta : List Month → List Position → ℕ → ℤ
net_delta months portfolio commodity = net_delta_from months (month_delta portfolio) commodity

-- Commodities by number.

abbrev pub commodities_of : Tables → List ℕ
commodities_of set = range_with_len 0 (length set.commodities)

-- the doubled price risk, which is never negative, and what it is at a scenario
abbrev pub price_risk2_of : List Position → ℕ → ℕ
price_risk2_of portfolio commodity = unsigned_abs (price_risk2 (scenario_total commodity portfolio))

abbrev pub price_risk2_at : (ℕ → ℤ) → ℕ → ℤ
price_risk2_at t s =
    if int_lt (pos 0) (t s) then int_max (pos 0) (t s +ℤ t (pair_of s) -ℤ t 0 -ℤ t 1) else pos 0

-- Stages one by one.

-- what a stage charges
abbrev pub charge_of : List ℕ → Stage → ℕ
charge_of left stage = div_ceil (amount_of left stage * stage.charge) 10000

-- what a stage uses of a leg
abbrev pub used_of : List ℕ → Stage → ℕ → ℕ
used_of left stage leg =
    (if stage.first_leg == leg then used (amount_of left stage) stage.first_ratio else 0)
    + (if stage.second_leg == leg then used (amount_of left stage) stage.second_ratio else 0)

-- what the stages use of a leg together, each of what the earlier ones left
abbrev pub used_by : List ℕ → List Stage → ℕ → ℕ
used_by left [] leg = 0
used_by left (stage ∷ stages) leg = used_of left stage leg + used_by (left_after left stage) stages leg

-- the stages of a spread: the first tier long and the second short, and the other way round
abbrev pub there_of : Spread → Stage
there_of s = record { first_leg = s.first_tier; first_ratio = s.first_ratio; second_leg = 8 + s.second_tier; second_ratio = s.second_ratio; charge = s.charge }

abbrev pub back_of : Spread → Stage
back_of s = record { first_leg = s.second_tier; first_ratio = s.second_ratio; second_leg = 8 + s.first_tier; second_ratio = s.first_ratio; charge = s.charge }

-- a stage of ratios of 1
abbrev pub even_stage : ℕ → ℕ → ℕ → Stage
even_stage first second each = record { first_leg = first; first_ratio = 10000; second_leg = second; second_ratio = 10000; charge = each }

-- a stage that stands at no place of a list; it uses and charges nothing
abbrev pub no_stage : Stage
no_stage = record { first_leg = 0; first_ratio = 0; second_leg = 0; second_ratio = 0; charge = 0 }

abbrev pub stage_at : List Stage → ℕ → Stage
stage_at stages i = slice_index_or stages i no_stage

-- the spreads of one commodity of a set
pub record AreSpreads (spreads : List Spread) : Type 0 where
  pub limits : All (λ s. (commodities : ℕ) × IsSpread commodities s) spreads
  pub few : length spreads ≤ 32

-- and its spot month charge
abbrev pub IsSpot : SpotCharge → Type 0
IsSpot s = (s.tier < 8) × (s.spread_rate ≤ 10 ^ 9) × (s.outright_rate ≤ 10 ^ 9)

-- Rows of numbers that are kept for the commodities of a set.

-- the scenario totals of a commodity, and one of them
abbrev pub totals_of : List (List ℤ) → ℕ → List ℤ
totals_of rows commodity = slice_index_or rows commodity []

abbrev pub total_of : List (List ℤ) → ℕ → ℕ → ℤ
total_of rows commodity scenario = value_at (totals_of rows commodity) scenario

-- no rest is farther from 0 than the net delta
pub record AreRests (deltas rests : List ℤ) : Type 0 where
  pub one_each : length rests ≡ length deltas
  pub near : (g : ℕ) → unsigned_abs (value_at rests g) ≤ unsigned_abs (value_at deltas g)

-- The legs of one spread between commodities.

abbrev pub leg_at : List Leg → ℕ → Leg
leg_at legs k = slice_index_or legs k no_leg

-- one net delta and one doubled price risk for each commodity, within their sizes
pub record AreNumbers (deltas : List ℤ) (risks : List ℕ) : Type 0 where
  pub one_each : length risks ≡ length deltas
  pub small_deltas : All IsDelta deltas
  pub small_risks : (g : ℕ) → IsRisk (slice_index risks g)

-- a leg of a formed spread: its commodity has a net delta, and it uses no more of it than there is
pub record IsCreditable (deltas : List ℤ) (risks : List ℕ) (amount : ℕ) (leg : Leg) : Type 0 where
  pub there : leg.commodity < length deltas
  pub risk_there : leg.commodity < length risks
  pub some : 0 < unsigned_abs (value_at deltas leg.commodity)
  pub small : unsigned_abs (value_at deltas leg.commodity) ≤ 256 * 10 ^ 12
  pub risk : IsRisk (slice_index risks leg.commodity)
  pub product : amount * leg.ratio ≤ 256 * 10 ^ 16
  pub use_small : used amount leg.ratio ≤ unsigned_abs (value_at deltas leg.commodity)

-- no leg's rest is farther from 0 than its net delta
abbrev pub AreNear : List ℤ → List ℤ → List Leg → Type 0
AreNear deltas rests legs =
    All (λ leg. unsigned_abs (value_at rests leg.commodity) ≤ unsigned_abs (value_at deltas leg.commodity)) legs
