-- What the intercommodity spreads use of the net deltas and what they credit, spread by spread.
use Rattle.std.specs.Prelude.{ℕ, ℤ, ◌==◌, if◌then◌else◌, List, length, map, replicate, take}
use Rattle.std.specs.List.{fold, sum_by}
use Rattle.mgn_params.specs.declared.tables.CreditSpread.{CreditSpread}
use Rattle.mgn_params.specs.declared.tables.Leg.{Leg}
use Rattle.mgn_span.specs.Credits.{formed, forms, leg_credit, spread_amount}
use Rattle.mgn_span.specs.Words.{commodities_of, net_delta, price_risk2_of}
use Rattle.mgn_span.specs.Positions.{Position}
use Rattle.mgn_span.specs.Stages.{used}
use Rattle.mgn_params.specs.Tables.{Tables, credit_spread_at, legs_of}

-- the net delta of each commodity, and its doubled price risk
abbrev pub deltas_in : Tables → List Position → List ℤ
deltas_in set portfolio = map (net_delta set.months portfolio) (commodities_of set)

abbrev pub risks_in : Tables → List Position → List ℕ
risks_in set portfolio = map (price_risk2_of portfolio) (commodities_of set)

-- the rests when the turn of the spread at a place comes
abbrev pub rests_at : Tables → List Position → ℕ → List ℤ
rests_at set portfolio k =
    (fold (formed (deltas_in set portfolio) (risks_in set portfolio)) (deltas_in set portfolio, replicate (length (deltas_in set portfolio)) 0) (take k set.credits)).0

-- what a leg uses of a commodity for an amount of spreads
abbrev pub leg_use : ℕ → ℕ → Leg → ℕ
leg_use amount commodity leg = if leg.commodity == commodity then used amount leg.ratio else 0

-- what a spread uses of a commodity, which is nothing where it does not form
abbrev pub spread_use : List ℤ → ℕ → CreditSpread → ℕ
spread_use rests commodity spread =
    if forms rests (legs_of spread) then sum_by (leg_use (spread_amount rests (legs_of spread)) commodity) (legs_of spread) else 0

-- what the spread at a place uses of a commodity in its turn
abbrev pub credit_use_at : Tables → List Position → ℕ → ℕ → ℕ
credit_use_at set portfolio commodity k = spread_use (rests_at set portfolio k) commodity (credit_spread_at set.credits k)

-- what a spread credits to a commodity, which is nothing where it does not form
abbrev pub leg_credit_to : List ℤ → List ℕ → ℕ → ℕ → ℕ → Leg → ℕ
leg_credit_to deltas risks rate amount commodity leg =
    if leg.commodity == commodity then leg_credit deltas risks rate amount leg else 0

abbrev pub spread_credit : List ℤ → List ℕ → List ℤ → ℕ → CreditSpread → ℕ
spread_credit deltas risks rests commodity spread =
    if forms rests (legs_of spread) then sum_by (leg_credit_to deltas risks spread.rate (spread_amount rests (legs_of spread)) commodity) (legs_of spread) else 0

-- what the spread at a place credits to a commodity in its turn
abbrev pub credit_at : Tables → List Position → ℕ → ℕ → ℕ
credit_at set portfolio commodity k =
    spread_credit (deltas_in set portfolio) (risks_in set portfolio) (rests_at set portfolio k) commodity (credit_spread_at set.credits k)
