-- The deltas of a set's months as a list, one for each month in file order, and what legs and commodities come to by it.
use Rattle.std.specs.Prelude.{ℕ, ◌-◌, ◌==◌, ◌&&◌, nat_lt, if◌then◌else◌, ℤ, pos, List, length, map}
use Rattle.std.specs.List.{range_with_len}
use Rattle.mgn_num.specs.Signed.{sum_below}
use Rattle.mgn_params.specs.declared.tables.Month.{Month}
use Rattle.mgn_span.specs.Deltas.{month_delta, negative_part, net_delta_from, positive_part, starts_from}
use Rattle.mgn_span.specs.Positions.{Position}
use Rattle.mgn_span.specs.Scan.{value_at}
use Rattle.mgn_span.specs.Spot.{spot_charge_from, spot_of}
use Rattle.mgn_span.specs.Stages.{charges_of, left_by, stages_of}
use Rattle.mgn_params.specs.Tables.{Tables, month_at}

-- the deltas of the months (CME SPAN)
abbrev pub month_deltas : List Month → List Position → List ℤ
month_deltas months portfolio = map (month_delta portfolio) (range_with_len 0 (length months))

-- what a month of a delta counts for in a leg: in a long one the delta if that is above 0, in a short one its size if
-- that is below 0
abbrev pub start_share : Month → ℤ → ℕ → ℕ → ℕ
start_share month delta commodity leg =
    if nat_lt leg 8
    then (if (month.commodity == commodity) && (month.tier == leg) then positive_part delta else 0)
    else (if (month.commodity == commodity) && (month.tier == leg - 8) then negative_part delta else 0)

-- the same for a place in a table of months with their deltas
abbrev pub leg_share : List Month → List ℤ → ℕ → ℕ → ℕ → ℕ
leg_share months deltas commodity leg m = start_share (month_at months m) (value_at deltas m) commodity leg

-- what a leg starts with, month by month
abbrev pub start_by : List Month → List ℤ → ℕ → ℕ → ℕ
start_by months deltas commodity leg = sum_below (leg_share months deltas commodity leg) (length months)

-- what the 16 legs of a commodity start with
abbrev pub starts_by : List Month → List ℤ → ℕ → List ℕ
starts_by months deltas commodity = starts_from months (value_at deltas) commodity

-- what a month of a delta counts for in the net delta of a commodity
abbrev pub month_net : Month → ℤ → ℕ → ℤ
month_net month delta commodity = if month.commodity == commodity then delta else pos 0

-- the same for a place in a table of months with their deltas
abbrev pub net_share_by : List Month → List ℤ → ℕ → ℕ → ℤ
net_share_by months deltas commodity m = month_net (month_at months m) (value_at deltas m) commodity

-- the net delta of a commodity
abbrev pub net_delta_by : List Month → List ℤ → ℕ → ℤ
net_delta_by months deltas commodity = net_delta_from months (value_at deltas) commodity

-- what the intracommodity spreads of a commodity charge (CME SPAN)
unfoldable pub intra_charge_by : Tables → List ℤ → ℕ → ℕ
intra_charge_by set deltas commodity = charges_of (starts_by set.months deltas commodity) (stages_of set.spreads commodity)

-- the spot month charge of a commodity
unfoldable pub spot_charge_by : Tables → List ℤ → ℕ → ℕ
spot_charge_by set deltas commodity =
    let starts = starts_by set.months deltas commodity in
    spot_charge_from starts (left_by starts (stages_of set.spreads commodity)) (spot_of set.spots commodity)
