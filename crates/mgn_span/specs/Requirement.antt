-- The requirement of a list of nets under a set, one net for each contract in file order: scan risk, spread charges and
-- credits, short option minimum and net option value (CME SPAN).
use Rattle.std.specs.Prelude.{ℕ, ℤ, pos, ◌+ℤ◌, ◌-ℤ◌, List, length, map, slice_index, unsigned_abs}
use Rattle.std.specs.Int.{int_max}
use Rattle.std.specs.List.{range_with_len}
use Rattle.mgn_num.specs.Signed.{signed_sum_below}
use Rattle.mgn_span.specs.Credits.{credits_of}
use Rattle.mgn_span.specs.Deltas.{month_delta, net_delta_from, starts_from}
use Rattle.mgn_span.specs.Options.{net_option_value, short_option_minimum}
use Rattle.mgn_span.specs.Positions.{Position, positions}
use Rattle.mgn_span.specs.Scan.{price_risk2, scan_risk, scenario_total}
use Rattle.mgn_span.specs.Spot.{spot_charge_from, spot_of}
use Rattle.mgn_span.specs.Stages.{charges_of, left_by, stages_of}
use Rattle.mgn_params.specs.Tables.{Tables, commodity_at}

-- the scan risk of a commodity
abbrev pub scan_of : List Position → ℕ → ℤ
scan_of portfolio commodity = scan_risk (scenario_total commodity portfolio)

-- what the intracommodity spreads of a commodity charge (CME SPAN)
unfoldable pub intra_charge : Tables → List Position → ℕ → ℕ
intra_charge set portfolio commodity =
    charges_of (starts_from set.months (month_delta portfolio) commodity) (stages_of set.spreads commodity)

-- the spot month charge of a commodity
unfoldable pub spot_charge : Tables → List Position → ℕ → ℕ
spot_charge set portfolio commodity =
    let starts = starts_from set.months (month_delta portfolio) commodity in
    spot_charge_from starts (left_by starts (stages_of set.spreads commodity)) (spot_of set.spots commodity)

-- what the intercommodity spreads credit to each commodity, by net deltas and doubled price risks, which are never below 0
unfoldable pub credits : Tables → List Position → List ℕ
credits set portfolio =
    let commodities = range_with_len 0 (length set.commodities) in
    let deltas = map (net_delta_from set.months (month_delta portfolio)) commodities in
    credits_of deltas (map (λ g. unsigned_abs (price_risk2 (scenario_total g portfolio))) commodities) set.credits

-- the credit of a commodity
abbrev pub credit : Tables → List Position → ℕ → ℕ
credit set portfolio commodity = slice_index (credits set portfolio) commodity

-- the short option minimum of a commodity
abbrev pub minimum : Tables → List Position → ℕ → ℕ
minimum set portfolio commodity =
    short_option_minimum portfolio commodity (commodity_at set.commodities commodity).short_option_charge

-- the risk of a commodity: scan, spreading and spot charges less the credit, and at least the minimum (CME SPAN)
unfoldable pub risk : Tables → List Position → ℕ → ℤ
risk set portfolio commodity =
    int_max (scan_of portfolio commodity +ℤ pos (intra_charge set portfolio commodity) +ℤ pos (spot_charge set portfolio commodity) -ℤ pos (credit set portfolio commodity)) (pos (minimum set portfolio commodity))

-- the sum of the commodities' risks less the net option value (CME SPAN), or 0 where that is negative (own profile)
unfoldable pub requirement : Tables → List ℤ → ℤ
requirement set nets =
    let portfolio = positions set.contracts nets in
    int_max (pos 0) (signed_sum_below (risk set portfolio) (length set.commodities) -ℤ net_option_value portfolio)
