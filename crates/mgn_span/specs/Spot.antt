-- The spot month charge (own profile, after SPAN's charge on delivery months).
use Rattle.std.specs.Prelude.{ℕ, ◌+◌, ◌-◌, ◌*◌, ◌==◌, List, slice_index, Option, Some, None}
use Rattle.std.specs.Int.{div_ceil}
use Rattle.std.specs.List.{find}
use Rattle.mgn_params.specs.declared.tables.SpotCharge.{SpotCharge}
use Rattle.mgn_span.specs.Stages.{long_leg, short_leg}

-- by what the legs start with and what the stages leave of them: one rate on what spreads used of the spot tier, long
-- and short, another on what is left outright, each rounded up; 0 where the commodity has no such charge
abbrev pub spot_charge_from : List ℕ → List ℕ → Option SpotCharge → ℕ
spot_charge_from starts left None = 0
spot_charge_from starts left (Some spot) =
    let outright = slice_index left (long_leg spot.tier) + slice_index left (short_leg spot.tier) in
    let spread = slice_index starts (long_leg spot.tier) + slice_index starts (short_leg spot.tier) - outright in
    div_ceil (spread * spot.spread_rate) 10000 + div_ceil (outright * spot.outright_rate) 10000

-- the spot charge record of a commodity, if it has one
abbrev pub spot_of : List SpotCharge → ℕ → Option SpotCharge
spot_of spots commodity = find (λ s. s.commodity == commodity) spots
