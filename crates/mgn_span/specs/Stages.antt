-- Intracommodity spreads, stage by stage in file order (CME SPAN; the rounding is of this profile).
--
-- A leg is a tier with a direction. The long leg of tier t stands at place t of a row of 16 numbers, its short leg at place 8 + t.
use Rattle.std.specs.Prelude.{ℕ, ◌+◌, ◌-◌, ◌*◌, ◌/◌, ◌<◌, ◌≤◌, ◌≢◌, ◌^◌, ◌==◌, if◌then◌else◌, min, List, [], ◌∷◌, slice_index, slice_set}
use Rattle.std.specs.Int.{div_ceil}
use Rattle.std.specs.List.{filter, flat_map, fold}
use Rattle.mgn_params.specs.declared.tables.Spread.{Spread}
use Rattle.mgn_span.specs.declared.stage.Stage.{Stage}

abbrev pub long_leg : ℕ → ℕ
long_leg tier = tier

abbrev pub short_leg : ℕ → ℕ
short_leg tier = 8 + tier

-- how many spreads a stage forms of what its two legs have left, in ten-thousandths
abbrev pub amount_of : List ℕ → Stage → ℕ
amount_of left stage =
    min (10000 * slice_index left stage.first_leg / stage.first_ratio) (10000 * slice_index left stage.second_leg / stage.second_ratio)

-- what a leg uses for an amount of spreads
abbrev pub used : ℕ → ℕ → ℕ
used amount ratio = amount * ratio / 10000

-- what the legs have left after a stage
abbrev pub left_after : List ℕ → Stage → List ℕ
left_after left stage =
    let amount = amount_of left stage in
    let first = slice_set left stage.first_leg (slice_index left stage.first_leg - used amount stage.first_ratio) in
    slice_set first stage.second_leg (slice_index left stage.second_leg - used amount stage.second_ratio)

-- what the stages charge together, each on what the earlier ones left, and each charge rounded up
abbrev pub charges_of : List ℕ → List Stage → ℕ
charges_of left [] = 0
charges_of left (stage ∷ stages) =
    div_ceil (amount_of left stage * stage.charge) 10000 + charges_of (left_after left stage) stages

-- what the stages leave
abbrev pub left_by : List ℕ → List Stage → List ℕ
left_by left stages = fold left_after left stages

-- the stages of a spread: the first tier long and the second short, then the other way round if they differ; each tier keeps its ratio
abbrev pub stages_of_spread : Spread → List Stage
stages_of_spread s =
    let there : Stage = record { first_leg = long_leg s.first_tier; first_ratio = s.first_ratio; second_leg = short_leg s.second_tier; second_ratio = s.second_ratio; charge = s.charge } in
    let back : Stage = record { first_leg = long_leg s.second_tier; first_ratio = s.second_ratio; second_leg = short_leg s.first_tier; second_ratio = s.first_ratio; charge = s.charge } in
    if s.first_tier == s.second_tier then there ∷ [] else there ∷ back ∷ []

-- the stages of a commodity, in file order
abbrev pub stages_of : List Spread → ℕ → List Stage
stages_of spreads commodity = flat_map stages_of_spread (filter (λ s. s.commodity == commodity) spreads)

-- the limits on a stage, which each stage of a spread within its limits meets
pub record IsStage (stage : Stage) : Type 0 where
  pub first_leg : stage.first_leg < 16
  pub second_leg : stage.second_leg < 16
  pub apart : stage.first_leg ≢ stage.second_leg
  pub first_ratio : 0 < stage.first_ratio
  pub second_ratio : 0 < stage.second_ratio
  pub small_first_ratio : stage.first_ratio ≤ 10 ^ 6
  pub small_second_ratio : stage.second_ratio ≤ 10 ^ 6
  pub charge : stage.charge ≤ 10 ^ 9
