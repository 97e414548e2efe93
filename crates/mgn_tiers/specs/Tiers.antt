-- The month deltas that changes add up to, and what is kept by them for each commodity of a set.
use Rattle.std.specs.Prelude.{ℕ, ◌≡◌, ◌+◌, ◌-◌, ◌<◌, ◌≤◌, ℤ, pos, slice_index, slice_set, List, length, replicate, slice_index_or, All}
use Rattle.mgn_span.specs.Deltas.{negative_part, positive_part}
use Rattle.mgn_span.specs.MonthDeltas.{net_delta_by, starts_by}
use Rattle.mgn_span.specs.Scan.{value_at}
use Rattle.mgn_span.specs.Spot.{spot_of}
use Rattle.mgn_span.specs.Stages.{stages_of}
use Rattle.mgn_params.specs.declared.tables.Month.{Month}
use Rattle.mgn_params.specs.Tables.{Tables}
use Rattle.mgn_tiers.specs.Runs.{Run, Tier, run_from}
use Rattle.mgn_span.specs.Sizes.{IsDelta, IsStart}

-- the deltas of the months, and for each commodity the net delta and the charges
pub record Tiers : Type 0 where
  pub deltas : List ℤ
  pub net_deltas : List ℤ
  pub runs : List Run

-- legs that start with nothing, and charges of 0
abbrev pub no_run : Run
no_run = record { starts = replicate 16 0; charged = 0; spot_charged = 0 }

-- a commodity of which no month has a delta
abbrev pub no_tier : Tier
no_tier = record { net_delta = pos 0; run = no_run }

abbrev pub run_at : List Run → ℕ → Run
run_at runs g = slice_index_or runs g no_run

-- the charges of a commodity by what its legs start with
abbrev pub run_of : Tables → ℕ → List ℕ → Run
run_of set g starts = run_from starts (stages_of set.spreads g) (spot_of set.spots g)

-- and by what the month deltas give its legs
abbrev pub run_by : Tables → List ℤ → ℕ → Run
run_by set deltas g = run_of set g (starts_by set.months deltas g)

-- as many rows as a set has months and commodities
pub record AreTierRows (set : Tables) (t : Tiers) : Type 0 where
  pub deltas : length t.deltas ≡ length set.months
  pub net_deltas : length t.net_deltas ≡ length set.commodities
  pub runs : length t.runs ≡ length set.commodities

-- everything is kept for a set: one delta for each of its months, and for each of its commodities what these come to
pub record AreTiersOf (set : Tables) (t : Tiers) : Type 0 where
  pub one_delta_each : length t.deltas ≡ length set.months
  pub small : All IsDelta t.deltas
  pub one_net_each : length t.net_deltas ≡ length set.commodities
  pub nets : (g : ℕ) → g < length set.commodities → value_at t.net_deltas g ≡ net_delta_by set.months t.deltas g
  pub one_run_each : length t.runs ≡ length set.commodities
  pub runs_are : (g : ℕ) → g < length set.commodities → run_at t.runs g ≡ run_by set t.deltas g

-- a run has what a month of a tier counted for in its legs, and room for another delta
pub record HasRoom (run : Run) (tier : ℕ) (old new : ℤ) : Type 0 where
  pub tier_low : tier < 8
  pub long : positive_part old ≤ slice_index run.starts tier
  pub short : negative_part old ≤ slice_index run.starts (8 + tier)
  pub small_long : IsStart (slice_index run.starts tier - positive_part old + positive_part new)
  pub small_short : IsStart (slice_index run.starts (8 + tier) - negative_part old + negative_part new)

-- the run of a month's commodity after that
abbrev pub moved : Tables → Month → Run → ℤ → ℤ → Run
moved set month run old new =
    let long = slice_index run.starts month.tier - positive_part old + positive_part new in
    let short = slice_index run.starts (8 + month.tier) - negative_part old + negative_part new in
    run_of set month.commodity (slice_set (slice_set run.starts month.tier long) (8 + month.tier) short)
