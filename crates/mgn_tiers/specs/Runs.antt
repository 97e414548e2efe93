-- What the legs of one commodity start with, and what its stages, formed one after another, and its spot month then charge.
use Rattle.std.specs.Prelude.{ℕ, ℤ, ◌≡◌, ◌*◌, ◌≤◌, ◌^◌, List, length, slice_index, Option}
use Rattle.mgn_params.specs.declared.tables.SpotCharge.{SpotCharge}
use Rattle.mgn_span.specs.declared.stage.Stage.{Stage}
use Rattle.mgn_span.specs.Spot.{spot_charge_from}
use Rattle.mgn_span.specs.Stages.{charges_of, left_by}
use Rattle.mgn_span.specs.Sizes.{IsStart}

-- what the legs start with, what the stages charge together, and the spot month charge
pub record Run : Type 0 where
  pub starts : List ℕ
  pub charged : ℕ
  pub spot_charged : ℕ

-- the net delta of a commodity beside its run
pub record Tier : Type 0 where
  pub net_delta : ℤ
  pub run : Run

-- the charges of stages and of a spot month, by what the legs start with
abbrev pub run_from : List ℕ → List Stage → Option SpotCharge → Run
run_from starts stages spot = record {
  starts = starts;
  charged = charges_of starts stages;
  spot_charged = spot_charge_from starts (left_by starts stages) spot;
}

-- the limits on the numbers of a run
pub record IsRun (run : Run) : Type 0 where
  pub sixteen : length run.starts ≡ 16
  pub small : (k : ℕ) → IsStart (slice_index run.starts k)
  pub charged_small : run.charged ≤ 2 * 10 ^ 27
  pub spot_charged_small : run.spot_charged ≤ 10 ^ 26
