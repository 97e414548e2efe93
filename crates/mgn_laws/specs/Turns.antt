-- The stages of intracommodity spreads in their turns.
use Rattle.std.specs.Prelude.{ℕ, ℤ, List, take}
use Rattle.mgn_span.specs.declared.stage.Stage.{Stage}
use Rattle.mgn_span.specs.Words.{charge_of, stage_at, starts_of, used_of}
use Rattle.mgn_span.specs.Positions.{positions}
use Rattle.mgn_span.specs.Stages.{left_by, stages_of}
use Rattle.mgn_params.specs.Tables.{Tables}

-- what the legs of a commodity start with, and its stages
abbrev pub starts_in : Tables → List ℤ → ℕ → List ℕ
starts_in set nets commodity = starts_of set.months (positions set.contracts nets) commodity

abbrev pub stages_in : Tables → ℕ → List Stage
stages_in set commodity = stages_of set.spreads commodity

-- what the legs have left when the turn of the stage at a place comes
abbrev pub left_at : List ℕ → List Stage → ℕ → List ℕ
left_at starts stages j = left_by starts (take j stages)

-- what it then uses of a leg
abbrev pub use_at : List ℕ → List Stage → ℕ → ℕ → ℕ
use_at starts stages leg j = used_of (left_at starts stages j) (stage_at stages j) leg

-- what it then charges
abbrev pub charge_at : List ℕ → List Stage → ℕ → ℕ
charge_at starts stages j = charge_of (left_at starts stages j) (stage_at stages j)
