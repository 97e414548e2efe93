-- A stage never uses more than its legs have: for credits, and for the laws of stages.
use Rattle.std.proofs.Common.{ℕ, ◌*◌, ◌/◌, ◌<◌, ◌≤◌, List, slice_index, arith}
use Rattle.std.proofs.Math.Nat.{mul-le-mul_right}
use Rattle.mgn_span.specs.declared.stage.Stage.{Stage}
use Rattle.mgn_span.specs.Stages.{IsStage, amount_of, used}

pub used_le_left : (amount left ratio : ℕ) → 0 < ratio → amount ≤ 10000 * left / ratio → used amount ratio ≤ left
used_le_left amount left ratio h k = let more = mul-le-mul_right ratio k in omega arith

pub first_used_le : (left : List ℕ) (s : Stage) → IsStage s → used (amount_of left s) s.first_ratio ≤ slice_index left s.first_leg
first_used_le left s h = used_le_left (amount_of left s) (slice_index left s.first_leg) s.first_ratio h.first_ratio (omega arith)

pub second_used_le : (left : List ℕ) (s : Stage) → IsStage s → used (amount_of left s) s.second_ratio ≤ slice_index left s.second_leg
second_used_le left s h = used_le_left (amount_of left s) (slice_index left s.second_leg) s.second_ratio h.second_ratio (omega arith)
