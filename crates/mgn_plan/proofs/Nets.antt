-- What a plan leaves of a unit's nets: that desks follow the plan and rows the machine rests on it.
use Rattle.std.proofs.Common.{◌≡◌, ◌≢◌, ℕ, refl, eq-eqb, ne_eqb}
use Rattle.mgn_nets.specs.Portfolios.{UnitNets}
use Rattle.mgn_plan.specs.declared.plans.UnitChange.{UnitChange}
use Rattle.mgn_plan.specs.Plans.{moved_nets, nets_by}

-- the nets of the unit that is changed, and of another
pub nets_by-same : (u : UnitChange) (k : ℕ) (nets : UnitNets) → u.unit ≡ k → nets_by u k nets ≡ moved_nets u.change nets
nets_by-same u k nets same = rw (eq-eqb u.unit k same) refl

pub nets_by-other : (u : UnitChange) (k : ℕ) (nets : UnitNets) → u.unit ≢ k → nets_by u k nets ≡ nets
nets_by-other u k nets apart = rw (ne_eqb u.unit k apart) refl
