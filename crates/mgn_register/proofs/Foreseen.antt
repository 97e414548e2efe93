-- Where nothing is known of a plan's units, nothing wrong is: for callers that have priced none.
use Rattle.std.specs.Prelude.{List}
use Rattle.mgn_params.specs.Tables.{Tables}
use Rattle.mgn_unit.specs.declared.row.Row.{Row}
use Rattle.mgn_plan.specs.declared.plans.Plan.{Plan}
use Rattle.mgn_plan.specs.declared.plans.Plan.TheVariants.{Nothing, One, Two}
use Rattle.mgn_plan.specs.Plans.{Foresees, nothing_known}

-- where nothing is known, nothing wrong is
pub foresees_nothing : (set : Tables) (rows : List Row) (plan : Plan) → Foresees set rows plan nothing_known
foresees_nothing set rows Nothing = tt
foresees_nothing set rows (One u) = tt
foresees_nothing set rows (Two u v) = (tt, tt)
