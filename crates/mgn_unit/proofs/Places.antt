-- Nets that are carried over are nets of the new set: for `taking`, and for what is still prepared.
use Rattle.std.proofs.Common.{All, List}
use Rattle.std.specs.Prelude.{ℤ}
use Rattle.mgn_params.specs.Tables.{Tables}
use Rattle.mgn_span.specs.Positions.{IsNet}
use Rattle.mgn_nets.specs.Portfolios.{AreNets}
use Rattle.mgn_unit.specs.NewSets.{carried, places_in}
use Rattle.mgn_unit.proofs.Carried.{places-within}
use Rattle.mgn_unit.proofs.InPlace.{carried-length}

-- they are nets of the new set
pub carried-nets : (old new : Tables) (row : List ℤ) → All IsNet row → AreNets new (carried old new row)
carried-nets old new row small = record { one_each = carried-length old new row; small = places-within row (places_in old new) small }
