use Rattle.std.proofs.Common.{sym}
use Rattle.mgn_inter.proofs.PlacesLemmas.{places_none}
use Rattle.mgn_inter.proofs.reworked.Reworked.none.Goals as goal

pub returns : goal.returns
returns c = sym places_none
