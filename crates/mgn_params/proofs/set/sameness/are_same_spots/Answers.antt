use Rattle.std.proofs.lemmas.Slice.Eq.{slice_eq-Decides}
use Rattle.mgn_params.proofs.RowEquality.{spot_decides}
use Rattle.mgn_params.proofs.set.sameness.are_same_spots.Goals as goal

pub returns : goal.returns
returns c = slice_eq-Decides spot_decides _ _ _ c.eq.ensures
