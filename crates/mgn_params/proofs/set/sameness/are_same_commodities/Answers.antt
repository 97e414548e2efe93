use Rattle.std.proofs.lemmas.Slice.Eq.{slice_eq-Decides}
use Rattle.mgn_params.proofs.RowEquality.{commodity_decides}
use Rattle.mgn_params.proofs.set.sameness.are_same_commodities.Goals as goal

pub returns : goal.returns
returns c = slice_eq-Decides commodity_decides _ _ _ c.eq.ensures
