use Rattle.std.proofs.lemmas.Slice.Eq.{slice_eq-Decides}
use Rattle.mgn_params.proofs.RowEquality.{spread_decides}
use Rattle.mgn_params.proofs.set.sameness.are_same_spreads.Goals as goal

pub returns : goal.returns
returns c = slice_eq-Decides spread_decides _ _ _ c.eq.ensures
