use Rattle.std.proofs.lemmas.Slice.Eq.{slice_eq-Decides}
use Rattle.mgn_params.proofs.RowEquality.{month_decides}
use Rattle.mgn_params.proofs.set.sameness.are_same_months.Goals as goal

pub returns : goal.returns
returns c = slice_eq-Decides month_decides _ _ _ c.eq.ensures
