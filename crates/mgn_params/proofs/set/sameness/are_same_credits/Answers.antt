use Rattle.std.proofs.lemmas.Slice.Eq.{slice_eq-Decides}
use Rattle.mgn_params.proofs.RowEquality.{credit_spread_decides}
use Rattle.mgn_params.proofs.set.sameness.are_same_credits.Goals as goal

pub returns : goal.returns
returns c = slice_eq-Decides credit_spread_decides _ _ _ c.eq.ensures
