use Rattle.std.proofs.lemmas.Slice.Eq.{slice_eq-Decides}
use Rattle.mgn_params.proofs.RowEquality.{contract_decides}
use Rattle.mgn_params.proofs.set.sameness.are_same_contracts.Goals as goal

pub returns : goal.returns
returns c = slice_eq-Decides contract_decides _ _ _ c.eq.ensures
