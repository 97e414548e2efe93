use Rattle.mgn_laws.proofs.GrowthLemmas.{adds_row}
use Rattle.mgn_laws.proofs.files.adds_one_row_at_the_end.Goals as goal

pub returns : goal.returns
returns c = adds_row
