use Rattle.mgn_plain.proofs.DeltaLemmas.{months_all}
use Rattle.mgn_plain.proofs.deltas.month_sums.Goals as goal

pub returns : goal.returns
returns c = λ nets are. months_all c.args.set.now nets c.args.deltas.now c.add_months.new.sums c.limits.ensures are c.add_months.ensures
