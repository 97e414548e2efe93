use Rattle.mgn_laws.proofs.PassingLemmas.{accepted_where}
use Rattle.mgn_laws.proofs.files.accepts_where_each_record_passes.Goals as goal
use Rattle.mgn_setfile.specs.File.{records_of}

pub returns : goal.returns
returns c = accepted_where (records_of c.args.text.now)
