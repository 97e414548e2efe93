use Rattle.mgn_laws.proofs.PassingLemmas.{set_given}
use Rattle.mgn_laws.proofs.files.sets_what_records_give.Goals as goal
use Rattle.mgn_setfile.specs.File.{records_of}

pub returns : goal.returns
returns c = set_given (records_of c.args.text.now)
