use Rattle.mgn_laws.proofs.PassingLemmas.{fault_is}
use Rattle.mgn_laws.proofs.files.refuses_first_faulty_record.Goals as goal
use Rattle.mgn_setfile.specs.File.{records_of}

pub returns : goal.returns
returns c = fault_is (records_of c.args.text.now)
